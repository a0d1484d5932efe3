use Rattle.std.proofs.Common.{Bool, true, false, MatchBool, subst, arith}
use Rattle.timetable.specs.declared.label.Label.{Label}
use Rattle.timetable.specs.Labels.{Gives}
use Rattle.questions.proofs.chain.Origins.gives.Goals as goal

both : (b : Bool) (P Q : Type 0) → P → MatchBool b Q (Q → ⊥) → MatchBool b (P × Q) (P → Q → ⊥)
both true P Q p h = (p, h)
both false P Q p h = λ _ q. h q

pub returns : goal.returns
returns g c =
    let t = g.T.Means.meaning c.args.self.now.timetable.now in
    both _ _ _ (omega (arith, c.if-self-place.false)) (subst (λ (l : Label). MatchBool c.gives.result (Gives t c.args.place l.minute c.args.label.place c.args.label.minute) (Gives t c.args.place l.minute c.args.label.place c.args.label.minute → ⊥)) c.entry-minute.ensures c.gives.ensures)
