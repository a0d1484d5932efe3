use Rattle.std.proofs.Common.{◌≡◌, ℕ, ◌-◌, take, Ok, Err, Result, ap, ◌∙◌, arith}
use Rattle.std.proofs.lemmas.Result.{MatchResult-weaker}
use Rattle.refusals.specs.declared.refusal.Refusal.{Refusal}
use Rattle.timetable.specs.Table.{Table}
use Rattle.image.specs.Format.{opened}
use Rattle.image.proofs.round_trip.copy.Goals as goal

same : (x : Result Table Refusal) (a b : Table) → x ≡ Ok a → x ≡ Ok b → a ≡ b
same x a b p q = cc

never : (x : Result Table Refusal) (a : Table) (e : Refusal) → x ≡ Ok a → x ≡ Err e → ⊥
never x a e p q = let z : ◌≡◌ {A = ℕ} 0 1 = cc in omega arith

-- the reader opens what was written, and that opens as the timetable
pub returns : goal.returns
returns g c =
    let n = c.in_ok-n.n in
    let z : n - 0 ≡ n = omega arith in
    let b : opened (take (n - 0) c.write.new.out) ≡ Ok (g.T.Means.meaning c.args.t.now) = ap (λ k. opened (take k c.write.new.out)) z ∙ c.in_ok-n.ensures.read_back in
    MatchResult-weaker c.open.result c.open.ensures (λ _ p. same _ _ _ p.value b) (λ r q. absurd (never _ _ _ b q.0))
