use Rattle.std.proofs.Common.{◌%◌, ◌/◌, ◌∷◌, ◌++◌, sym, ap, ◌∙◌, subst}
use Rattle.std.specs.Fmt.{decimal, styled_decimal, HasWritten}
use Rattle.listing.specs.Text.{moment_text}
use Rattle.listing.proofs.Digits.{first_day, later_day}
use Rattle.listing.proofs.clock.MomentDisplay.fmt.Goals as goal

pub returns-then-day-eq0-clause-writes : goal.returns-then-day-eq0-clause-writes
returns-then-day-eq0-clause-writes g c = λ p o.
    let m = c.args.self.now.minute in
    subst (λ b. HasWritten g.W.Write.write_str_gives c.args.f.now b c.write-then-day-eq0.new.self)
    (ap (λ s. decimal (m % 1440 / 60) ++ (58 ∷ styled_decimal s (m % 60))) c.laid_out.ensures ∙ (first_day m c.if-day-eq0.true ∙ ap (λ q. moment_text q m) (sym c.if-self-ne1440.false)))
    (c.write-then-day-eq0.ensures.writes p o)

pub returns-else-day-eq0-clause-writes : goal.returns-else-day-eq0-clause-writes
returns-else-day-eq0-clause-writes g c = λ p o.
    let m = c.args.self.now.minute in
    subst (λ b. HasWritten g.W.Write.write_str_gives c.args.f.now b c.write-else-day-eq0.new.self)
    (ap (λ s. decimal (m % 1440 / 60) ++ (58 ∷ (styled_decimal s (m % 60) ++ (32 ∷ 43 ∷ decimal (m / 1440))))) c.laid_out-else-day-eq0.ensures ∙ (later_day m c.if-day-eq0.false ∙ ap (λ q. moment_text q m) (sym c.if-self-ne1440.false)))
    (c.write-else-day-eq0.ensures.writes p o)
