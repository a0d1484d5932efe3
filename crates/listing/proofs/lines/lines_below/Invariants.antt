use Rattle.std.proofs.Common.{◌≡◌, ℕ, ◌<◌, List, IfOk, string_bytes}
use Rattle.listing.specs.Text.{lines_below}
use Rattle.listing.proofs.lines.lines_below.Given as goal

abbrev pub invariant-loop-i : goal.invariant-loop-i
invariant-loop-i g l = (f : ℕ → List ℕ) → ((i : ℕ) (r : _) → i < l.n → goal.F-post g l.lines i r → IfOk r (λ s. string_bytes s ≡ f i)) → string_bytes l.text ≡ lines_below f l.i
