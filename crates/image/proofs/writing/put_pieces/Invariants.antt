use Rattle.std.proofs.Common.{◌≡◌, ℕ, ◌*◌, ◌<◌, List, [], length, get_or, take}
use lib.Seq.{paste}
use Rattle.std.specs.List.{concat}
use Rattle.image.proofs.writing.put_pieces.Given as goal

abbrev pub invariant-loop-i : goal.invariant-loop-i
invariant-loop-i g l =
    (xs : List (List ℕ)) → length xs ≡ l.n → ((i : ℕ) (r : _) → i < l.n → goal.F-post g l.piece i r → g.P.AsSlice.items r ≡ get_or xs i [])
    → (length (concat (take l.i xs)) ≡ l.width * l.i) × (l.out ≡ paste l.initial.out l.place (concat (take l.i xs)) (l.width * l.i))
