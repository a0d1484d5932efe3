-- Pairs of chosen rows listed, and items written, one after another.
use Rattle.std.proofs.Common.{◌≡◌, ℕ, ◌+◌, ◌<◌, List, [], ◌∷◌, ◌++◌, length, take, drop, set, sym, ap, ◌∙◌, add-one, arith}
use Rattle.std.proofs.lemmas.List.{take_more_set, drop-set-lt, drop-drop, length_push}
use Rattle.timetable.specs.declared.label.Label.{Label}
use Rattle.timetable.specs.declared.pair.Pair.{Pair}
use Rattle.answers.specs.declared.view.View.{View}
use Rattle.answers.specs.Rowwise.{ChosenRow, row_pair, Listed, take as taken, pass}
use Rattle.answers.proofs.Outdone.{no_fewer}

module _ (w : View) (memory : List Label) (i : ℕ) (ps : List Pair) (l : Listed w memory i ps) where
  -- row i is chosen, or it is not
  pub list_more : ChosenRow w memory i → Listed w memory (i + 1) (ps ++ row_pair w memory i ∷ [])
  list_more c = rw add-one (taken l c)

  pub list_same : (ChosenRow w memory i → ⊥) → Listed w memory (i + 1) ps
  list_same n = rw add-one (pass l n)

  -- one more has room where all have
  pub room : (qs : List Pair) → Listed w memory w.rows qs → i < w.rows → ChosenRow w memory i → length ps < length qs
  room qs k h c = omega (arith, no_fewer w memory (i + 1) w.rows (list_more c) k (omega arith), length_push ps (row_pair w memory i))

-- one more is written
pub write_more : {X : Type 0} (ps out out₀ : List X) (n : ℕ) (x : X) → n < length out → take n out ≡ ps → drop n out ≡ drop n out₀ → (take (n + 1) (set out n x) ≡ ps ++ x ∷ []) × (drop (n + 1) (set out n x) ≡ drop (n + 1) out₀)
write_more ps out out₀ n x h t d = (
  take_more_set out n x h ∙ ap (λ (z : List _). z ++ x ∷ []) t,
  drop-set-lt (n + 1) out n x (omega arith) ∙ sym (drop-drop 1 n out) ∙ ap (λ (z : List _). drop 1 z) d ∙ drop-drop 1 n out₀,
)
