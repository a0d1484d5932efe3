-- Rows one by one, as code looks at them: which rows' pairs are to be answered.
use Rattle.std.specs.Prelude.{◌≡◌, ℕ, zero, suc, ◌+◌, ◌*◌, ◌<◌, ◌≤◌, List, [], ◌∷◌, ◌++◌, slice_index_or}
use Rattle.timetable.specs.declared.label.Label.{Label}
use Rattle.timetable.specs.declared.pair.Pair.{Pair}
use Rattle.timetable.specs.Table.{Table}
use Rattle.timetable.specs.Rows.{width, blank}
use Rattle.answers.specs.declared.view.View.{View}
use Rattle.answers.specs.RowPairs.{pair}
use Rattle.answers.specs.Foreign.{ForeignRow}

-- m rows, looked at for target v
abbrev pub view_of : Table → ℕ → ℕ → View
view_of t m v = record { rows = m; width = width t; target = v; period = t.period }

-- a row's departure and connection, and its entry of a place
abbrev pub row_head : View → List Label → ℕ → Label
row_head w memory i = slice_index_or memory (i * w.width) blank

abbrev pub row_entry : View → List Label → ℕ → ℕ → Label
row_entry w memory i p = slice_index_or memory (i * w.width + (1 + p)) blank

abbrev pub leaving : View → List Label → ℕ → ℕ
leaving w memory i = (row_head w memory i).minute

abbrev pub coming : View → List Label → ℕ → ℕ
coming w memory i = (row_entry w memory i w.target).minute

abbrev pub Comes : View → List Label → ℕ → Type 0
Comes w memory i = coming w memory i ≡ 4294967295 → ⊥

-- a memory that holds the rows, and a target within them
pub record Within (w : View) (n : ℕ) : Type 0 where
  pub long : w.rows * w.width ≤ n
  pub small : w.rows * w.width < 281474976710656
  pub inside : 1 + w.target < w.width

-- no search wrote row i
abbrev pub ForeignIn : View → List Label → ℕ → Type 0
ForeignIn w memory i = ForeignRow w.period w.width memory w.target i

-- row j leaves row i its pair: a period later j arrives later; so it does at once, if it is a higher row; and if it departs
-- with i, it arrives no earlier
pub record Yields (w : View) (memory : List Label) (i j : ℕ) : Type 0 where
  pub later : coming w memory i < coming w memory j + w.period
  pub higher : i < j → coming w memory i < coming w memory j
  pub same : leaving w memory j ≡ leaving w memory i → coming w memory i ≤ coming w memory j

-- row i has a pair that all rows leave it
pub record ChosenRow (w : View) (memory : List Label) (i : ℕ) : Type 0 where
  pub there : i < w.rows
  pub comes : Comes w memory i
  pub alone : (j : ℕ) → j < w.rows → Comes w memory j → Yields w memory i j

-- the first chosen row that departs at n or later
pub record FirstFrom (w : View) (memory : List Label) (n i : ℕ) : Type 0 where
  pub chosen : ChosenRow w memory i
  pub late_enough : n ≤ leaving w memory i
  pub first : (j : ℕ) → j < i → ChosenRow w memory j → n ≤ leaving w memory j → ⊥

abbrev pub NoneFrom : View → List Label → ℕ → Type 0
NoneFrom w memory n = (j : ℕ) → ChosenRow w memory j → n ≤ leaving w memory j → ⊥

-- the row of the first pair at or after n: in this period, or else in the next
pub data FirstPair (w : View) (memory : List Label) (n i k : ℕ) : Type 0 where
  now : FirstFrom w memory n i → k ≡ 0 → FirstPair w memory n i k
  next : NoneFrom w memory n → FirstFrom w memory 0 i → k ≡ 1 → FirstPair w memory n i k

abbrev pub row_pair : View → List Label → ℕ → Pair
row_pair w memory i = pair (leaving w memory i) (coming w memory i)

-- the pairs of the chosen rows below i
pub data Listed (w : View) (memory : List Label) : ℕ → List Pair → Type 0 where
  none : Listed w memory zero []
  take : {i : ℕ} {ps : List Pair} → Listed w memory i ps → ChosenRow w memory i → Listed w memory (suc i) (ps ++ row_pair w memory i ∷ [])
  pass : {i : ℕ} {ps : List Pair} → Listed w memory i ps → (ChosenRow w memory i → ⊥) → Listed w memory (suc i) ps
