-- What the slots of a table say of trains. A free slot is `None`.
use Rattle.std.specs.Prelude.{◌≡◌, ℕ, ◌+◌, ◌<◌, ◌≢◌, Bool, true, false, cond, List, [], ◌∷◌, length, Some, None, Option, is_some, option_map, count_by, ◌==◌, slice_index_or}
use Rattle.timetable.specs.declared.report.Report.{Report}
use Rattle.notices.specs.declared.notice.Notice.{Notice}

-- how many notices there are of a train: one, or none where nothing is reported of it
abbrev pub weight : Option Report → ℕ
weight r = cond (is_some r) 1 0

-- a notice for train z stands there
abbrev pub names : Option Notice → ℕ → Bool
names None z = false
names (Some n) z = n.train.0 == z

-- what a slot says of the train that it names
abbrev pub said : Option Notice → Option Report
said n = option_map (λ n. n.report) n

-- what the slots say of a train
abbrev pub found : List (Option Notice) → ℕ → Option Report
found [] z = None
found (n ∷ ns) z = cond (names n z) (said n) (found ns z)

-- how many notices stand
abbrev pub used : List (Option Notice) → ℕ
used ns = count_by is_some ns

-- at most one notice for a train
abbrev pub OneEach : List (Option Notice) → Type 0
OneEach ns = (z i j : ℕ) → (i < j) × (names (slice_index_or ns i None) z ≡ true) × (names (slice_index_or ns j None) z ≡ true) → ⊥

-- a notice for train z may stand in slot i: it holds none for another train, and no other slot holds one for z
pub record IsSlotFor (ns : List (Option Notice)) (z i : ℕ) : Type 0 where
  pub within : i < length ns
  pub own : (y : ℕ) → y ≢ z → names (slice_index_or ns i None) y ≡ false
  pub others : (j : ℕ) → j ≢ i → names (slice_index_or ns j None) z ≡ false

-- report r entered for train z, over what stood: of every other train the slots say what they said
pub record Entered (ns ns' : List (Option Notice)) (z : ℕ) (r : Option Report) : Type 0 where
  pub says : (y : ℕ) → found ns' y ≡ cond (y == z) r (found ns y)
  pub count : used ns' + weight (found ns z) ≡ used ns + weight r
