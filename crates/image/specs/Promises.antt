-- What opening and writing promise.
use Rattle.std.specs.Prelude.{◌≡◌, ℕ, ◌<◌, ◌≤◌, true, ◌⊎◌, List, ◌++◌, length, take, drop, is_ok, Ok, Err}
use Rattle.refusals.specs.declared.refusal.Refusal.{Refusal}
use Rattle.refusals.specs.declared.refusal.Refusal.TheVariants.{ShortOutput}
use Rattle.timetable.specs.Table.{Table, Lawful}
use Rattle.image.specs.Format.{opened}
use Rattle.image.specs.Written.{written}

-- bytes that were opened, and the table that their reader means
pub record Opens (bs : List ℕ) (t : Table) : Type 0 where
  pub value : opened bs ≡ Ok t
  pub lawful : Lawful t
  pub written_again : written t ≡ bs

-- a table that was written, the output before and after, and the length answered
pub record Writes (t : Table) (before after : List ℕ) (n : ℕ) : Type 0 where
  pub len : n ≡ length (written t)
  pub fits : n ≤ length after
  pub bytes : after ≡ written t ++ drop n before
  pub read_back : opened (take n after) ≡ Ok t

-- bytes that were opened and written out again, likewise
pub record Rewrites (bs before after : List ℕ) (n : ℕ) : Type 0 where
  pub opens : is_ok (opened bs) ≡ true
  pub len : n ≡ length bs
  pub bytes : after ≡ bs ++ drop n before

-- why that was refused: the bytes do not open, or they do and there is too little room
abbrev pub Unwritten : List ℕ → ℕ → Refusal → Type 0
Unwritten bs room e = (opened bs ≡ Err e) ⊎ ((is_ok (opened bs) ≡ true) × (room < length bs) × (e ≡ ShortOutput (length bs)))
