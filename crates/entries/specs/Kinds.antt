-- The orders of the two kinds of entry.
use Rattle.std.specs.Prelude.{ℕ, Bool, ◌&&◌, ◌||◌, ◌==◌, nat_lt}
use Rattle.entries.specs.declared.board.BoardEntry.{BoardEntry}
use Rattle.entries.specs.declared.label.LabelEntry.{LabelEntry}

-- a is below b, or they are equal and the rest decides
abbrev pub first_by : ℕ → ℕ → Bool → Bool
first_by a b rest = nat_lt a b || (a == b && rest)

-- the earlier minute, then the lower connection
abbrev pub board_ahead : BoardEntry → BoardEntry → Bool
board_ahead x y = first_by x.minute y.minute (nat_lt x.connection.0 y.connection.0)

-- the earlier minute, then the higher rank, then the lower place, then the higher origin
abbrev pub label_ahead : LabelEntry → LabelEntry → Bool
label_ahead x y = first_by x.minute y.minute (first_by y.rank.0 x.rank.0 (first_by x.place.0 y.place.0 (nat_lt y.origin.0 x.origin.0)))
