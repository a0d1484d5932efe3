-- Opening the rows: the first departures go over the board, each gets its row, and its ride goes into the label queue.
use Rattle.std.specs.Prelude.{◌≡◌, ℕ, ◌+◌, ◌<◌, ◌≤◌, cond, List, [], ◌∷◌, map, length, drop}
use Rattle.timetable.specs.declared.label.Label.{Label}
use Rattle.timetable.specs.Table.{Table, at, stations}
use Rattle.timetable.specs.Labels.{leaves, firsts, firsts_below, ranks, rank_connection, places}
use Rattle.timetable.specs.Rows.{blank, head, entry as cell}
use Rattle.queue.specs.declared.interface.Queue.{Ghosts}
use Rattle.entries.specs.declared.board.BoardEntry.{BoardEntry}
use Rattle.entries.specs.declared.label.LabelEntry.{LabelEntry}
use Rattle.entries.specs.Kinds.{label_ahead}
use Rattle.journeys.specs.Search.{Entry, entry, nowhere}
use Rattle.journeys.specs.Queued.{each}
use Rattle.turns.specs.Seen.{waiting}
use Rattle.turns.specs.Puts.{put_all}
use Rattle.turns.specs.Running.{memory_needed, first_label}

-- connection c on the board
abbrev pub board_entry : Table → ℕ → BoardEntry
board_entry t c = record { minute = (at t c).departure; connection = record { 0 = c } }

-- the same, if it is a first departure from s
abbrev pub departure_by : Table → ℕ → ℕ → List BoardEntry
departure_by t s c = cond (leaves t s c) (board_entry t c ∷ []) []

-- a board that holds the first departures from s among the connections below k
pub record Boarded {Q : Type 0} (queue : Ghosts Q BoardEntry) (t : Table) (s k : ℕ) (q q' : Q) : Type 0 where
  pub in_order : queue.ordered q'
  pub same_room : queue.room q' ≡ queue.room q
  pub holds : queue.bag q' ≡ map (board_entry t) (firsts_below t s k)

-- the first ride of rank i
abbrev pub opening_at : Table → ℕ → ℕ → List Entry
opening_at t s i = entry (at t (rank_connection t s i)).departure i (stations t + rank_connection t s i) nowhere ∷ []

-- the first rows are open; the departures of the others are on the board
pub record Opening (t : Table) (s : ℕ) (before memory : List Label) (board : List BoardEntry) (queue : List LabelEntry) (rank : ℕ) : Type 0 where
  pub below : rank ≤ ranks t s
  pub on_board : board ≡ map (board_entry t) (drop rank (firsts t s))
  pub queued : queue ≡ put_all label_ahead (map waiting (each (opening_at t s) rank)) []
  pub long : memory_needed t s ≤ length memory
  pub heads : (i : ℕ) → i < rank → head t memory i ≡ first_label t s i
  pub blanks : (i p : ℕ) → i < rank → p < places t → cell t memory i p ≡ blank
  pub same_length : length memory ≡ length before
  pub later : drop (memory_needed t s) memory ≡ drop (memory_needed t s) before
