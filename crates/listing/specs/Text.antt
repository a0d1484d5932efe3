-- The text of a timetable's listing.
use Rattle.std.specs.Prelude.{ℕ, zero, suc, ◌+◌, ◌-◌, ◌/◌, ◌%◌, Bool, true, false, cond, not, ◌||◌, List, [], ◌∷◌, ◌++◌, codes, decimal, ◌==◌}
use Rattle.timetable.specs.Table.{Table, at, stations, connections, transfer}
use Rattle.timetable.specs.Counted.{counts_of}
use Rattle.timetable.specs.declared.connection.Connection.{Connection}
use Rattle.timetable.specs.declared.counts.Counts.{Counts}

-- a minute of a period: in one of 1,440 minutes as H:MM, with the number of days that have passed, if any
abbrev pub moment_text : ℕ → ℕ → List ℕ
moment_text period n =
    cond (period == 1440)
    (decimal (n % 1440 / 60) ++ (codes ":" ++ (decimal (n % 60 / 10) ++ (decimal (n % 10) ++ cond (n / 1440 == 0) [] (codes " +" ++ decimal (n / 1440))))))
    (decimal n)

abbrev pub counts_text : Counts → List ℕ
counts_text n = codes "period " ++ (decimal n.period ++ (codes " min, " ++ (decimal n.stations ++ (codes " stations, " ++ (decimal n.trains ++ (codes " trains, " ++ (decimal n.connections ++ codes " connections")))))))

abbrev pub counts_line : Table → List ℕ
counts_line t = counts_text (counts_of t)

abbrev pub station_line : ℕ → ℕ → List ℕ
station_line v minutes = codes "station " ++ (decimal v ++ (codes ": transfer time " ++ (decimal minutes ++ codes " min\n")))

abbrev pub station_lines : Table → ℕ → List ℕ
station_lines t v = station_line v (transfer t v)

abbrev pub train_line : ℕ → List ℕ
train_line z = codes "train " ++ (decimal z ++ codes "\n")

abbrev pub note : Bool → List ℕ
note true = []
note false = codes ", does not run"

-- departure, arrow (in UTF-8), arrival and length of a ride
abbrev pub span_text : ℕ → ℕ → ℕ → ℕ → List ℕ
span_text period departure arrival ride = moment_text period departure ++ (32 ∷ 0xe2 ∷ 0x86 ∷ 0x92 ∷ 32 ∷ [] ++ (moment_text period arrival ++ (codes " (" ++ (decimal ride ++ codes " min)"))))

abbrev pub ride_text : ℕ → ℕ → ℕ → List ℕ
ride_text period departure ride = span_text period departure (departure + ride) ride

abbrev pub line_with : ℕ → ℕ → ℕ → List ℕ → List ℕ → List ℕ
line_with number start end ride words = codes "  connection " ++ (decimal number ++ (codes ": " ++ (ride ++ (codes ", station " ++ (decimal start ++ (codes " to station " ++ (decimal end ++ (words ++ codes "\n"))))))))

abbrev pub connection_line : ℕ → ℕ → Connection → List ℕ
connection_line period number c = line_with number c.start.0 c.end.0 (ride_text period c.departure c.ride) (note c.runs)

-- connection c is the first of its train
abbrev pub begins_train : Table → ℕ → Bool
begins_train t c = c == 0 || not ((at t (c - 1)).train.0 == (at t c).train.0)

-- connection c, below its train if it is the first
abbrev pub train_lines : Table → ℕ → List ℕ
train_lines t c = cond (begins_train t c) (train_line (at t c).train.0) [] ++ connection_line t.period c (at t c)

-- f 0, f 1, .., f (n - 1), one after another
abbrev pub lines_below : (ℕ → List ℕ) → ℕ → List ℕ
lines_below f zero = []
lines_below f (suc n) = lines_below f n ++ f n

-- the stations with their transfer times, then the trains with their connections
abbrev pub listing_text : Table → List ℕ
listing_text t = lines_below (station_lines t) (stations t) ++ lines_below (train_lines t) (connections t)
