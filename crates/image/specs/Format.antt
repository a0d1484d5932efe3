-- The packed image of a timetable: what its bytes hold, and what is wrong with them first.
--
--   byte 0     50 54 54 00 (hexadecimal), the mark
--        4     the version, 1
--        6     the period
--        8     the number of stations
--       10     the number of trains
--       12     the number of connections
--       14     a zero
--       16     the transfer time of each station
--       ..     a record of 12 bytes for each connection: train, start, end, departure, ride, mark (1 runs, 0 does not)
--
-- Every number has two bytes, the low one first.
use Rattle.std.specs.Prelude.{◌≡◌, ℕ, zero, suc, ◌+◌, ◌-◌, ◌*◌, Bool, true, false, not, ◌&&◌, ◌||◌, List, [], ◌∷◌, map, length, Some, None, Ok, Err, Option, Result, MatchResult, ◌==◌, nat_le, nat_lt, slice_index}
use Rattle.std.specs.List.{range_with_len}
use Rattle.refusals.specs.declared.refusal.Refusal.{Refusal}
use Rattle.refusals.specs.declared.refusal.Refusal.TheVariants.{ShortHeader, WrongMark, UnknownVersion, HeaderLimit, WrongLength, LongTransfer, RecordLimit, SameStation, BrokenTrain}
use Rattle.timetable.specs.Table.{Table}
use Rattle.timetable.specs.declared.connection.Connection.{Connection}
use Rattle.timetable.specs.declared.counts.Counts.{Counts}
use Rattle.image.specs.declared.record.Record.{Record}

-- ---- what the bytes hold

-- the number at byte p
abbrev pub number : List ℕ → ℕ → ℕ
number bs p = slice_index bs p + 256 * slice_index bs (p + 1)

abbrev pub version_in : List ℕ → ℕ
version_in bs = number bs 4

abbrev pub period_in : List ℕ → ℕ
period_in bs = number bs 6

abbrev pub stations_in : List ℕ → ℕ
stations_in bs = number bs 8

abbrev pub trains_in : List ℕ → ℕ
trains_in bs = number bs 10

abbrev pub connections_in : List ℕ → ℕ
connections_in bs = number bs 12

abbrev pub counts_in : List ℕ → Counts
counts_in bs = record { period = period_in bs; stations = stations_in bs; trains = trains_in bs; connections = connections_in bs }

-- the transfer time of station v
abbrev pub transfer_in : List ℕ → ℕ → ℕ
transfer_in bs v = number bs (16 + 2 * v)

-- the byte at which record c begins, behind s transfer times
abbrev pub record_place : ℕ → ℕ → ℕ
record_place s c = 16 + 2 * s + 12 * c

abbrev pub record_at : List ℕ → ℕ → ℕ
record_at bs c = record_place (stations_in bs) c

-- the record at byte p
abbrev pub record_in : List ℕ → ℕ → Record
record_in bs p = record { train = record { 0 = number bs p }; start = record { 0 = number bs (p + 2) }; end = record { 0 = number bs (p + 4) }; departure = number bs (p + 6); ride = number bs (p + 8); mark = number bs (p + 10) }

-- the connection in a record
abbrev pub connection_of : Record → Connection
connection_of r = record { train = r.train; start = r.start; end = r.end; departure = r.departure; ride = r.ride; runs = (r.mark == 1) }

abbrev pub connection_in : List ℕ → ℕ → Connection
connection_in bs p = connection_of (record_in bs p)

abbrev pub table_in : List ℕ → Table
table_in bs = record { period = period_in bs; trains = trains_in bs; transfers = map (transfer_in bs) (range_with_len 0 (stations_in bs)); list = map (λ c. connection_in bs (record_at bs c)) (range_with_len 0 (connections_in bs)) }

-- ---- what is wrong with them

-- the first of two faults
abbrev pub or_else : Option Refusal → Option Refusal → Option Refusal
or_else (Some r) o = Some r
or_else None o = o

-- a fault unless the test passes
abbrev pub unless : Bool → Refusal → Option Refusal
unless true r = None
unless false r = Some r

-- the first fault of f i, f (i + 1), .., f (i + n - 1)
abbrev pub first : (ℕ → Option Refusal) → ℕ → ℕ → Option Refusal
first f i zero = None
first f i (suc n) = or_else (f i) (first f (i + 1) n)

abbrev pub mark : List ℕ
mark = 0x50 ∷ 0x54 ∷ 0x54 ∷ 0 ∷ []

-- the header is there, and its mark and version are right
abbrev pub front_fault : List ℕ → Option Refusal
front_fault bs =
    or_else (unless (nat_le 16 (length bs)) (ShortHeader (length bs)))
    (or_else (unless (slice_index bs 0 == 0x50) (WrongMark 0))
    (or_else (unless (slice_index bs 1 == 0x54) (WrongMark 1))
    (or_else (unless (slice_index bs 2 == 0x54) (WrongMark 2))
    (or_else (unless (slice_index bs 3 == 0) (WrongMark 3))
    (unless (version_in bs == 1) (UnknownVersion (version_in bs)))))))

-- the header's other numbers are within their limits
abbrev pub limits_fault : List ℕ → Option Refusal
limits_fault bs =
    or_else (unless (nat_le 1 (period_in bs) && nat_le (period_in bs) 10080) (HeaderLimit 6))
    (or_else (unless (nat_le 1 (stations_in bs) && nat_le (stations_in bs) 1024) (HeaderLimit 8))
    (or_else (unless (nat_le (trains_in bs) 4096) (HeaderLimit 10))
    (or_else (unless (nat_le (connections_in bs) 16384) (HeaderLimit 12))
    (unless (number bs 14 == 0) (HeaderLimit 14)))))

-- there are as many bytes as the header's numbers ask for
abbrev pub length_fault : List ℕ → Option Refusal
length_fault bs = unless (length bs == record_at bs (connections_in bs)) (WrongLength (length bs))

abbrev pub transfer_fault : List ℕ → ℕ → Option Refusal
transfer_fault bs v = unless (nat_le (transfer_in bs v) 1440) (LongTransfer v)

abbrev pub transfers_fault : List ℕ → Option Refusal
transfers_fault bs = first (transfer_fault bs) 0 (stations_in bs)

-- every field of a record is within its limit
abbrev pub fields_ok : Counts → Record → Bool
fields_ok n r =
    nat_lt r.train.0 n.trains
    && (nat_lt r.start.0 n.stations
    && (nat_lt r.end.0 n.stations
    && (nat_lt r.departure n.period
    && (nat_le 1 r.ride
    && (nat_le r.ride 10080
    && nat_le r.mark 1)))))

-- the train of record r rises, or goes on where it ended in record q
abbrev pub goes_on : Record → Record → Bool
goes_on q r = nat_lt q.train.0 r.train.0 || (q.train.0 == r.train.0 && q.end.0 == r.start.0)

abbrev pub record_fault : List ℕ → ℕ → Option Refusal
record_fault bs c =
    or_else (unless (fields_ok (counts_in bs) (record_in bs (record_at bs c))) (RecordLimit c))
    (or_else (unless (not (number bs (record_at bs c + 2) == number bs (record_at bs c + 4))) (SameStation c))
    (unless (c == 0 || goes_on (record_in bs (record_at bs (c - 1))) (record_in bs (record_at bs c))) (BrokenTrain c)))

abbrev pub records_fault : List ℕ → Option Refusal
records_fault bs = first (record_fault bs) 0 (connections_in bs)

abbrev pub fault : List ℕ → Option Refusal
fault bs =
    or_else (front_fault bs)
    (or_else (limits_fault bs)
    (or_else (length_fault bs)
    (or_else (transfers_fault bs)
    (records_fault bs))))

-- a check that answers the fault, if there is one
abbrev pub Tells : {T : Type 0} → Option Refusal → Result T Refusal → Type 0
Tells o r = MatchResult r (λ _. o ≡ None) (λ e. o ≡ Some e)

-- ---- what an image means: its table, or the first thing that is wrong with it

abbrev pub opened_by : Option Refusal → Table → Result Table Refusal
opened_by None t = Ok t
opened_by (Some r) t = Err r

abbrev pub opened : List ℕ → Result Table Refusal
opened bs = opened_by (fault bs) (table_in bs)
