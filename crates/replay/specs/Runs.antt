-- The law over whole runs: the calls of a list, one after another, on one fresh planner and one label memory.
use Rattle.std.specs.Prelude.{◌≡◌, ℕ, ◌-◌, min, List, [], ◌∷◌, ◌++◌, length, take, drop, Some, None, Result}
use Rattle.refusals.specs.declared.refusal.Refusal.{Refusal}
use Rattle.timetable.specs.declared.label.Label.{Label}
use Rattle.timetable.specs.declared.leg.Leg.{Leg}
use Rattle.timetable.specs.declared.pair.Pair.{Pair}
use Rattle.timetable.specs.declared.report.Report.TheVariants.{Cancelled, Late}
use Rattle.timetable.specs.Table.{Table}
use Rattle.search.specs.declared.found.Found.{Found}
use Rattle.law.specs.Book.{Book, reported_as, searched, if_accepted}
use Rattle.law.specs.Lines.{ReportLine, LiftLine, SearchLine, ArriveLine, ProfileLine, JourneyLine}
use Rattle.law.specs.Agreement.{Agrees}
use Rattle.planner.specs.declared.planner.Planner.{Planner}
use Rattle.replay.specs.declared.buffers.Buffers.{Buffers}
use Rattle.replay.specs.declared.call.Call.{Call}
use Rattle.replay.specs.declared.call.Call.TheVariants as call
use Rattle.replay.specs.declared.order.Order.{Order}
use Rattle.replay.specs.declared.order.Queues.{Queues}
use Rattle.replay.specs.declared.order.Queues.TheVariants.{First, Second}
use Rattle.replay.specs.declared.answer.Answer.{Answer}
use Rattle.replay.specs.declared.answer.Answer.TheVariants as answer
use Rattle.replay.specs.declared.queue_pair.QueuePair.{QueuePair}

-- what is lent to a call or to a run, beside the queues
pub record Lent : Type 0 where
  pub memory : List Label
  pub pairs : List Pair
  pub legs : List Leg

-- what the buffers hold
abbrev pub held : Buffers → Lent
held b = record { memory = b.memory.now; pairs = b.pairs.now; legs = b.legs.now }

-- the same places in memory, each as long as it was
pub record SameBuffers (b b' : Buffers) : Type 0 where
  pub memory : b'.memory.ghost_name ≡ b.memory.ghost_name
  pub pairs : b'.pairs.ghost_name ≡ b.pairs.ghost_name
  pub legs : b'.legs.ghost_name ≡ b.legs.ghost_name
  pub memory_length : length b'.memory.now ≡ length b.memory.now
  pub pairs_length : length b'.pairs.now ≡ length b.pairs.now
  pub legs_length : length b'.legs.now ≡ length b.legs.now

-- ---- the book

-- after an accepted call
abbrev pub entered : Book → Call → Book
entered b (call.Cancel z) = reported_as b z.0 (Some Cancelled)
entered b (call.Late z d) = reported_as b z.0 (Some (Late d))
entered b (call.Lift z) = reported_as b z.0 None
entered b (call.Search s) = searched b s.0
entered b (call.Arrive v n) = b
entered b (call.Profile v) = b
entered b (call.Journey v n) = b

-- after a call that was answered so
abbrev pub next : Book → Call → Answer → Book
next b c (answer.Noted r) = if_accepted r (entered b c) b
next b c (answer.Searched r) = if_accepted r (entered b c) b
next b c (answer.Arrived r) = b
next b c (answer.Profiled r) = b
next b c (answer.Travelled r) = b

-- ---- one call

-- the law's line for a call at the book b: p was lent, q is left, and these are the capacities of the two queues lent to it
abbrev pub Line : Table → (board labels : ℕ) → Book → Call → Answer → Lent → Lent → Type 0
Line t board labels b (call.Cancel z) x p q = (r : Result (Unit {0}) Refusal) × (x ≡ answer.Noted r) × (q ≡ p) × ReportLine t b z.0 (Some Cancelled) r
Line t board labels b (call.Late z d) x p q = (r : Result (Unit {0}) Refusal) × (x ≡ answer.Noted r) × (q ≡ p) × ReportLine t b z.0 (Some (Late d)) r
Line t board labels b (call.Lift z) x p q = (r : Result (Unit {0}) Refusal) × (x ≡ answer.Noted r) × (q ≡ p) × LiftLine t b z.0 r
Line t board labels b (call.Search s) x p q = (r : Result Found Refusal) × (x ≡ answer.Searched r) × (q.pairs ≡ p.pairs) × (q.legs ≡ p.legs) × SearchLine t b s.0 board labels p.memory r q.memory
Line t board labels b (call.Arrive v n) x p q = (r : Result Pair Refusal) × (x ≡ answer.Arrived r) × (q ≡ p) × ArriveLine t b p.memory v.0 n r
Line t board labels b (call.Profile v) x p q = (r : Result ℕ Refusal) × (x ≡ answer.Profiled r) × (q.memory ≡ p.memory) × (q.legs ≡ p.legs) × ProfileLine t b p.memory v.0 p.pairs r q.pairs
Line t board labels b (call.Journey v n) x p q = (r : Result ℕ Refusal) × (x ≡ answer.Travelled r) × (q.memory ≡ p.memory) × (q.pairs ≡ p.pairs) × JourneyLine t b p.memory v.0 n p.legs r q.legs

-- ---- what an order lends

-- the capacities of a pair of queues
pub record Room : Type 0 where
  pub board : ℕ
  pub labels : ℕ

-- where board and labels are the capacities of its queues
abbrev pub room_of : {B L : Type 0} → (B → ℕ) → (L → ℕ) → QueuePair B L → Room
room_of board labels q = record { board = board q.board.now; labels = labels q.labels.now }

-- the same queues, with the capacities that they had
pub record SameQueues {B L : Type 0} (board : B → ℕ) (labels : L → ℕ) (q q' : QueuePair B L) : Type 0 where
  pub board_queue : q'.board.ghost_name ≡ q.board.ghost_name
  pub labels_queue : q'.labels.ghost_name ≡ q.labels.ghost_name
  pub board_room : board q'.board.now ≡ board q.board.now
  pub labels_room : labels q'.labels.now ≡ labels q.labels.now

-- those of the two pairs of queues
pub record Rooms : Type 0 where
  pub first : Room
  pub second : Room

-- those of one of them
abbrev pub room_in : Rooms → Queues → Room
room_in r First = r.first
room_in r Second = r.second

-- the part of a list from one place to another, and the list with that part replaced
abbrev pub part : {X : Type 0} → ℕ → ℕ → List X → List X
part from to xs = take (to - from) (drop from xs)

abbrev pub put_back : {X : Type 0} → ℕ → ℕ → List X → List X → List X
put_back from to xs ys = take from xs ++ (ys ++ drop (to - from) (drop from xs))

-- where the order's part of a list ends and begins, as far as the list reaches
abbrev pub end_of : {X : Type 0} → Order → List X → ℕ
end_of o xs = min o.to (length xs)

abbrev pub start_of : {X : Type 0} → Order → List X → ℕ
start_of o xs = min o.from (end_of o xs)

-- how much of the memory it lends
abbrev pub front_of : Order → List Label → ℕ
front_of o memory = min o.memory (length memory)

-- of what is lent to the run, p, the parts that are lent to the call
abbrev pub lends : Order → Lent → Lent
lends o p = record {
  memory = take (front_of o p.memory) p.memory;
  pairs = part (start_of o p.pairs) (end_of o p.pairs) p.pairs;
  legs = part (start_of o p.legs) (end_of o p.legs) p.legs;
}

-- the whole again, where the call left q of its parts
abbrev pub leaves : Order → Lent → Lent → Lent
leaves o p q = record {
  memory = q.memory ++ drop (front_of o p.memory) p.memory;
  pairs = put_back (start_of o p.pairs) (end_of o p.pairs) p.pairs q.pairs;
  legs = put_back (start_of o p.legs) (end_of o p.legs) p.legs q.legs;
}

-- the line for an order's call, with what the order lends it: of queues with this room, no more than it says
abbrev pub OrderLine : Table → Room → Book → Order → Answer → Lent → Lent → Type 0
OrderLine t room b o x p q = (left : Lent) × Line t (min o.limits.board room.board) (min o.limits.labels room.labels) b o.call x (lends o p) left × (q ≡ leaves o p left)

-- ---- runs

-- a call that was carried out: what was lent to the run before it and after it
pub record Step : Type 0 where
  pub ordered : Order
  pub answered : Answer
  pub before : Lent
  pub after : Lent

-- a run from the book b and what is lent, p, to what is left, q: each step begins with what the step before it left, and has its
-- line at the book after the steps before it
abbrev pub Run : Table → Rooms → Book → Lent → List Step → Lent → Type 0
Run t rooms b p [] q = q ≡ p
Run t rooms b p (s ∷ rest) q =
    (s.before ≡ p)
    × OrderLine t (room_in rooms s.ordered.queues) b s.ordered s.answered s.before s.after
    × Run t rooms (next b s.ordered.call s.answered) s.after rest q

-- ---- the law of one step: for every book that agrees before it, its line, and agreement after it with the book after it

-- a planner and a memory agree with a book, over the timetable t under the reports
abbrev pub PlannerAgrees : {T : Type 0} → Table → Book → Planner T → List Label → Type 0
PlannerAgrees t b p memory = Agrees t b p.notices.table.slots p.standing memory

-- the planner was p and is p'
abbrev pub StepLaw : {T : Type 0} → (T → Table) → (board labels : ℕ) → Planner T → Call → Answer → Lent → Planner T → Lent → Type 0
StepLaw meaning board labels p c x m p' n =
    let t = meaning p.notices.below in
    (b : Book) (rest : List Label) → PlannerAgrees t b p (m.memory ++ rest)
    → Line t board labels b c x m n × PlannerAgrees t (next b c x) p' (n.memory ++ rest)

abbrev pub OrderLaw : {T : Type 0} → (T → Table) → Room → Planner T → Order → Answer → Lent → Planner T → Lent → Type 0
OrderLaw meaning room p o x m p' n =
    let t = meaning p.notices.below in
    (b : Book) → PlannerAgrees t b p m.memory
    → OrderLine t room b o x m n × PlannerAgrees t (next b o.call x) p' n.memory
