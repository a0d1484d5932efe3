-- Walks along the origins of one row, from its target back, that count the legs or write them.
use Rattle.std.specs.Prelude.{◌≡◌, ℕ, ◌+◌, ◌-◌, ◌*◌, ◌<◌, ◌≤◌, Bool, true, false, cond, List, ◌++◌, map, length, drop, nat_lt}
use Rattle.timetable.specs.declared.label.Label.{Label}
use Rattle.timetable.specs.declared.leg.Leg.{Leg}
use Rattle.timetable.specs.Table.{Table, stations}
use Rattle.timetable.specs.Labels.{places}
use Rattle.timetable.specs.Rows.{width, entry}
use Rattle.journeys.specs.Search.{Entry}
use Rattle.journeys.specs.Trace.{legs_of}
use Rattle.answers.specs.declared.view.View.{View}
use Rattle.answers.specs.Rowwise.{Within}
use Rattle.answers.specs.Chains.{RowChain, leg_later}
use Rattle.answers.specs.Backward.{taken, back_legs, count_back}

-- place p of row i can be read, and has a small minute
pub record Stands (t : Table) (w : View) (memory : List Label) (i p : ℕ) : Type 0 where
  pub within : Within w (length memory)
  pub row : i < w.rows
  pub wide : w.width ≡ width t
  pub there : p < places t
  pub small : (entry t memory i p).minute ≤ 400000000

-- this falls with every step to an origin
abbrev pub depth_at : Table → List Label → ℕ → ℕ → ℕ
depth_at t memory i p = (entry t memory i p).minute * places t + p

-- how many legs the entry of place p opens, where the entry taken before was a connection or not
abbrev pub opened : Table → Bool → ℕ → ℕ
opened t aboard p = cond (nat_lt p (stations t)) 0 (cond aboard 0 1)

-- the legs with the entry of place p, at minute n, taken in front
abbrev pub entered : Table → Bool → ℕ → ℕ → List Leg → List Leg
entered t aboard p n gs = cond (nat_lt p (stations t)) gs (taken t aboard (p - stations t) n gs)

-- with it, legs that are held from index j on are held from j' on
pub record TakenIn (t : Table) (aboard : Bool) (p n j : ℕ) (out : List Leg) (j' : ℕ) (out' : List Leg) : Type 0 where
  pub moved : j' + opened t aboard p ≡ j
  pub held : drop j' out' ≡ entered t aboard p n (drop j out)

-- there is room for it
pub record Room (t : Table) (aboard : Bool) (p j : ℕ) (out : List Leg) : Type 0 where
  pub inside : j ≤ length out
  pub behind : aboard ≡ true → j < length out
  pub before : stations t ≤ p → aboard ≡ false → 1 ≤ j

-- a walk from v has come to p, and has counted k legs
pub record Counting (t : Table) (w : View) (memory : List Label) (i v p : ℕ) (aboard : Bool) (k : ℕ) : Type 0 where
  pub stands : Stands t w memory i p
  pub ahead : (es : List Entry) → RowChain t memory i p es → ((all : List Entry) × RowChain t memory i v all × (k + count_back t es aboard ≡ count_back t all false))
  pub behind : (all : List Entry) → RowChain t memory i v all → ((es : List Entry) × RowChain t memory i p es)
  pub few : k + depth_at t memory i p ≤ 400000000 * 17408 + 17408

-- a walk from v has come to p, and has written its legs, each later by so many minutes, from index j up to k; before the
-- walk the output was out₀
pub record Writing (t : Table) (w : View) (memory : List Label) (i v later k : ℕ) (out₀ : List Leg) (p : ℕ) (aboard : Bool) (j : ℕ) (out : List Leg) : Type 0 where
  pub stands : Stands t w memory i p
  pub entries : List Entry
  pub chain : RowChain t memory i p entries
  pub all : List Entry
  pub whole : RowChain t memory i v all
  pub all_legs : k ≡ length (legs_of t all)
  pub legs : List Leg
  pub rest : back_legs t entries aboard legs ≡ legs_of t all
  pub some : aboard ≡ true → 1 ≤ length legs
  pub left : j + length legs ≡ k
  pub room : k ≤ length out
  pub held : drop j out ≡ map (leg_later later) legs ++ drop k out₀
