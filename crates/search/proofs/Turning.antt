-- The turns of the loop, by what the queue and the memory hold.
use Rattle.std.proofs.Common.{◌≡◌, ℕ, ◌+◌, ◌*◌, ◌<◌, ◌≤◌, Bool, true, false, List, [], ◌∷◌, ap, ◌∙◌, subst, arith}
use Rattle.timetable.specs.declared.label.Label.{Label}
use Rattle.timetable.specs.Table.{Table, Lawful}
use Rattle.timetable.specs.Labels.{ranks, places}
use Rattle.timetable.specs.Rows.{entry as cell}
use Rattle.entries.specs.declared.label.LabelEntry.{LabelEntry}
use Rattle.turns.specs.Cells.{Settled}
use Rattle.turns.specs.Running.{memory_needed, Turn}
use Rattle.turns.specs.Theorems.{First, Settling}
use Rattle.turns.proofs.Cells.{inside}
use Rattle.turns.proofs.Departures.{memory_small}
use Rattle.turns.proofs.Openings.{row_end}
use Rattle.turns.proofs.Turns.{first_small, drop_keeps, settle_keeps, end_gives_rows, few_written}
use Rattle.search.specs.Answer.{Searched}

-- rows and entries by the sizes of a plan, n places and m first departures, are within the memory that the table asks for
module _ (t : Table) (s n m : ℕ) (every_place : n ≡ places t) (every_rank : m ≡ ranks t s) (i : ℕ) (below : i < m) where
  product : m * (n + 1) ≡ memory_needed t s
  product = ap (λ (z : ℕ). z * (n + 1)) every_rank ∙ ap (λ (z : ℕ). ranks t s * (z + 1)) every_place

  pub entry_inside : (p : ℕ) → p < n → i * (n + 1) + (1 + p) < memory_needed t s
  entry_inside p h = omega (arith, inside m n i p below h, product)

  pub row_inside : i * (n + 1) + (n + 1) ≤ memory_needed t s
  row_inside = omega (arith, row_end m n i below, product)

module _ {t : Table} (law : Lawful t) {s room : ℕ} {before memory : List Label} {queue : List LabelEntry} {written : ℕ} (turn : Turn t s room before memory queue written) where
  -- the count fits 32 bits
  pub count_small : written ≤ 300000000
  count_small = omega (arith, few_written t s room before memory queue written turn, less, memory_small t s law)
    where
      less : ranks t s * places t ≤ memory_needed t s
      less = omega arith

  module _ {x : LabelEntry} {rest : List LabelEntry} (taken : queue ≡ x ∷ rest) where
    turn' : Turn t s room before memory (x ∷ rest) written
    turn' = subst (λ (q : List LabelEntry). Turn t s room before memory q written) taken turn

    pub taken_small : (x.minute < 400000000) × (x.rank.0 < ranks t s) × (x.place.0 < places t)
    taken_small = first_small t law s room before memory x rest written turn'

    module _ {r : Bool} (answer : Settled (ranks t s) (cell t memory) x.rank.0 x.place.0 r) (first : First x rest) where
      pub dropped : r ≡ true → Turn t s room before memory rest written
      dropped e = drop_keeps t law s room before memory x rest written turn' first (subst (λ (b : Bool). Settled (ranks t s) (cell t memory) x.rank.0 x.place.0 b) e answer)

      pub settling : r ≡ false → Settling t s room before memory x rest written
      settling e = settle_keeps t law s room before memory x rest written turn' first (subst (λ (b : Bool). Settled (ranks t s) (cell t memory) x.rank.0 x.place.0 b) e answer)

-- the rows were opened in the memory `opened`, and then the loop ran to its end
pub answered : (t : Table) → Lawful t → (s : ℕ) {room n written : ℕ} {before opened memory : List Label} {queue : List LabelEntry} → n ≡ ranks t s → Turn t s room before opened queue 0 → Turn t s room opened memory [] written → Searched t s before memory (record { departures = n; labels = written })
answered t law s {room} {n} {written} {before} {opened} {memory} k o r = record {
  rows = end_gives_rows t law s room opened memory written r;
  same_length = r.same_length ∙ o.same_length;
  later = r.later ∙ o.later;
  departures = k;
  labels = r.count;
  few = few_written t s room opened memory [] written r;
}
