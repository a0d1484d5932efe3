-- What a search that is not refused may rest on.
use Rattle.std.proofs.Common.{◌≡◌, ℕ, ◌≤◌, Bool, true, false, cond, ltb, leb, Some, None, Option, refl, arith}
use Rattle.std.proofs.lemmas.Bool.{ltb-false}
use Rattle.refusals.specs.declared.refusal.Refusal.{Refusal}
use Rattle.timetable.specs.Table.{Table, stations}
use Rattle.timetable.specs.Labels.{ranks}
use Rattle.turns.specs.Running.{queue_needed, memory_needed}
use Rattle.search.specs.Sizes.{search_refusal}

pub record Accepted (t : Table) (s board labels memory : ℕ) : Type 0 where
  pub board_fits : ranks t s ≤ board
  pub labels_fit : queue_needed t s ≤ labels
  pub memory_fits : memory_needed t s ≤ memory

-- the first does not hold, and what follows refuses nothing
passed : (b : Bool) (x : Option Refusal) (r : Refusal) → cond b (Some r) x ≡ None → (b ≡ false) × (x ≡ None)
passed true x r e = let z : ◌≡◌ {A = ℕ} 0 1 = cc in absurd (omega arith)
passed false x r e = (refl, e)

pub accepted : (t : Table) (s board labels memory : ℕ) → search_refusal t s board labels memory ≡ None → Accepted t s board labels memory
accepted t s board labels memory e =
    let a = passed (leb (stations t) s) _ _ e in
    let b = passed (ltb board (ranks t s)) _ _ a.1 in
    let c = passed (ltb labels (queue_needed t s)) _ _ b.1 in
    let d = passed (ltb memory (memory_needed t s)) _ _ c.1 in
    record {
      board_fits = ltb-false board (ranks t s) b.0;
      labels_fit = ltb-false labels (queue_needed t s) c.0;
      memory_fits = ltb-false memory (memory_needed t s) d.0;
    }
