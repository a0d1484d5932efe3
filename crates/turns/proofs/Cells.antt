-- Rows in a list, after a write.
use Rattle.std.proofs.Common.{◌≡◌, ℕ, ◌+◌, ◌*◌, ◌<◌, ◌≤◌, List, length, drop, set, arith}
use lib.Arith.{digits_lt}
use Rattle.std.proofs.lemmas.List.{get_or-set_same, get_or-set_other, drop-set-lt}
use Rattle.timetable.specs.declared.label.Label.{Label}
use Rattle.timetable.specs.Rows.{blank}
use Rattle.journeys.proofs.Small.{apart}
use Rattle.turns.specs.Cells.{head_at, cell_at}

-- another row or column, another place
pub inside : (m n i p : ℕ) → i < m → p < n → i * (n + 1) + (1 + p) < m * (n + 1)
inside m n i p h k = digits_lt h (omega arith)

-- entry (i, p) was written, and nothing else
pub record Wrote (m n : ℕ) (cells cells' : ℕ → ℕ → Label) (i p : ℕ) (v : Label) : Type 0 where
  pub same : cells' i p ≡ v
  pub other : (j q : ℕ) → j < m → q < n → (j ≡ i → q ≡ p → ⊥) → cells' j q ≡ cells j q

module _ (m n i p : ℕ) (hi : i < m) (hp : p < n) (v : Label) (memory : List Label) (long : m * (n + 1) ≤ length memory) where
  pub wrote : Wrote m n (cell_at (n + 1) memory) (cell_at (n + 1) (set memory (i * (n + 1) + (1 + p)) v)) i p v
  wrote = record {
    same = get_or-set_same memory (i * (n + 1) + (1 + p)) v blank (omega (arith, inside m n i p hi hp));
    other = λ j q hj hq ne. get_or-set_other memory (i * (n + 1) + (1 + p)) (j * (n + 1) + (1 + q)) v blank (λ e. let z = apart (n + 1) j i (1 + q) (1 + p) (omega arith) (omega arith) e in ne z.0 (omega (arith, z.1)));
  }

  pub wrote_head : (j : ℕ) → head_at (n + 1) (set memory (i * (n + 1) + (1 + p)) v) j ≡ head_at (n + 1) memory j
  wrote_head j = get_or-set_other memory (i * (n + 1) + (1 + p)) (j * (n + 1)) v blank (λ e. let z = apart (n + 1) j i 0 (1 + p) (omega arith) (omega arith) (omega (arith, e)) in omega (arith, z.1))

  pub wrote_later : drop (m * (n + 1)) (set memory (i * (n + 1) + (1 + p)) v) ≡ drop (m * (n + 1)) memory
  wrote_later = drop-set-lt (m * (n + 1)) memory (i * (n + 1) + (1 + p)) v (inside m n i p hi hp)
