-- Rows in a memory, and in its front.
use Rattle.std.proofs.Common.{◌≡◌, ℕ, ◌+◌, ◌*◌, ◌<◌, ◌≤◌, List, ◌++◌, length, sym, ◌∙◌, subst, arith}
use lib.Arith.{digits_lt}
use Rattle.std.proofs.lemmas.List.{get_or_append_left, length-append}
use Rattle.timetable.specs.declared.label.Label.{Label}
use Rattle.timetable.specs.Table.{Table}
use Rattle.timetable.specs.Labels.{ranks, places}
use Rattle.timetable.specs.Rows.{Rows, blank, width, head, entry, IsEntry}

module _ (t : Table) (s : ℕ) (memory rest : List Label) (long : ranks t s * width t ≤ length memory) where
  inside : (i k : ℕ) → i < ranks t s → k < width t → i * width t + k < length memory
  inside i k l h = let z : i * width t + k < ranks t s * width t = digits_lt l h in omega arith

  same_head : (i : ℕ) → i < ranks t s → head t (memory ++ rest) i ≡ head t memory i
  same_head i l = get_or_append_left memory rest blank (i * width t) (omega (arith, inside i 0 l (omega arith)))

  same_entry : (i p : ℕ) → i < ranks t s → p < places t → entry t (memory ++ rest) i p ≡ entry t memory i p
  same_entry i p l h = get_or_append_left memory rest blank (i * width t + (1 + p)) (inside i (1 + p) l (omega arith))

pub rows_longer : (t : Table) (s : ℕ) (memory rest : List Label) → Rows t s memory → Rows t s (memory ++ rest)
rows_longer t s memory rest w = record {
  long_enough = omega (arith, w.long_enough, length-append memory rest);
  heads = λ i l. same_head t s memory rest w.long_enough i l ∙ w.heads i l;
  entries = λ i p l h. subst (IsEntry t s i p) (sym (same_entry t s memory rest w.long_enough i p l h)) (w.entries i p l h);
}

pub rows_front : (t : Table) (s : ℕ) (memory rest : List Label) → ranks t s * width t ≤ length memory → Rows t s (memory ++ rest) → Rows t s memory
rows_front t s memory rest long w = record {
  long_enough = long;
  heads = λ i l. sym (same_head t s memory rest long i l) ∙ w.heads i l;
  entries = λ i p l h. subst (IsEntry t s i p) (same_entry t s memory rest long i p l h) (w.entries i p l h);
}
