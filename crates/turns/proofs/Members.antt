-- The entries of a label queue, as the search has them.
use Rattle.std.proofs.Common.{◌≡◌, Bool, false, ◌⊎◌, List, [], ◌∷◌, ◌++◌, map, refl, inl, inr, arith}
use Rattle.std.specs.List.{AllByRecursion}
use Rattle.std.proofs.lemmas.Bool.{cond_both}
use Rattle.std.proofs.lemmas.Bool.Decides.{nat_tests}
use Rattle.queue.specs.Order.{inserted}
use Rattle.entries.specs.declared.label.LabelEntry.{LabelEntry}
use Rattle.entries.specs.Kinds.{label_ahead}
use Rattle.journeys.specs.Search.{Entry, Mem, here, there, Before, Takes}
use Rattle.turns.specs.Seen.{seen, waiting}
use Rattle.turns.specs.Puts.{put_all}

before_of : (x y : LabelEntry) → label_ahead y x ≡ false → Before (seen x) (seen y)
before_of x y h = record {
  minute = grind (arith, nat_tests);
  rank = λ a. grind (arith, nat_tests);
  place = λ a b. grind (arith, nat_tests);
  origin = λ a b d. grind (arith, nat_tests);
}

all_before : (x : LabelEntry) (l : List LabelEntry) → AllByRecursion (λ y. label_ahead y x ≡ false) l → (e : Entry) → Mem e (map seen l) → Before (seen x) e
all_before x [] a e m = elim m [ ]
all_before x (y ∷ l) a e here = before_of x y a.0
all_before x (y ∷ l) a e (there m) = all_before x l a.1 e m

-- the first is taken
pub takes_first : (x : LabelEntry) (rest : List LabelEntry) → AllByRecursion (λ y. label_ahead y x ≡ false) rest → Takes (map seen (x ∷ rest)) (seen x) (map seen rest)
takes_first x rest a = record { held = here; least = all_before x rest a; kept = λ e m. there m; others = others' }
  where
    others' : (e : Entry) → Mem e (seen x ∷ map seen rest) → (e ≡ seen x) ⊎ Mem e (map seen rest)
    others' e here = inl refl
    others' e (there m) = inr m

-- under one more entry
mem_under : {e x : Entry} {a b : List Entry} → (Mem e a → Mem e b) → Mem e (x ∷ a) → Mem e (x ∷ b)
mem_under f here = here
mem_under f (there k) = there (f k)

mem_swap : {e x y : Entry} {q : List Entry} → Mem e (x ∷ y ∷ q) → Mem e (y ∷ x ∷ q)
mem_swap here = there here
mem_swap (there here) = here
mem_swap (there (there k)) = there (there k)

module _ (ahead : LabelEntry → LabelEntry → Bool) (e : Entry) where
  mem_insert : (x : LabelEntry) (q : List LabelEntry) → Mem e (seen x ∷ map seen q) → Mem e (map seen (inserted ahead x q))
  unfolding inserted
  mem_insert x [] m = m
  mem_insert x (y ∷ q) m = cond_both (ahead y x) (y ∷ inserted ahead x q) (x ∷ y ∷ q) (λ z. Mem e (map seen z)) (λ _. mem_under (mem_insert x q) (mem_swap m)) (λ _. m)

  insert_mem : (x : LabelEntry) (q : List LabelEntry) → Mem e (map seen (inserted ahead x q)) → Mem e (seen x ∷ map seen q)
  unfolding inserted
  insert_mem x [] m = m
  insert_mem x (y ∷ q) m = cond_both (ahead y x) (y ∷ inserted ahead x q) (x ∷ y ∷ q) (λ z. Mem e (map seen z) → Mem e (seen x ∷ seen y ∷ map seen q)) (λ _ k. mem_swap (mem_under (insert_mem x q) k)) (λ _ k. k) m

  -- what was put, and what was there
  pub mem-put : (a : List Entry) (q : List LabelEntry) → Mem e (a ++ map seen q) → Mem e (map seen (put_all ahead (map waiting a) q))
  unfolding put_all
  mem-put [] q m = m
  mem-put (x ∷ a) q m = mem_insert (waiting x) (put_all ahead (map waiting a) q) (mem_under (mem-put a q) m)

  pub put-mem : (a : List Entry) (q : List LabelEntry) → Mem e (map seen (put_all ahead (map waiting a) q)) → Mem e (a ++ map seen q)
  unfolding put_all
  put-mem [] q m = m
  put-mem (x ∷ a) q m = mem_under (put-mem a q) (insert_mem (waiting x) (put_all ahead (map waiting a) q) m)
