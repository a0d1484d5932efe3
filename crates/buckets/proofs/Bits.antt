-- Single bits of words.
use Rattle.std.proofs.Common.{◌≡◌, ℕ, ◌+◌, ◌-◌, ◌*◌, ◌/◌, ◌%◌, ◌^◌, ◌<◌, ◌≤◌, List, get_or, w64, refl, sym, ap, ◌∙◌, ⊎_elim, arith}
use Rattle.std.specs.Int.{bit_at, trailing_zeros}
use Rattle.std.proofs.lemmas.Bool.{cases_lt}
use Rattle.std.proofs.lemmas.Nat.{shr-shr, shr_le}
use Rattle.std.proofs.lemmas.Nat.Bits.{bit_at-zero, bit_at_above, bit_at-trailing_zeros}
use Rattle.buckets.specs.Bitmap.{occupied, Clear, First}

at-shift : (n s k : ℕ) → s ≤ k → bit_at n k ≡ bit_at (n / 2 ^ s) (k - s)
at-shift n s k le = let e : s + (k - s) ≡ k = omega arith in sym (ap (λ m. m % 2) (shr-shr n s (k - s)) ∙ ap (bit_at n) e)

pub none_lowest : (n s : ℕ) → n / 2 ^ s ≡ 0 → Clear (bit_at n) s 64
none_lowest n s z k a b = at-shift n s k a ∙ ap (λ m. bit_at m (k - s)) z ∙ bit_at-zero (k - s)

pub the_lowest : (n s : ℕ) → n < 2 ^ 64 → 0 < n / 2 ^ s → First (bit_at n) s 64 (s + trailing_zeros w64 (n / 2 ^ s))
the_lowest n s lt some =
    let t = trailing_zeros w64 (n / 2 ^ s) in
    let found = bit_at-trailing_zeros w64 (n / 2 ^ s) some (omega (arith, shr_le n s)) in
    let one : bit_at n (s + t) ≡ 1 = sym (ap (λ m. m % 2) (shr-shr n s t)) ∙ found.1 in
    record {
      from_on = omega arith;
      below = ⊎_elim (λ h. h) (λ (h : 64 ≤ s + t). absurd (let z = bit_at_above n 64 (s + t) lt h in omega arith)) (cases_lt (s + t) 64);
      one = one;
      before = λ k a b. at-shift n s k a ∙ found.2 (k - s) (omega arith);
    }

-- one word more, looked at from the bit `low` on
module _ (words : List ℕ) (from word low : ℕ) (is : low ≡ from - word * 64) (clear : Clear (occupied words) from (word * 64)) where
  here : (k j : ℕ) → k ≡ word * 64 + j → j < 64 → occupied words k ≡ bit_at (get_or words word 0) j
  here k j e lt = let q : k / 64 ≡ word = omega arith in let r : k % 64 ≡ j = omega arith in λ i. bit_at (get_or words (q i) 0) (r i)

  pub clear_word : Clear (bit_at (get_or words word 0)) low 64 → Clear (occupied words) from ((word + 1) * 64)
  clear_word h k a b = ⊎_elim
      (λ (lt : k < word * 64). clear k a lt)
      (λ (le : word * 64 ≤ k). here k (k - word * 64) (omega arith) (omega arith) ∙ h (k - word * 64) (omega arith) (omega arith))
      (cases_lt k (word * 64))

  pub first_word : (t : ℕ) → word < 4 → First (bit_at (get_or words word 0)) low 64 t → First (occupied words) from 256 (word * 64 + t)
  first_word t w h = let b = h.below in let f = h.from_on in record {
    from_on = omega arith;
    below = omega arith;
    one = here (word * 64 + t) t refl b ∙ h.one;
    before = λ k p q. ⊎_elim
        (λ (lt : k < word * 64). clear k p lt)
        (λ (le : word * 64 ≤ k). here k (k - word * 64) (omega arith) (omega arith) ∙ h.before (k - word * 64) (omega arith) (omega arith))
        (cases_lt k (word * 64));
  }
