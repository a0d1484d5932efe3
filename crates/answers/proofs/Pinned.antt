-- Rows as they stand have one answer to each question.
use Rattle.std.proofs.Common.{◌≡◌, ℕ, zero, suc, ◌<◌, ◌≤◌, ◌⊎◌, List, length, sym, ap, ◌∙◌, inl, inr, arith}
use Rattle.std.proofs.lemmas.Bool.{cases_lt, cases_order}
use Rattle.std.proofs.lemmas.List.{ext_get_or}
use Rattle.timetable.specs.declared.label.Label.{Label}
use Rattle.timetable.specs.declared.pair.Pair.{Pair}
use Rattle.timetable.specs.Table.{Table}
use Rattle.answers.specs.RowPairs.{RowUnbeaten, IsProfile, pair, pair_at}
use Rattle.answers.specs.Theorems.{ArrivePinned, ProfilePinned}

-- ---- arrive

module _ (t : Table) (m : ℕ) (memory : List Label) (v : ℕ) where
  -- of two unbeaten pairs that depart together, neither arrives earlier
  pub one-arrival : (d a d' a' : ℕ) → d ≡ d' → RowUnbeaten t m memory v d a → RowUnbeaten t m memory v d' a' → a ≡ a'
  one-arrival d a d' a' e h k = elim (cases_lt a a') [ inl l ↦ (k.unbeaten d a h.pair (omega arith) (omega arith)).1 | inr l ↦ sym (h.unbeaten d' a' k.pair (omega arith) (omega arith)).1 ]

pub arrive_pinned : ArrivePinned
arrive_pinned t m memory v n d a d' a' h k =
    let e : d ≡ d' = omega (arith, h.first d' a' k.unbeaten k.late_enough, k.first d a h.unbeaten h.late_enough) in
    (e, one-arrival t m memory v d a d' a' e h.unbeaten k.unbeaten)

-- ---- profile

module _ (t : Table) (m : ℕ) (memory : List Label) (v : ℕ) where
  -- what one profile has, the other has somewhere
  elsewhere : (ps qs : List Pair) → IsProfile t m memory v ps → IsProfile t m memory v qs → (k : ℕ) → k < length ps → (j : ℕ) × (j < length qs) × (pair_at qs j ≡ pair_at ps k)
  elsewhere ps qs p q k h = let x = p.sound k h in q.whole (pair_at ps k).departure (pair_at ps k).arrival x.0 x.1

  abbrev Agree : List Pair → List Pair → ℕ → Type 0
  Agree ps qs k = k < length ps → (k < length qs) × (pair_at ps k ≡ pair_at qs k)

  -- and, as both rise, at the same index
  agree_next : (ps qs : List Pair) → IsProfile t m memory v ps → IsProfile t m memory v qs → (k : ℕ) → ((j : ℕ) → j < k → Agree ps qs j) → Agree ps qs k
  agree_next ps qs p q k before h = on (elsewhere ps qs p q k h)
    where
      departs : (x y : Pair) → x ≡ y → x.departure ≡ y.departure
      departs x y e = ap (λ (z : Pair). z.departure) e

      on : (j : ℕ) × (j < length qs) × (pair_at qs j ≡ pair_at ps k) → (k < length qs) × (pair_at ps k ≡ pair_at qs k)
      on (j, g, e) = by_order (cases_order j k)
        where
          back : k < length qs → (j : ℕ) × (j < length ps) × (pair_at ps j ≡ pair_at qs k) → (pair_at ps k).departure ≤ (pair_at qs k).departure
          back l (i, f, d) = by_back (cases_order i k)
            where
              by_back : (i ≡ k) ⊎ ((i < k) ⊎ (k < i)) → (pair_at ps k).departure ≤ (pair_at qs k).departure
              by_back (inl x) = omega (arith, departs _ _ d, ap (λ (z : ℕ). (pair_at ps z).departure) x)
              by_back (inr (inl x)) = absurd (omega (arith, departs _ _ d, departs _ _ (before i x f).1, q.rising i k x l))
              by_back (inr (inr x)) = omega (arith, departs _ _ d, p.rising k i x f)

          by_order : (j ≡ k) ⊎ ((j < k) ⊎ (k < j)) → (k < length qs) × (pair_at ps k ≡ pair_at qs k)
          by_order (inl x) = (omega arith, sym e ∙ ap (pair_at qs) x)
          by_order (inr (inl x)) = let a = before j x (omega arith) in absurd (omega (arith, departs _ _ e, departs _ _ a.1, p.rising j k x h))
          by_order (inr (inr x)) =
              let l : k < length qs = omega arith in
              absurd (omega (arith, departs _ _ e, q.rising k j x g, back l (elsewhere qs ps q p k l)))

  agree : (ps qs : List Pair) → IsProfile t m memory v ps → IsProfile t m memory v qs → (n k : ℕ) → k < n → Agree ps qs k
  agree ps qs p q zero k h = absurd (omega arith)
  agree ps qs p q (suc n) k h = agree_next ps qs p q k (λ j i. agree ps qs p q n j (omega arith))

  no_longer : (ps qs : List Pair) → IsProfile t m memory v ps → IsProfile t m memory v qs → length ps ≤ length qs
  no_longer ps qs p q = elim (cases_lt (length qs) (length ps)) [ inl l ↦ absurd (omega (arith, (agree ps qs p q (length ps) (length qs) l l).0)) | inr l ↦ l ]

pub profile_pinned : ProfilePinned
profile_pinned t m memory v ps qs p q = ext_get_or (pair 0 0) ps qs (omega (arith, no_longer t m memory v ps qs p q, no_longer t m memory v qs ps q p)) (λ k h. (agree t m memory v ps qs p q (length ps) k h h).1)
