-- An image that opens is written again with the same bytes.
use Rattle.std.proofs.Common.{◌≡◌, ℕ, zero, suc, ◌+◌, ◌*◌, ◌/◌, ◌%◌, ◌<◌, ◌≤◌, eqb, List, [], ◌∷◌, ◌++◌, length, get_or, take, drop, None, Ok, sym, refl, ap, ◌∙◌, ap₂, add-zero, mul-zero, zero-add, arith, take-add}
use Rattle.std.specs.List.{flat_map, range_with_len}
use Rattle.std.proofs.lemmas.Bool.Decides.{nat_tests}
use Rattle.std.proofs.lemmas.List.Folds.{flat_map-map}
use Rattle.std.proofs.lemmas.List.{drop-drop, drop_more, take_all}
use Rattle.timetable.specs.Table.{Table, connections}
use Rattle.image.specs.Format.{fault, opened, front_fault, number, version_in, period_in, stations_in, trains_in, connections_in, transfer_in, record_at, connection_in, table_in}
use Rattle.image.specs.Written.{number_bytes, record_bytes, mark, header_bytes, written}
use Rattle.image.proofs.Sound.{opened_none, Limits, limits, no_front, no_limits, length_is, no_record, fields_at, stations_is, connections_is}

-- pieces that are read one after another are the bytes themselves
module _ (h : ℕ → List ℕ) (bs : List ℕ) (w : ℕ) where
  pieces : (n p a : ℕ) → ((k : ℕ) → k < n → h (a + k) ≡ take w (drop (p + w * k) bs)) → flat_map h (range_with_len a n) ≡ take (w * n) (drop p bs)
  pieces zero p a each = rw mul-zero
  pieces (suc n) p a each =
      let z : p + w * 0 ≡ p = omega arith in
      let here : h a ≡ take w (drop p bs) = ap h (sym (add-zero a)) ∙ (each 0 (omega arith) ∙ ap (λ q. take w (drop q bs)) z) in
      let rest : flat_map h (range_with_len (a + 1) n) ≡ take (w * n) (drop (p + w) bs) =
      pieces n (p + w) (a + 1) (λ k l.
      let i : a + 1 + k ≡ a + suc k = omega arith in
      let q : p + w * suc k ≡ p + w + w * k = omega arith in
      ap h i ∙ (each (suc k) (omega arith) ∙ ap (λ x. take w (drop x bs)) q)) in
      let m : w + w * n ≡ w * suc n = omega arith in
      ap₂ ◌++◌ here (rest ∙ ap (take (w * n)) (sym (drop-drop w p bs)))
      ∙ (sym (take-add w (w * n) (drop p bs)) ∙ ap (λ x. take x (drop p bs)) m)

two_of : (a b : ℕ) → a < 256 → number_bytes (a + 256 * b) ≡ a ∷ b ∷ []
two_of a b h =
    let m : (a + 256 * b) % 256 ≡ a = omega arith in
    let d : (a + 256 * b) / 256 ≡ b = omega arith in
    ap₂ (λ x y. x ∷ y ∷ []) m d

mark_of : (m : ℕ) → m ≤ 1 → mark (eqb m 1) ≡ m
mark_of zero h = refl
mark_of (suc zero) h = refl
mark_of (suc (suc m)) h = absurd (omega arith)

take_four : (bs : List ℕ) → 4 ≤ length bs → take 4 bs ≡ get_or bs 0 0 ∷ get_or bs 1 0 ∷ get_or bs 2 0 ∷ get_or bs 3 0 ∷ []
take_four [] h = absurd (omega arith)
take_four (a ∷ []) h = absurd (omega arith)
take_four (a ∷ b ∷ []) h = absurd (omega arith)
take_four (a ∷ b ∷ c ∷ []) h = absurd (omega arith)
take_four (a ∷ b ∷ c ∷ d ∷ r) h = refl

record Front (bs : List ℕ) : Type 0 where
  long : 16 ≤ length bs
  mark₀ : get_or bs 0 0 ≡ 0x50
  mark₁ : get_or bs 1 0 ≡ 0x54
  mark₂ : get_or bs 2 0 ≡ 0x54
  mark₃ : get_or bs 3 0 ≡ 0
  one : version_in bs ≡ 1

front : (bs : List ℕ) → front_fault bs ≡ None → Front bs
front bs h = record { long = grind (arith, nat_tests); mark₀ = grind (arith, nat_tests); mark₁ = grind (arith, nat_tests); mark₂ = grind (arith, nat_tests); mark₃ = grind (arith, nat_tests); one = grind (arith, nat_tests) }

module _ (bs : List ℕ) (b : (i : ℕ) → get_or bs i 0 < 256) where
  two_read : (q : ℕ) → q + 1 < length bs → number_bytes (number bs q) ≡ take 2 (drop q bs)
  two_read q h =
      two_of (get_or bs q 0) (get_or bs (q + 1) 0) (b q)
      ∙ sym (ap (take 2) (drop_more bs q 0 (omega arith) ∙ ap (λ l. get_or bs q 0 ∷ l) (drop_more bs (q + 1) 0 h)))

  six_words : (q : ℕ) → q + 12 ≤ length bs → flat_map (λ k. number_bytes (number bs (q + 2 * k))) (range_with_len 0 6) ≡ take 12 (drop q bs)
  six_words q h = pieces (λ k. number_bytes (number bs (q + 2 * k))) bs 2 6 q 0 (λ k l. rw zero-add (two_read (q + 2 * k) (omega arith)))

  six_read : (q : ℕ) → q + 12 ≤ length bs → number bs (q + 10) ≤ 1 → record_bytes (connection_in bs q) ≡ take 12 (drop q bs)
  six_read q h m =
      ap₂ (λ x y. number_bytes x ++ (number_bytes (number bs (q + 2)) ++ (number_bytes (number bs (q + 4)) ++ (number_bytes (number bs (q + 6)) ++ (number_bytes (number bs (q + 8)) ++ (number_bytes y ++ [])))))) (ap (number bs) (sym (add-zero q))) (mark_of (number bs (q + 10)) m)
      ∙ six_words q h

  header_read : Front bs → Limits bs → header_bytes (table_in bs) ≡ take 16 bs
  header_read f n =
      let mk : 0x50 ∷ 0x54 ∷ 0x54 ∷ 0 ∷ [] ≡ take 4 bs =
      sym (take_four bs (omega (arith, f.long)) ∙ (ap₂ (λ x y. x ∷ y ∷ get_or bs 2 0 ∷ get_or bs 3 0 ∷ []) f.mark₀ f.mark₁ ∙ ap₂ (λ x y. 0x50 ∷ 0x54 ∷ x ∷ y ∷ []) f.mark₂ f.mark₃)) in
      let e₁ = ap₂ (λ x y. flat_map number_bytes (x ∷ period_in bs ∷ y ∷ trains_in bs ∷ connections (table_in bs) ∷ 0 ∷ [])) (sym f.one) (stations_is bs) in
      let e₂ = ap₂ (λ x y. flat_map number_bytes (version_in bs ∷ period_in bs ∷ stations_in bs ∷ trains_in bs ∷ x ∷ y ∷ [])) (connections_is bs) (sym n.nothing) in
      ap₂ ◌++◌ mk (e₁ ∙ (e₂ ∙ six_words 4 (omega (arith, f.long)))) ∙ sym (take-add 4 12 bs)

  transfers_read : fault bs ≡ None → flat_map number_bytes (table_in bs).transfers ≡ take (2 * stations_in bs) (drop 16 bs)
  transfers_read h =
      let n = length_is bs h in
      flat_map-map number_bytes (transfer_in bs) (range_with_len 0 (stations_in bs))
      ∙ pieces (λ s. number_bytes (transfer_in bs s)) bs 2 (stations_in bs) 16 0 (λ k l. rw zero-add (two_read (16 + 2 * k) (omega arith)))

  records_read : fault bs ≡ None → flat_map record_bytes (table_in bs).list ≡ take (12 * connections_in bs) (drop (16 + 2 * stations_in bs) bs)
  records_read h =
      let n = length_is bs h in
      flat_map-map record_bytes (λ c. connection_in bs (record_at bs c)) (range_with_len 0 (connections_in bs))
      ∙ pieces (λ c. record_bytes (connection_in bs (record_at bs c))) bs 12 (connections_in bs) (16 + 2 * stations_in bs) 0 (λ k l. rw zero-add (six_read (record_at bs k) (omega arith) (fields_at bs k (no_record bs h k l)).marked))

  table_read : fault bs ≡ None → written (table_in bs) ≡ bs
  table_read h =
      let s = 2 * stations_in bs in
      let c = 12 * connections_in bs in
      let n = length_is bs h in
      let tail : flat_map number_bytes (table_in bs).transfers ++ flat_map record_bytes (table_in bs).list ≡ take (s + c) (drop 16 bs) =
      ap₂ ◌++◌ (transfers_read h) (records_read h ∙ ap (take c) (sym (drop-drop s 16 bs))) ∙ sym (take-add s c (drop 16 bs)) in
      ap₂ ◌++◌ (header_read (front bs (no_front bs h)) (limits bs (no_limits bs h))) tail
      ∙ (sym (take-add 16 (s + c) bs) ∙ take_all (16 + (s + c)) bs (omega arith))

-- Bytes that open are those of their table.
pub writes_back : (bs : List ℕ) (t : Table) → ((i : ℕ) → get_or bs i 0 < 256) → opened bs ≡ Ok t → written t ≡ bs
writes_back bs t b e =
    let p = opened_none (fault bs) (table_in bs) t e in
    ap written (sym p.1) ∙ table_read bs b p.0
