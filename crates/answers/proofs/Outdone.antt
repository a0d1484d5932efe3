-- The chosen rows have exactly the unbeaten pairs.
use Rattle.std.proofs.Common.{◌≡◌, ℕ, zero, suc, ◌+◌, ◌*◌, ◌<◌, ◌≤◌, ◌⊎◌, List, [], ◌∷◌, ◌++◌, length, sym, refl, ap, ◌∙◌, subst, inl, inr, ⊎_elim, arith}
use Rattle.std.proofs.lemmas.Bool.{cases_eq, cases_lt, cases_order}
use Rattle.std.proofs.lemmas.Nat.{mul-le}
use Rattle.std.proofs.lemmas.List.{get_or_append_left, get_or_push, length_push}
use Rattle.timetable.specs.declared.label.Label.{Label}
use Rattle.timetable.specs.declared.pair.Pair.{Pair}
use Rattle.timetable.specs.Table.{Table, Lawful}
use Rattle.timetable.specs.Rows.{head, entry}
use Rattle.answers.specs.declared.view.View.{View}
use Rattle.answers.specs.RowPairs.{RowHas, RowPair, RowUnbeaten, IsProfile, pair, pair_at}
use Rattle.answers.specs.Foreign.{Reached, late, falls, AllOwn, NoRow}
use Rattle.answers.specs.Chains.{HighestRow, JourneyRow}
use Rattle.answers.specs.Rowwise.{view_of, Comes, Yields, ChosenRow, row_pair, Listed, none, take, pass}

-- more periods, more minutes
more : (period k l : ℕ) → k < l → k * period + period ≤ l * period
more period k l h = omega (arith, mul-le (k + 1) period l period (omega arith) (omega arith))

module _ (t : Table) (law : Lawful t) (m : ℕ) (memory : List Label) (v : ℕ) (own : AllOwn t m memory v) where
  abbrev w : View
  w = view_of t m v

  abbrev dep : ℕ → ℕ
  dep i = (head t memory i).minute

  abbrev arr : ℕ → ℕ
  arr i = (entry t memory i v).minute

  below : (i : ℕ) → i < m → dep i < t.period
  below i h = ⊎_elim (λ k. k) (λ k. absurd (own i h (late k))) (cases_lt (dep i) t.period)

  next_up : (i : ℕ) → suc i < m → dep i ≤ dep (suc i)
  next_up i h = ⊎_elim (λ k. absurd (own (suc i) h (falls i (omega arith) k))) (λ k. k) (cases_lt (dep (suc i)) (dep i))

  pub rises : (i j : ℕ) → i ≤ j → j < m → dep i ≤ dep j
  rises i zero h k = let z : i ≡ 0 = omega arith in rw z (omega arith)
  rises i (suc j) h k = elim (cases_eq i (suc j)) [ inl e ↦ rw e (omega arith) | inr e ↦ omega (arith, rises i j (omega arith) (omega arith), next_up j k) ]

  -- a pair that departs no earlier is moved on by no fewer periods
  in_order : (i j k l : ℕ) → i < m → j < m → dep i + k * t.period ≤ dep j + l * t.period → k ≤ l
  in_order i j k l hi hj h = ⊎_elim (λ (z : l < k). absurd (omega (arith, more t.period l k z, below j hj))) (λ z. z) (cases_lt l k)

  -- a chosen row's pair, moved on, is met by none but itself
  met : (i : ℕ) → ChosenRow w memory i → (k j l : ℕ) → j < m → Reached t memory v j → dep i + k * t.period ≤ dep j + l * t.period → arr j + l * t.period ≤ arr i + k * t.period → (dep j + l * t.period ≡ dep i + k * t.period) × (arr j + l * t.period ≡ arr i + k * t.period)
  met i c k j l hj r d a = elim (cases_eq k l) [ inl e ↦ at_once e | inr e ↦ absurd (omega (arith, more t.period k l (omega (arith, in_order i j k l c.there hj d)), y.later)) ]
    where
      y : Yields w memory i j
      y = c.alone j hj r

      at_once : k ≡ l → (dep j + l * t.period ≡ dep i + k * t.period) × (arr j + l * t.period ≡ arr i + k * t.period)
      at_once e = by_order (cases_order i j)
        where
          z : k * t.period ≡ l * t.period
          z = ap (λ (n : ℕ). n * t.period) e

          by_order : (i ≡ j) ⊎ ((i < j) ⊎ (j < i)) → (dep j + l * t.period ≡ dep i + k * t.period) × (arr j + l * t.period ≡ arr i + k * t.period)
          by_order (inl q) = (omega (arith, z, ap dep q), omega (arith, z, ap arr q))
          by_order (inr (inl q)) = absurd (omega (arith, z, y.higher q))
          by_order (inr (inr q)) = let s : dep j ≡ dep i = omega (arith, z, rises j i (omega arith) c.there) in (omega (arith, z), omega (arith, z, y.same s))

  pub unbeaten : (i : ℕ) → ChosenRow w memory i → (k : ℕ) → RowUnbeaten t m memory v (dep i + k * t.period) (arr i + k * t.period)
  unbeaten i c k = record {
    pair = record { row = i; periods = k; there = c.there; has = record { reached = c.comes; departs = refl; arrives = refl } };
    unbeaten = λ d' a' p h l. let z = met i c k p.row p.periods p.there p.has.reached (omega (arith, p.has.departs)) (omega (arith, p.has.arrives)) in (p.has.departs ∙ z.0, p.has.arrives ∙ z.1);
  }

  -- no higher row has its pair
  pub highest : (i : ℕ) → ChosenRow w memory i → (k : ℕ) → HighestRow t m memory v (dep i + k * t.period) (arr i + k * t.period) i k
  highest i c k = record {
    there = c.there;
    has = record { reached = c.comes; departs = refl; arrives = refl };
    highest = λ j l h hj r. clash j l h hj r;
  }
    where
      clash : (j l : ℕ) → i < j → j < m → RowHas t memory v j l (dep i + k * t.period) (arr i + k * t.period) → ⊥
      clash j l h hj r =
          let a = in_order i j k l c.there hj (omega (arith, r.departs)) in
          let b = in_order j i l k hj c.there (omega (arith, r.departs)) in
          let e : k * t.period ≡ l * t.period = ap (λ (n : ℕ). n * t.period) (omega arith) in
          omega (arith, r.arrives, (c.alone j hj r.reached).higher h)

  -- among rows that have the same departure and arrival there is a highest
  record Top (d a n : ℕ) : Type 0 where
    at : ℕ
    at_below : at < n
    departs : dep at ≡ d
    arrives : arr at ≡ a
    top : (j : ℕ) → at < j → j < n → dep j ≡ d → arr j ≡ a → ⊥

  top_of : (d a n i : ℕ) → i < n → dep i ≡ d → arr i ≡ a → Top d a n
  top_of d a zero i h p q = absurd (omega arith)
  top_of d a (suc n) i h p q = by_case (λ l. top_of d a n i l p q) (cases_eq (dep n) d) (cases_eq (arr n) a)
    where
      here : dep n ≡ d → arr n ≡ a → Top d a (suc n)
      here x y = record { at = n; at_below = omega arith; departs = x; arrives = y; top = λ j k l _ _. omega arith }

      lower : (i < n → Top d a n) → (dep n ≡ d → arr n ≡ a → ⊥) → Top d a (suc n)
      lower go ne = let i-lower : (i ≡ n → ⊥) = λ e. ne (ap dep (sym e) ∙ p) (ap arr (sym e) ∙ q) in on (go (⊎_elim (λ e. absurd (i-lower e)) (λ e. omega arith) (cases_eq i n)))
        where
          on : Top d a n → Top d a (suc n)
          on x = record {
            at = x.at;
            at_below = omega (arith, x.at_below);
            departs = x.departs;
            arrives = x.arrives;
            top = λ j k l y z. ⊎_elim (λ e. ne (ap dep (sym e) ∙ y) (ap arr (sym e) ∙ z)) (λ e. x.top j k (omega arith) y z) (cases_eq j n);
          }

      by_case : (i < n → Top d a n) → (dep n ≡ d) ⊎ (dep n ≡ d → ⊥) → (arr n ≡ a) ⊎ (arr n ≡ a → ⊥) → Top d a (suc n)
      by_case go (inl x) (inl y) = here x y
      by_case go (inl x) (inr y) = lower go (λ _ z. y z)
      by_case go (inr x) _ = lower go (λ z _. x z)

  -- an unbeaten pair is that of a chosen row
  pub record From (d a : ℕ) : Type 0 where
    pub row : ℕ
    pub periods : ℕ
    pub chosen : ChosenRow w memory row
    pub departs : d ≡ dep row + periods * t.period
    pub arrives : a ≡ arr row + periods * t.period

  pub from : (d a : ℕ) → RowUnbeaten t m memory v d a → From d a
  from d a u = by_top (top_of (dep u.pair.row) (arr u.pair.row) m u.pair.row u.pair.there refl refl)
    where
      k : ℕ
      k = u.pair.periods

      has : RowHas t memory v u.pair.row u.pair.periods d a
      has = u.pair.has

      by_top : Top (dep u.pair.row) (arr u.pair.row) m → From d a
      by_top x = record {
        row = x.at;
        periods = u.pair.periods;
        chosen = record { there = x.at_below; comes = comes'; alone = alone' };
        departs = has.departs ∙ ap (λ (n : ℕ). n + u.pair.periods * t.period) (sym x.departs);
        arrives = has.arrives ∙ ap (λ (n : ℕ). n + u.pair.periods * t.period) (sym x.arrives);
      }
        where
          comes' : Comes w memory x.at
          comes' e = has.reached (sym x.arrives ∙ e)

          pair_of : (j l : ℕ) → j < m → Comes w memory j → RowPair t m memory v (dep j + l * t.period) (arr j + l * t.period)
          pair_of j l h r = record { row = j; periods = l; there = h; has = record { reached = r; departs = refl; arrives = refl } }

          alone' : (j : ℕ) → j < m → Comes w memory j → Yields w memory x.at j
          alone' j h r = record {
            later = ⊎_elim (λ z. z) (λ z. absurd (too_late z)) (cases_lt (arr x.at) (arr j + t.period));
            higher = λ l. ⊎_elim (λ z. z) (λ z. absurd (too_high l z)) (cases_lt (arr x.at) (arr j));
            same = λ e. ⊎_elim (λ z. absurd (too_soon e z)) (λ z. z) (cases_lt (arr j) (arr x.at));
          }
            where
              n : ℕ
              n = u.pair.periods

              base_d : d ≡ dep x.at + u.pair.periods * t.period
              base_d = has.departs ∙ ap (λ (y : ℕ). y + u.pair.periods * t.period) (sym x.departs)

              base_a : a ≡ arr x.at + u.pair.periods * t.period
              base_a = has.arrives ∙ ap (λ (y : ℕ). y + u.pair.periods * t.period) (sym x.arrives)

              too_late : arr j + t.period ≤ arr x.at → ⊥
              too_late z =
                  let q = u.unbeaten (dep j + (u.pair.periods + 1) * t.period) (arr j + (u.pair.periods + 1) * t.period) (pair_of j (u.pair.periods + 1) h r) (omega (arith, base_d, below x.at x.at_below)) (omega (arith, base_a)) in
                  omega (arith, q.0, base_d, below x.at x.at_below)

              too_high : x.at < j → arr j ≤ arr x.at → ⊥
              too_high l z =
                  let up = rises x.at j (omega arith) h in
                  let q = u.unbeaten (dep j + u.pair.periods * t.period) (arr j + u.pair.periods * t.period) (pair_of j u.pair.periods h r) (omega (arith, base_d)) (omega (arith, base_a)) in
                  x.top j l h (omega (arith, q.0, has.departs)) (omega (arith, q.1, has.arrives))

              too_soon : dep j ≡ dep x.at → arr j < arr x.at → ⊥
              too_soon e z =
                  let q = u.unbeaten (dep j + u.pair.periods * t.period) (arr j + u.pair.periods * t.period) (pair_of j u.pair.periods h r) (omega (arith, base_d)) (omega (arith, base_a)) in
                  omega (arith, q.1, base_a)

  -- ---- the first pair at or after a minute

  module _ (n i : ℕ) (c : ChosenRow w memory i) where
    -- in this period
    pub found_now : n ≤ dep i → ((j : ℕ) → j < i → ChosenRow w memory j → n ≤ dep j → ⊥) → JourneyRow t m memory v n i 0
    found_now h f = record {
      departure = dep i + 0 * t.period;
      arrival = arr i + 0 * t.period;
      arrive = record { unbeaten = unbeaten i c 0; late_enough = omega arith; first = λ d' a' u l. first' d' (from d' a' u) l };
      highest = highest i c 0;
    }
      where
        first' : (d' : ℕ) {a' : ℕ} → From d' a' → n ≤ d' → dep i + 0 * t.period ≤ d'
        first' d' x l = elim (cases_eq x.periods 0) [
          | inl e ↦ (
              let z : x.periods * t.period ≡ 0 * t.period = ap (λ (y : ℕ). y * t.period) e in
              ⊎_elim (λ (q : x.row < i). absurd (f x.row q x.chosen (omega (arith, x.departs)))) (λ (q : i ≤ x.row). omega (arith, x.departs, rises i x.row q x.chosen.there)) (cases_lt x.row i)
              )
          | inr e ↦ omega (arith, x.departs, more t.period 0 x.periods (omega arith), below i c.there)
        ]

    -- in the next
    pub found-next : n < t.period → ((j : ℕ) → ChosenRow w memory j → n ≤ dep j → ⊥) → ((j : ℕ) → j < i → ChosenRow w memory j → ⊥) → JourneyRow t m memory v n i 1
    found-next h g f = record {
      departure = dep i + 1 * t.period;
      arrival = arr i + 1 * t.period;
      arrive = record { unbeaten = unbeaten i c 1; late_enough = omega arith; first = λ d' a' u l. first' d' (from d' a' u) l };
      highest = highest i c 1;
    }
      where
        first' : (d' : ℕ) {a' : ℕ} → From d' a' → n ≤ d' → dep i + 1 * t.period ≤ d'
        first' d' x l = elim (cases_eq x.periods 0) [
          | inl e ↦ (let z : x.periods * t.period ≡ 0 * t.period = ap (λ (y : ℕ). y * t.period) e in absurd (g x.row x.chosen (omega (arith, x.departs))))
          | inr e ↦ ⊎_elim (λ (q : x.row < i). absurd (f x.row q x.chosen)) (λ (q : i ≤ x.row). omega (arith, x.departs, more t.period 0 x.periods (omega arith), rises i x.row q x.chosen.there)) (cases_lt x.row i)
        ]

  -- ---- where any row reaches the target, one is chosen

  record Best (n : ℕ) : Type 0 where
    at : ℕ
    at_below : at < n
    comes : Comes w memory at
    least : (j : ℕ) → j < n → Comes w memory j → arr at ≤ arr j
    last : (j : ℕ) → at < j → j < n → Comes w memory j → arr at < arr j

  abbrev Silent : ℕ → Type 0
  Silent n = (j : ℕ) → j < n → arr j ≡ 4294967295

  best : (n : ℕ) → Silent n ⊎ Best n
  best zero = inl (λ j h. absurd (omega arith))
  best (suc n) = by_case (cases_eq (arr n) 4294967295) (best n)
    where
      first_one : Comes w memory n → Silent n → Best (suc n)
      first_one c s = record {
        at = n;
        at_below = omega arith;
        comes = c;
        least = λ j h r. ⊎_elim (λ e. rw e (omega arith)) (λ e. absurd (r (s j (omega arith)))) (cases_eq j n);
        last = λ j h k r. absurd (omega arith);
      }

      keep : (arr n ≡ 4294967295) → Best n → Best (suc n)
      keep e b = record {
        at = b.at;
        at_below = omega (arith, b.at_below);
        comes = b.comes;
        least = λ j h r. ⊎_elim (λ q. absurd (r (ap arr q ∙ e))) (λ q. b.least j (omega arith) r) (cases_eq j n);
        last = λ j h k r. ⊎_elim (λ q. absurd (r (ap arr q ∙ e))) (λ q. b.last j h (omega arith) r) (cases_eq j n);
      }

      weigh : Comes w memory n → Best n → Best (suc n)
      weigh c b = by_arrival (cases_lt (arr b.at) (arr n))
        where
          by_arrival : (arr b.at < arr n) ⊎ (arr n ≤ arr b.at) → Best (suc n)
          by_arrival (inl h) = record {
            at = b.at;
            at_below = omega (arith, b.at_below);
            comes = b.comes;
            least = λ j l r. ⊎_elim (λ q. omega (arith, ap arr q)) (λ q. b.least j (omega arith) r) (cases_eq j n);
            last = λ j l k r. ⊎_elim (λ q. omega (arith, ap arr q)) (λ q. b.last j l (omega arith) r) (cases_eq j n);
          }
          by_arrival (inr h) = record {
            at = n;
            at_below = omega arith;
            comes = c;
            least = λ j l r. ⊎_elim (λ q. rw q (omega arith)) (λ q. omega (arith, b.least j (omega arith) r)) (cases_eq j n);
            last = λ j l k r. absurd (omega arith);
          }

      by_case : (arr n ≡ 4294967295) ⊎ (arr n ≡ 4294967295 → ⊥) → Silent n ⊎ Best n → Silent (suc n) ⊎ Best (suc n)
      by_case (inl e) (inl s) = inl (λ j h. ⊎_elim (λ q. ap arr q ∙ e) (λ q. s j (omega arith)) (cases_eq j n))
      by_case (inl e) (inr b) = inr (keep e b)
      by_case (inr c) (inl s) = inr (first_one c s)
      by_case (inr c) (inr b) = inr (weigh c b)

  best_chosen : Best m → (i : ℕ) × ChosenRow w memory i
  best_chosen b = (
    b.at,
    record {
      there = b.at_below;
      comes = b.comes;
      alone = λ j h r. record { later = omega (arith, b.least j h r, law.period_low); higher = λ l. b.last j l h r; same = λ _. b.least j h r };
    },
  )

  pub none_chosen : ((i : ℕ) → ChosenRow w memory i → ⊥) → NoRow t m memory v
  none_chosen f = elim (best m) [ inl s ↦ s | inr b ↦ (let z = best_chosen b in absurd (f z.0 z.1)) ]

  -- ---- the profile

  pub has_row : {i : ℕ} {ps : List Pair} → Listed w memory i ps → (k : ℕ) → k < length ps → (j : ℕ) × (j < i) × ChosenRow w memory j × (pair_at ps k ≡ row_pair w memory j)
  has_row none k h = absurd (omega arith)
  has_row (pass l ne) k h = let z = has_row l k h in (z.0, omega (arith, z.1), z.2, z.3)
  has_row (take {i} {ps} l c) k h = elim (cases_lt k (length ps)) [
    | inl q ↦ (let z = has_row l k q in (z.0, omega (arith, z.1), z.2, get_or_append_left ps (row_pair w memory i ∷ []) (pair 0 0) k q ∙ z.3))
    | inr q ↦ (i, omega arith, c, get_or_push ps (row_pair w memory i) (pair 0 0) k (omega (arith, length_push ps (row_pair w memory i))))
  ]

  row_listed : {i : ℕ} {ps : List Pair} → Listed w memory i ps → (j : ℕ) → j < i → ChosenRow w memory j → (k : ℕ) × (k < length ps) × (pair_at ps k ≡ row_pair w memory j)
  row_listed none j h c = absurd (omega arith)
  row_listed (pass {i} l ne) j h c = elim (cases_eq j i) [ inl e ↦ absurd (ne (subst (ChosenRow w memory) e c)) | inr e ↦ row_listed l j (omega arith) c ]
  row_listed (take {i} {ps} l d) j h c = elim (cases_eq j i) [
    | inl e ↦ (length ps, omega (arith, length_push ps (row_pair w memory i)), get_or_push ps (row_pair w memory i) (pair 0 0) (length ps) refl ∙ ap (row_pair w memory) (sym e))
    | inr e ↦ (let z = row_listed l j (omega arith) c in (z.0, omega (arith, z.1, length_push ps (row_pair w memory i)), get_or_append_left ps (row_pair w memory i ∷ []) (pair 0 0) z.0 z.1 ∙ z.2))
  ]

  -- where no row is listed, none reaches the target
  pub none_listed : {ps : List Pair} → Listed w memory m ps → length ps ≡ 0 → NoRow t m memory v
  none_listed l e = none_chosen (λ i c. let z = row_listed l i c.there c in omega (arith, z.1))

  -- two chosen rows depart apart
  apart : (i j : ℕ) → i < j → ChosenRow w memory i → ChosenRow w memory j → dep i < dep j
  apart i j h c d = ⊎_elim (λ e. absurd (omega (arith, (c.alone j d.there d.comes).higher h, (d.alone i c.there c.comes).same e))) (λ e. omega (arith, rises i j (omega arith) d.there)) (cases_eq (dep i) (dep j))

  rising : {i : ℕ} {ps : List Pair} → Listed w memory i ps → (j k : ℕ) → j < k → k < length ps → (pair_at ps j).departure < (pair_at ps k).departure
  rising none j k h l = absurd (omega arith)
  rising (pass p ne) j k h l = rising p j k h l
  rising (take {i} {ps} p c) j k h l = elim (cases_lt k (length ps)) [
    | inl q ↦ omega (arith, rising p j k h q, ap (λ (x : Pair). x.departure) (get_or_append_left ps (row_pair w memory i ∷ []) (pair 0 0) k q), ap (λ (x : Pair). x.departure) (get_or_append_left ps (row_pair w memory i ∷ []) (pair 0 0) j (omega arith)))
    | inr q ↦ (
        let e : k ≡ length ps = omega (arith, length_push ps (row_pair w memory i)) in
        let z = has_row p j (omega arith) in
        omega (
          arith,
          apart z.0 i z.1 z.2 c,
          ap (λ (x : Pair). x.departure) z.3,
          ap (λ (x : Pair). x.departure) (get_or_append_left ps (row_pair w memory i ∷ []) (pair 0 0) j (omega arith)),
          ap (λ (x : Pair). x.departure) (get_or_push ps (row_pair w memory i) (pair 0 0) k (sym e)),
        )
        )
  ]

  pub profile : {ps : List Pair} → Listed w memory m ps → IsProfile t m memory v ps
  profile {ps} l = record {
    sound = λ k h. sound' k (has_row l k h);
    whole = λ d a h u. whole' d a h (from d a u);
    rising = rising l;
  }
    where
      sound' : (k : ℕ) → (j : ℕ) × (j < m) × ChosenRow w memory j × (pair_at ps k ≡ row_pair w memory j) → ((pair_at ps k).departure < t.period) × RowUnbeaten t m memory v (pair_at ps k).departure (pair_at ps k).arrival
      sound' k (j, h, c, e) =
          let d : dep j + 0 * t.period ≡ (pair_at ps k).departure = omega (arith, ap (λ (x : Pair). x.departure) e) in
          let a : arr j + 0 * t.period ≡ (pair_at ps k).arrival = omega (arith, ap (λ (x : Pair). x.arrival) e) in
          (omega (arith, below j h), subst (λ (y : ℕ). RowUnbeaten t m memory v (pair_at ps k).departure y) a (subst (λ (y : ℕ). RowUnbeaten t m memory v y (arr j + 0 * t.period)) d (unbeaten j c 0)))

      whole' : (d a : ℕ) → d < t.period → From d a → (k : ℕ) × (k < length ps) × (pair_at ps k ≡ pair d a)
      whole' d a h x = elim (cases_eq x.periods 0) [
        | inl e ↦ (
            let z : x.periods * t.period ≡ 0 * t.period = ap (λ (y : ℕ). y * t.period) e in
            let q = row_listed l x.row x.chosen.there x.chosen in
            let p : dep x.row ≡ d = omega (arith, x.departs) in
            let r : arr x.row ≡ a = omega (arith, x.arrives) in
            (q.0, q.1, q.2 ∙ ap (λ (y : ℕ). pair y (arr x.row)) p ∙ ap (pair d) r)
            )
        | inr e ↦ absurd (omega (arith, x.departs, more t.period 0 x.periods (omega arith)))
      ]

-- ---- lists of chosen rows

module _ (w : View) (memory : List Label) where
  pub same_list : {i : ℕ} {ps qs : List Pair} → Listed w memory i ps → Listed w memory i qs → ps ≡ qs
  same_list none none = refl
  same_list (take {i} l c) (take k d) = ap (λ (z : List Pair). z ++ row_pair w memory i ∷ []) (same_list l k)
  same_list (take l c) (pass k n) = absurd (n c)
  same_list (pass l n) (take k d) = absurd (n d)
  same_list (pass l n) (pass k d) = same_list l k

  -- a longer way lists no fewer
  pub no_fewer : (i j : ℕ) {ps qs : List Pair} → Listed w memory i ps → Listed w memory j qs → i ≤ j → length ps ≤ length qs
  no_fewer i j {ps} l none h = let z : i ≡ zero = omega arith in omega (arith, ap length (same_list (subst (λ (n : ℕ). Listed w memory n ps) z l) none))
  no_fewer i j {ps} l (take {i = j'} {ps = qs} k c) h = elim (cases_eq i (suc j')) [
    | inl e ↦ omega (arith, ap length (same_list (subst (λ (n : ℕ). Listed w memory n ps) e l) (take k c)))
    | inr e ↦ omega (arith, no_fewer i j' l k (omega arith), length_push qs (row_pair w memory j'))
  ]
  no_fewer i j {ps} l (pass {i = j'} {ps = qs} k c) h = elim (cases_eq i (suc j')) [
    | inl e ↦ omega (arith, ap length (same_list (subst (λ (n : ℕ). Listed w memory n ps) e l) (pass k c)))
    | inr e ↦ omega (arith, no_fewer i j' l k (omega arith))
  ]
