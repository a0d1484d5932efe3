-- The first departures, counted and in order on the board.
use Rattle.std.proofs.Common.{◌≡◌, ℕ, zero, suc, ◌+◌, ◌*◌, ◌<◌, ◌≤◌, true, false, cond, List, [], ◌∷◌, map, length, take, get_or, sym, refl, ap, ◌∙◌, inl, inr, ⊎_elim, add-one, arith}
use Rattle.std.proofs.lemmas.Bool.{cases_eq, cases_Bool, cond_both, cond-true, cond-false}
use Rattle.std.proofs.lemmas.Nat.{mul-le}
use Rattle.std.proofs.lemmas.List.{take_all}
use Rattle.std.proofs.lemmas.List.FromFn.{length-range_with_len, get_or-range_with_len}
use Rattle.std.proofs.lemmas.List.Filters.{length-filter_more}
use Rattle.std.specs.List.{filter, range_with_len}
use Rattle.queue.specs.Order.{inserted}
use Rattle.entries.specs.Kinds.{board_ahead}
use Rattle.timetable.specs.Table.{Table, Lawful, connections}
use Rattle.timetable.specs.Labels.{sooner, leaves, inserted as listed, firsts_below, ranks, places}
use Rattle.turns.specs.Puts.{put_all}
use Rattle.turns.specs.Running.{memory_needed}
use Rattle.turns.specs.Opening.{board_entry, departure_by}

module _ (t : Table) where
  listed_length : (c : ℕ) (ds : List ℕ) → length (listed (sooner t) c ds) ≡ suc (length ds)
  unfolding listed
  listed_length c [] = refl
  listed_length c (d ∷ ds) = cond_both (sooner t d c) (d ∷ listed (sooner t) c ds) (c ∷ d ∷ ds) (λ z. length z ≡ suc (suc (length ds))) (λ _. ap suc (listed_length c ds)) (λ _. refl)

  -- the board's order is that of the first departures
  boarded : (c : ℕ) (ds : List ℕ) → inserted board_ahead (board_entry t c) (map (board_entry t) ds) ≡ map (board_entry t) (listed (sooner t) c ds)
  unfolding inserted listed
  boarded c [] = refl
  boarded c (d ∷ ds) = ⊎_elim
      (λ e. cond-true (sooner t d c) _ _ e ∙ ap (λ z. board_entry t d ∷ z) (boarded c ds) ∙ sym (ap (map (board_entry t)) (cond-true (sooner t d c) (d ∷ listed (sooner t) c ds) (c ∷ d ∷ ds) e)))
      (λ e. cond-false (sooner t d c) _ _ e ∙ sym (ap (map (board_entry t)) (cond-false (sooner t d c) (d ∷ listed (sooner t) c ds) (c ∷ d ∷ ds) e)))
      (cases_Bool (sooner t d c))

  module _ (s : ℕ) where
    more : (c : ℕ) → leaves t s c ≡ true → firsts_below t s (c + 1) ≡ listed (sooner t) c (firsts_below t s c)
    unfolding firsts_below
    more c e = rw add-one (cond-true (leaves t s c) (listed (sooner t) c (firsts_below t s c)) (firsts_below t s c) e)

    no_more : (c : ℕ) → leaves t s c ≡ false → firsts_below t s (c + 1) ≡ firsts_below t s c
    unfolding firsts_below
    no_more c e = rw add-one (cond-false (leaves t s c) (listed (sooner t) c (firsts_below t s c)) (firsts_below t s c) e)

    -- there are as many below c + 1 as below c and of c together
    pub departure_length : (c : ℕ) → length (firsts_below t s (c + 1)) ≡ length (departure_by t s c) + length (firsts_below t s c)
    departure_length c = ⊎_elim
        (λ e. omega (arith, ap length (more c e), listed_length c (firsts_below t s c), ap length (cond-true (leaves t s c) (board_entry t c ∷ []) [] e)))
        (λ e. omega (arith, ap length (no_more c e), ap length (cond-false (leaves t s c) (board_entry t c ∷ []) [] e)))
        (cases_Bool (leaves t s c))

    pub boarded_more : (c : ℕ) → put_all board_ahead (departure_by t s c) (map (board_entry t) (firsts_below t s c)) ≡ map (board_entry t) (firsts_below t s (c + 1))
    unfolding put_all
    boarded_more c = ⊎_elim
        (λ e. ap (λ z. put_all board_ahead z (map (board_entry t) (firsts_below t s c))) (cond-true (leaves t s c) (board_entry t c ∷ []) [] e) ∙ boarded c (firsts_below t s c) ∙ sym (ap (map (board_entry t)) (more c e)))
        (λ e. ap (λ z. put_all board_ahead z (map (board_entry t) (firsts_below t s c))) (cond-false (leaves t s c) (board_entry t c ∷ []) [] e) ∙ sym (ap (map (board_entry t)) (no_more c e)))
        (cases_Bool (leaves t s c))

    one_at_most : (c : ℕ) → length (departure_by t s c) ≤ 1
    one_at_most c = cond_both (leaves t s c) (board_entry t c ∷ []) [] (λ z. length z ≤ 1) (λ _. omega arith) (λ _. omega arith)

    up_to : (c : ℕ) → length (firsts_below t s c) ≤ c
    unfolding firsts_below
    up_to zero = omega arith
    up_to (suc c) = omega (arith, ap (λ (k : ℕ). length (firsts_below t s k)) (add-one c), departure_length c, one_at_most c, up_to c)

    rises : (a b : ℕ) → a ≤ b → length (firsts_below t s a) ≤ length (firsts_below t s b)
    rises a zero h = let z : a ≡ 0 = omega arith in rw z (omega arith)
    rises a (suc b) h = elim (cases_eq a (suc b)) [ inl e ↦ rw e (omega arith) | inr e ↦ rw (← add-one b) (omega (arith, departure_length b, rises a b (omega arith))) ]

    -- the connections below n, tested one after another
    one_more : (c : ℕ) → length (firsts_below t s (c + 1)) ≡ length (firsts_below t s c) + cond (leaves t s c) 1 0
    one_more c = ⊎_elim
        (λ e. omega (arith, ap length (more c e), listed_length c (firsts_below t s c), cond-true {A = ℕ} (leaves t s c) 1 0 e))
        (λ e. omega (arith, ap length (no_more c e), cond-false {A = ℕ} (leaves t s c) 1 0 e))
        (cases_Bool (leaves t s c))

    tested : (n c : ℕ) → c ≤ n → length (filter (leaves t s) (take c (range_with_len 0 n))) ≡ length (firsts_below t s c)
    unfolding firsts_below
    tested n zero h = refl
    tested n (suc c) h =
        let here : get_or (range_with_len 0 n) c 0 ≡ c = omega (arith, get_or-range_with_len 0 n c 0 (omega arith)) in
        rw (← add-one c) (omega (arith, ap (λ (k : ℕ). length (firsts_below t s k)) (add-one c), length-filter_more (leaves t s) (range_with_len 0 n) c 0 (omega (arith, length-range_with_len 0 n)), ap (λ (k : ℕ). cond {A = ℕ} (leaves t s k) 1 0) here, tested n c (omega arith), one_more c))

    pub tested_all : (n : ℕ) → length (filter (leaves t s) (range_with_len 0 n)) ≡ length (firsts_below t s n)
    tested_all n = ap (λ (z : List ℕ). length (filter (leaves t s) z)) (sym (take_all n (range_with_len 0 n) (omega (arith, length-range_with_len 0 n)))) ∙ tested n n (omega arith)

    -- a board with room for the first departures has room for the next
    pub board_fits : (c n : ℕ) → c < connections t → ranks t s ≤ n → length (departure_by t s c) + length (firsts_below t s c) ≤ n
    board_fits c n h k = omega (arith, departure_length c, rises (c + 1) (connections t) (omega arith))

    module _ (law : Lawful t) where
      pub ranks_few : ranks t s ≤ 16384
      ranks_few = omega (arith, up_to (connections t), law.connections_high)

      pub memory_small : memory_needed t s ≤ 16384 * 17409
      memory_small = mul-le (ranks t s) (places t + 1) 16384 17409 ranks_few (omega (arith, law.connections_high, law.stations_high))
