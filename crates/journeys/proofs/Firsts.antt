-- The first departures: those that leave the source, each once, in their order.
use Rattle.std.proofs.Common.{◌≡◌, ℕ, zero, suc, ◌<◌, true, false, ◌&&◌, ◌||◌, eqb, ltb, ◌⊎◌, List, [], ◌∷◌, length, get_or, sym, refl, subst, inl, inr, arith}
use Rattle.std.specs.List.{AllByRecursion}
use Rattle.std.proofs.ByRecursion.{All-get_or, All-weaker}
use Rattle.std.proofs.lemmas.Bool.{cond_both, cond-true, and_parts, eqb-true, cases_eq}
use Rattle.std.proofs.lemmas.Bool.Decides.{nat_tests}
use Rattle.timetable.specs.Table.{Table, at, connections}
use Rattle.timetable.specs.Labels.{sooner, leaves, inserted, firsts_below, firsts, ranks, rank_connection}
use Rattle.journeys.specs.Paths.{Runs}
use Rattle.journeys.specs.Theorems.{FirstsOrdered, FirstDepartures}

module _ (t : Table) where
  sooner_chain : (c d e : ℕ) → sooner t c d ≡ true → sooner t d e ≡ true → sooner t c e ≡ true
  sooner_chain c d e p q = chain (at t c).departure (at t d).departure (at t e).departure p q
    where
      chain : (a b g : ℕ) → (ltb a b || (eqb a b && ltb c d)) ≡ true → (ltb b g || (eqb b g && ltb d e)) ≡ true → (ltb a g || (eqb a g && ltb c e)) ≡ true
      chain a b g p q = grind (arith, nat_tests)

  sooner_else : (c d : ℕ) → d < c → sooner t d c ≡ false → sooner t c d ≡ true
  sooner_else c d lt p = other (at t c).departure (at t d).departure p
    where
      other : (a b : ℕ) → (ltb b a || (eqb b a && ltb d c)) ≡ false → (ltb a b || (eqb a b && ltb c d)) ≡ true
      other a b p = grind (arith, nat_tests)

  abbrev put : ℕ → List ℕ → List ℕ
  put c ds = inserted (sooner t) c ds

  put_all : (P : ℕ → Type 0) (c : ℕ) (ds : List ℕ) → P c → AllByRecursion P ds → AllByRecursion P (put c ds)
  unfolding inserted
  put_all P c [] h a = (h, a)
  put_all P c (d ∷ ds) h a = cond_both (sooner t d c) (d ∷ put c ds) (c ∷ d ∷ ds) (AllByRecursion P) (λ _. (a.0, put_all P c ds h a.1)) (λ _. (h, a))

-- x is among ys
abbrev Among : ℕ → List ℕ → Type 0
Among x [] = ⊥
Among x (y ∷ ys) = (x ≡ y) ⊎ Among x ys

place_of : (x : ℕ) (ys : List ℕ) → Among x ys → (i : ℕ) × (i < length ys) × (get_or ys i 0 ≡ x)
place_of x [] m = absurd m
place_of x (y ∷ ys) (inl e) = (zero, omega arith, sym e)
place_of x (y ∷ ys) (inr m) = let z = place_of x ys m in (suc z.0, omega (arith, z.1), z.2)

module _ (t : Table) where
  put_own : (c : ℕ) (ds : List ℕ) → Among c (put t c ds)
  unfolding inserted
  put_own c [] = inl refl
  put_own c (d ∷ ds) = cond_both (sooner t d c) (d ∷ put t c ds) (c ∷ d ∷ ds) (Among c) (λ _. inr (put_own c ds)) (λ _. inl refl)

  put_kept : (c x : ℕ) (ds : List ℕ) → Among x ds → Among x (put t c ds)
  unfolding inserted
  put_kept c x [] m = absurd m
  put_kept c x (d ∷ ds) m = cond_both (sooner t d c) (d ∷ put t c ds) (c ∷ d ∷ ds) (Among x) (λ _. elim m [ inl e ↦ inl e | inr k ↦ inr (put_kept c x ds k) ]) (λ _. inr m)

  -- each is sooner than all behind it
  abbrev Rise : List ℕ → Type 0
  Rise [] = Unit {0}
  Rise (c ∷ cs) = AllByRecursion (λ d. sooner t c d ≡ true) cs × Rise cs

  put_rise : (c : ℕ) (ds : List ℕ) → AllByRecursion (λ d. d < c) ds → Rise ds → Rise (put t c ds)
  unfolding inserted
  put_rise c [] b r = (tt, tt)
  put_rise c (d ∷ ds) b r =
      cond_both (sooner t d c) (d ∷ put t c ds) (c ∷ d ∷ ds) Rise
      (λ e. (put_all t (λ x. sooner t d x ≡ true) c ds e r.0, put_rise c ds b.1 r.1))
      (λ e. let h = sooner_else t c d b.0 e in ((h, All-weaker (λ x. sooner t d x ≡ true) (λ x. sooner t c x ≡ true) (λ x k. sooner_chain t c d x h k) ds r.0), r))

  rise_far : (cs : List ℕ) (i j : ℕ) → Rise cs → i < j → j < length cs → sooner t (get_or cs i 0) (get_or cs j 0) ≡ true
  rise_far [] i j r h k = absurd (omega arith)
  rise_far (c ∷ cs) i zero r h k = absurd (omega arith)
  rise_far (c ∷ cs) zero (suc j) r h k = All-get_or (λ x. sooner t c x ≡ true) cs j 0 (omega arith) r.0
  rise_far (c ∷ cs) (suc i) (suc j) r h k = rise_far cs i j r.1 (omega arith) (omega arith)

  module _ (s : ℕ) where
    -- one connection more
    below_by : (P : List ℕ → Type 0) (c : ℕ) → (leaves t s c ≡ true → P (put t c (firsts_below t s c))) → P (firsts_below t s c) → P (firsts_below t s (suc c))
    unfolding firsts_below
    below_by P c yes-so no-so = cond_both (leaves t s c) (put t c (firsts_below t s c)) (firsts_below t s c) P yes-so (λ _. no-so)

    below_all : (k : ℕ) → AllByRecursion (λ c. (c < k) × (leaves t s c ≡ true)) (firsts_below t s k)
    unfolding firsts_below
    below_all zero = tt
    below_all (suc k) =
        let h = All-weaker (λ c. (c < k) × (leaves t s c ≡ true)) (λ c. (c < suc k) × (leaves t s c ≡ true)) (λ c p. (omega (arith, p.0), p.1)) (firsts_below t s k) (below_all k) in
        below_by (AllByRecursion (λ c. (c < suc k) × (leaves t s c ≡ true))) k (λ e. put_all t (λ c. (c < suc k) × (leaves t s c ≡ true)) k (firsts_below t s k) (omega arith, e) h) h

    below_rise : (k : ℕ) → Rise (firsts_below t s k)
    unfolding firsts_below
    below_rise zero = tt
    below_rise (suc k) = below_by Rise k (λ _. put_rise k (firsts_below t s k) (All-weaker (λ c. (c < k) × (leaves t s c ≡ true)) (λ c. c < k) (λ c p. p.0) (firsts_below t s k) (below_all k)) (below_rise k)) (below_rise k)

    below_among : (x k : ℕ) → x < k → leaves t s x ≡ true → Among x (firsts_below t s k)
    unfolding firsts_below
    below_among x zero h e = absurd (omega arith)
    below_among x (suc k) h e = by_case (cases_eq x k) (λ l. below_among x k l e)
      where
        by_case : (x ≡ k) ⊎ (x ≡ k → ⊥) → (x < k → Among x (firsts_below t s k)) → Among x (firsts_below t s (suc k))
        by_case (inl q) b = subst (Among x) (sym (cond-true _ _ _ (rw q at e))) (rw q (put_own k (firsts_below t s k)))
        by_case (inr q) b = let m = b (omega arith) in below_by (Among x) k (λ _. put_kept k x (firsts_below t s k) m) m

    pub ordered : FirstsOrdered t s
    ordered = record {
      sound = λ i h. All-get_or (λ c. (c < connections t) × (leaves t s c ≡ true)) (firsts t s) i 0 h (below_all (connections t));
      whole = λ c h e. place_of c (firsts t s) (below_among c (connections t) h e);
      ordered = λ i j h k. rise_far (firsts t s) i j (below_rise (connections t)) h k;
    }

    -- a rank's connection runs, and starts at the source
    pub departing : (i : ℕ) → i < ranks t s → Runs t (rank_connection t s i) × ((at t (rank_connection t s i)).start.0 ≡ s)
    departing i h =
        let p = and_parts (at t (rank_connection t s i)).runs (eqb (at t (rank_connection t s i)).start.0 s) (ordered.sound i h).1 in
        (p.0, eqb-true (at t (rank_connection t s i)).start.0 s p.1)

pub first_departures : FirstDepartures
first_departures t s = ordered t s
