-- Legs taken from the target back are the legs of the chain.
use Rattle.std.proofs.Common.{◌≡◌, ℕ, ◌+◌, ◌-◌, ◌<◌, ◌≤◌, Bool, true, false, cond, ltb, ◌⊎◌, List, [], ◌∷◌, ◌++◌, map, length, sym, refl, ap, ◌∙◌, inl, inr, append_assoc, append-nil, arith}
use Rattle.std.proofs.lemmas.List.{length-map}
use Rattle.std.proofs.lemmas.Bool.{cond-true, cond-false, cases_Bool, cases_lt, lt-ltb, le-ltb, le-leb, lt-leb, both_ways}
use Rattle.timetable.specs.declared.leg.Leg.{Leg}
use Rattle.timetable.specs.Table.{Table, at, stations}
use Rattle.timetable.specs.Legs.{leg_of, boarded}
use Rattle.journeys.specs.Search.{Entry}
use Rattle.journeys.specs.Trace.{extended, aboard, legs_of}
use Rattle.answers.specs.Backward.{taken, back_legs, count_back}
use Rattle.answers.specs.Chains.{leg_later}

-- only the last extension shows
extended_twice : (c a c' a' : ℕ) (gs : List Leg) → extended c' a' (extended c a gs) ≡ extended c' a' gs
extended_twice c a c' a' [] = refl
extended_twice c a c' a' (g ∷ []) = refl
extended_twice c a c' a' (g ∷ h ∷ gs) = on gs (extended_twice c a c' a' (h ∷ gs))
  where
    on : (gs : List Leg) → extended c' a' (extended c a (h ∷ gs)) ≡ extended c' a' (h ∷ gs) → extended c' a' (g ∷ extended c a (h ∷ gs)) ≡ g ∷ extended c' a' (h ∷ gs)
    on [] e = refl
    on (k ∷ gs) e = ap (λ (x : List Leg). g ∷ x) e

-- a leg of one ride at the end, extended up to g's end, is boarded onto g
extended_end : (t : Table) (c n : ℕ) (g : Leg) (hs : List Leg) → extended g.last.0 g.arrival (hs ++ (leg_of t c n ∷ [])) ≡ hs ++ (boarded t c n g ∷ [])
extended_end t c n g [] = refl
extended_end t c n g (h ∷ []) = refl
extended_end t c n g (h ∷ k ∷ hs) = ap (λ (x : List Leg). h ∷ x) (extended_end t c n g (k ∷ hs))

module _ (t : Table) where
  -- ---- one entry

  pub back_station : (e : Entry) (es : List Entry) (b : Bool) (gs : List Leg) → e.place < stations t → back_legs t (e ∷ es) b gs ≡ back_legs t es false gs
  back_station e es b gs h = cond-true (ltb e.place (stations t)) _ _ (lt-ltb e.place (stations t) h)

  pub back_connection : (e : Entry) (es : List Entry) (b : Bool) (gs : List Leg) → stations t ≤ e.place → back_legs t (e ∷ es) b gs ≡ back_legs t es true (taken t b (e.place - stations t) e.minute gs)
  back_connection e es b gs h = cond-false (ltb e.place (stations t)) _ _ (le-ltb e.place (stations t) h)

  pub count_station : (e : Entry) (es : List Entry) (b : Bool) → e.place < stations t → count_back t (e ∷ es) b ≡ count_back t es false
  count_station e es b h = cond-true (ltb e.place (stations t)) _ _ (lt-ltb e.place (stations t) h)

  pub count_connection : (e : Entry) (es : List Entry) (b : Bool) → stations t ≤ e.place → count_back t (e ∷ es) b ≡ cond b 0 1 + count_back t es true
  count_connection e es b h = cond-false (ltb e.place (stations t)) _ _ (le-ltb e.place (stations t) h)

  legs_station : (e : Entry) (es : List Entry) → e.place < stations t → legs_of t (e ∷ es) ≡ legs_of t es
  legs_station e es h = cond-true (ltb e.place (stations t)) (legs_of t es) _ (lt-ltb e.place (stations t) h)

  legs_stay : (e : Entry) (es : List Entry) → stations t ≤ e.place → aboard t es ≡ true → legs_of t (e ∷ es) ≡ extended (e.place - stations t) (e.minute + (at t (e.place - stations t)).ride) (legs_of t es)
  legs_stay e es h k = cond-false (ltb e.place (stations t)) (legs_of t es) _ (le-ltb e.place (stations t) h) ∙ cond-true (aboard t es) _ _ k

  legs_change : (e : Entry) (es : List Entry) → stations t ≤ e.place → aboard t es ≡ false → legs_of t (e ∷ es) ≡ legs_of t es ++ (leg_of t (e.place - stations t) e.minute ∷ [])
  legs_change e es h k = cond-false (ltb e.place (stations t)) (legs_of t es) _ (le-ltb e.place (stations t) h) ∙ cond-false (aboard t es) _ _ k

  -- ---- all of them, in front of any legs: from the start or after a station, or after a connection

  record ToldBack (es : List Entry) : Type 0 where
    apart : (gs : List Leg) → back_legs t es false gs ≡ legs_of t es ++ gs
    stayed : (g : Leg) (gs : List Leg) → aboard t es ≡ true → back_legs t es true (g ∷ gs) ≡ extended g.last.0 g.arrival (legs_of t es) ++ gs
    changed : (gs : List Leg) → aboard t es ≡ false → back_legs t es true gs ≡ legs_of t es ++ gs

  told_back : (es : List Entry) → ToldBack es
  told_back [] = record { apart = λ gs. refl; stayed = λ g gs h. absurd (both_ways false refl h); changed = λ gs h. refl }
  told_back (e ∷ es) = on (cases_lt e.place (stations t)) (cases_Bool (aboard t es)) (told_back es)
    where
      on : (e.place < stations t) ⊎ (stations t ≤ e.place) → (aboard t es ≡ true) ⊎ (aboard t es ≡ false) → ToldBack es → ToldBack (e ∷ es)
      on (inl h) k ih = record {
        apart = λ gs. over false gs;
        stayed = λ g gs w. absurd (both_ways (aboard t (e ∷ es)) (lt-leb (stations t) e.place h) w);
        changed = λ gs w. over true gs;
      }
        where
          over : (b : Bool) (gs : List Leg) → back_legs t (e ∷ es) b gs ≡ legs_of t (e ∷ es) ++ gs
          over b gs = back_station e es b gs h ∙ ih.apart gs ∙ ap (λ (x : List Leg). x ++ gs) (sym (legs_station e es h))
      on (inr h) (inl k) ih = record {
        apart = λ gs. back_connection e es false gs h ∙ ih.stayed _ gs k ∙ ap (λ (x : List Leg). x ++ gs) (sym (legs_stay e es h k));
        stayed = λ g gs w. back_connection e es true (g ∷ gs) h ∙ ih.stayed _ gs k
            ∙ ap (λ (x : List Leg). x ++ gs) (sym (extended_twice _ _ g.last.0 g.arrival (legs_of t es)) ∙ ap (extended g.last.0 g.arrival) (sym (legs_stay e es h k)));
        changed = λ gs w. absurd (both_ways (aboard t (e ∷ es)) w (le-leb (stations t) e.place h));
      }
      on (inr h) (inr k) ih = record {
        apart = λ gs. back_connection e es false gs h ∙ ih.changed _ k ∙ sym (append_assoc (legs_of t es) _ gs) ∙ ap (λ (x : List Leg). x ++ gs) (sym (legs_change e es h k));
        stayed = λ g gs w. back_connection e es true (g ∷ gs) h ∙ ih.changed _ k ∙ sym (append_assoc (legs_of t es) (boarded t (e.place - stations t) e.minute g ∷ []) gs)
            ∙ ap (λ (x : List Leg). x ++ gs) (sym (extended_end t (e.place - stations t) e.minute g (legs_of t es)) ∙ ap (extended g.last.0 g.arrival) (sym (legs_change e es h k)));
        changed = λ gs w. absurd (both_ways (aboard t (e ∷ es)) w (le-leb (stations t) e.place h));
      }

  -- how many they are
  record Counted (es : List Entry) : Type 0 where
    apart : (gs : List Leg) → length (back_legs t es false gs) ≡ count_back t es false + length gs
    onward : (g : Leg) (gs : List Leg) → length (back_legs t es true (g ∷ gs)) ≡ count_back t es true + length (g ∷ gs)

  counted : (es : List Entry) → Counted es
  counted [] = record { apart = λ gs. omega arith; onward = λ g gs. omega arith }
  counted (e ∷ es) = on (cases_lt e.place (stations t)) (counted es)
    where
      on : (e.place < stations t) ⊎ (stations t ≤ e.place) → Counted es → Counted (e ∷ es)
      on (inl h) ih = record {
        apart = λ gs. rw (back_station e es false gs h, count_station e es false h) (ih.apart gs);
        onward = λ g gs. rw (back_station e es true (g ∷ gs) h, count_station e es true h) (ih.apart (g ∷ gs));
      }
      on (inr h) ih = record {
        apart = λ gs. rw (back_connection e es false gs h, count_connection e es false h) (omega (arith, ih.onward (leg_of t (e.place - stations t) e.minute) gs));
        onward = λ g gs. rw (back_connection e es true (g ∷ gs) h, count_connection e es true h) (omega (arith, ih.onward (boarded t (e.place - stations t) e.minute g) gs));
      }

  pub back_legs_before : (es : List Entry) (gs : List Leg) → back_legs t es false gs ≡ legs_of t es ++ gs
  back_legs_before es gs = (told_back es).apart gs

  pub back_legs_are : (es : List Entry) → back_legs t es false [] ≡ legs_of t es
  back_legs_are es = back_legs_before es [] ∙ append-nil (legs_of t es)

  pub back_length : (es : List Entry) (gs : List Leg) → length (back_legs t es false gs) ≡ count_back t es false + length gs
  back_length es gs = (counted es).apart gs

  pub back_length_aboard : (es : List Entry) (g : Leg) (gs : List Leg) → length (back_legs t es true (g ∷ gs)) ≡ count_back t es true + length (g ∷ gs)
  back_length_aboard es g gs = (counted es).onward g gs

  pub count_back_is : (es : List Entry) → count_back t es false ≡ length (legs_of t es)
  count_back_is es = omega (arith, back_length es [], ap length (back_legs_are es))

  -- ---- later by m minutes

  pub leg_of_later : (m c n : ℕ) → leg_of t c (n + m) ≡ leg_later m (leg_of t c n)
  leg_of_later m c n = ap (λ (x : ℕ). record { train = (at t c).train; first = record { 0 = c }; last = record { 0 = c }; departure = n + m; arrival = x }) (omega arith)

  pub taken-later : (m : ℕ) (b : Bool) (c n : ℕ) (gs : List Leg) → map (leg_later m) (taken t b c n gs) ≡ taken t b c (n + m) (map (leg_later m) gs)
  taken-later m false c n gs = ap (λ (x : Leg). x ∷ map (leg_later m) gs) (sym (leg_of_later m c n))
  taken-later m true c n [] = ap (λ (x : Leg). x ∷ []) (sym (leg_of_later m c n))
  taken-later m true c n (g ∷ gs) = refl

  -- the legs moved on by m minutes are as many as are counted from the end
  pub leg-length : (m : ℕ) (es : List Entry) → length (map (leg_later m) (legs_of t es)) ≡ count_back t es false
  leg-length m es = length-map (legs_of t es) (leg_later m) ∙ sym (count_back_is es)
