-- Walks along the origins of one row: each step keeps what was counted and written so far true.
use Rattle.std.proofs.Common.{◌≡◌, ℕ, ◌+◌, ◌-◌, ◌*◌, ◌<◌, ◌≤◌, Bool, true, false, cond, leb, ◌⊎◌, List, [], ◌∷◌, ◌++◌, map, length, get_or, drop, sym, refl, ap, ◌∙◌, subst, inl, inr, arith}
use Rattle.std.proofs.lemmas.List.{length-map}
use Rattle.std.proofs.lemmas.Bool.{cases_lt, lt-ltb, le-ltb, le-leb, lt-leb, both_ways}
use Rattle.std.proofs.lemmas.Nat.{mul-le}
use Rattle.timetable.specs.declared.label.Label.{Label}
use Rattle.timetable.specs.declared.leg.Leg.{Leg}
use Rattle.timetable.specs.Table.{Table, Lawful, stations}
use Rattle.timetable.specs.Legs.{leg_of}
use Rattle.timetable.specs.Labels.{places, Gives, no_origin}
use Rattle.timetable.specs.Rows.{head, entry, blank}
use Rattle.journeys.specs.Search.{Entry}
use Rattle.journeys.specs.Trace.{legs_of}
use Rattle.answers.specs.declared.view.View.{View}
use Rattle.answers.specs.Chains.{label_at, RowChain, ends, back, leg_later}
use Rattle.answers.specs.Backward.{taken, back_legs, count_back}
use Rattle.answers.specs.Rowwise.{row_head, row_entry}
use Rattle.answers.specs.Walks.{Stands, depth_at, opened, entered, TakenIn, Room, Counting, Writing}
use Rattle.answers.proofs.Chained.{gives_falls, chain_first, chain_onward}
use Rattle.answers.proofs.Legwork.{back_legs_are, back_length_aboard, count_back_is, taken-later}

-- ---- one entry

module _ (t : Table) where
  back_entry : (e : Entry) (es : List Entry) (b : Bool) (gs : List Leg) → back_legs t (e ∷ es) b gs ≡ back_legs t es (leb (stations t) e.place) (entered t b e.place e.minute gs)
  back_entry e es b gs = on (cases_lt e.place (stations t))
    where
      on : (e.place < stations t) ⊎ (stations t ≤ e.place) → back_legs t (e ∷ es) b gs ≡ back_legs t es (leb (stations t) e.place) (entered t b e.place e.minute gs)
      on (inl h) = rw (lt-ltb e.place (stations t) h, lt-leb (stations t) e.place h) refl
      on (inr h) = rw (le-ltb e.place (stations t) h, le-leb (stations t) e.place h) refl

  count-entry : (e : Entry) (es : List Entry) (b : Bool) → count_back t (e ∷ es) b ≡ opened t b e.place + count_back t es (leb (stations t) e.place)
  count-entry e es b = on (cases_lt e.place (stations t))
    where
      on : (e.place < stations t) ⊎ (stations t ≤ e.place) → count_back t (e ∷ es) b ≡ opened t b e.place + count_back t es (leb (stations t) e.place)
      on (inl h) = rw (lt-ltb e.place (stations t) h, lt-leb (stations t) e.place h) (omega arith)
      on (inr h) = rw (le-ltb e.place (stations t) h, le-leb (stations t) e.place h) refl

  pub opened_few : (b : Bool) (p : ℕ) → opened t b p ≤ 1
  opened_few b p = on b (cases_lt p (stations t))
    where
      on : (b : Bool) → (p < stations t) ⊎ (stations t ≤ p) → opened t b p ≤ 1
      on b (inl h) = rw (lt-ltb p (stations t) h) (omega arith)
      on true (inr h) = rw (le-ltb p (stations t) h) (omega arith)
      on false (inr h) = rw (le-ltb p (stations t) h) (omega arith)

  taken-length : (b : Bool) (c n : ℕ) (gs : List Leg) → (b ≡ true → 1 ≤ length gs) → length (taken t b c n gs) ≡ length gs + cond b 0 1
  taken-length false c n gs f = omega arith
  taken-length true c n [] f = absurd (omega (arith, f refl))
  taken-length true c n (g ∷ gs) f = omega arith

  taken_front : (b : Bool) (c n : ℕ) (gs hs : List Leg) → (b ≡ true → 1 ≤ length gs) → taken t b c n (gs ++ hs) ≡ taken t b c n gs ++ hs
  taken_front false c n gs hs f = refl
  taken_front true c n [] hs f = absurd (omega (arith, f refl))
  taken_front true c n (g ∷ gs) hs f = refl

  module _ (b : Bool) (p n : ℕ) where
    entered-length : (gs : List Leg) → (b ≡ true → 1 ≤ length gs) → length (entered t b p n gs) ≡ length gs + opened t b p
    entered-length gs f = on (cases_lt p (stations t))
      where
        on : (p < stations t) ⊎ (stations t ≤ p) → length (entered t b p n gs) ≡ length gs + opened t b p
        on (inl h) = rw (lt-ltb p (stations t) h) (omega arith)
        on (inr h) = rw (le-ltb p (stations t) h) (taken-length b (p - stations t) n gs f)

    entered_front : (gs hs : List Leg) → (b ≡ true → 1 ≤ length gs) → entered t b p n (gs ++ hs) ≡ entered t b p n gs ++ hs
    entered_front gs hs f = on (cases_lt p (stations t))
      where
        on : (p < stations t) ⊎ (stations t ≤ p) → entered t b p n (gs ++ hs) ≡ entered t b p n gs ++ hs
        on (inl h) = rw (lt-ltb p (stations t) h) refl
        on (inr h) = rw (le-ltb p (stations t) h) (taken_front b (p - stations t) n gs hs f)

    entered-later : (m : ℕ) (gs : List Leg) → entered t b p (n + m) (map (leg_later m) gs) ≡ map (leg_later m) (entered t b p n gs)
    entered-later m gs = on (cases_lt p (stations t))
      where
        on : (p < stations t) ⊎ (stations t ≤ p) → entered t b p (n + m) (map (leg_later m) gs) ≡ map (leg_later m) (entered t b p n gs)
        on (inl h) = rw (lt-ltb p (stations t) h) refl
        on (inr h) = rw (le-ltb p (stations t) h) (sym (taken-later t m b (p - stations t) n gs))

    -- after a connection there is a leg
    entered_some : (gs : List Leg) → (b ≡ true → 1 ≤ length gs) → leb (stations t) p ≡ true → 1 ≤ length (entered t b p n gs)
    entered_some gs f l = on b (cases_lt p (stations t)) f
      where
        on : (b : Bool) → (p < stations t) ⊎ (stations t ≤ p) → (b ≡ true → 1 ≤ length gs) → 1 ≤ length (entered t b p n gs)
        on b (inl h) f = absurd (both_ways (leb (stations t) p) (lt-leb (stations t) p h) l)
        on true (inr h) f = rw (le-ltb p (stations t) h) (omega (arith, taken-length true (p - stations t) n gs f, f refl))
        on false (inr h) f = rw (le-ltb p (stations t) h) (omega arith)

-- ---- a step

module _ (t : Table) (law : Lawful t) (w : View) (memory : List Label) (i : ℕ) where
  abbrev GivenFrom : ℕ → ℕ → Type 0
  GivenFrom o p = Gives t o (entry t memory i o).minute p (entry t memory i p).minute

  pub step_falls : (o p : ℕ) → GivenFrom o p → depth_at t memory i o < depth_at t memory i p
  step_falls o p g = (gives_falls t law _ _ _ _ g).2

  step_stands : (o p : ℕ) → GivenFrom o p → Stands t w memory i p → Stands t w memory i o
  step_stands o p g s =
      let f = gives_falls t law _ _ _ _ g in
      record { within = s.within; row = s.row; wide = s.wide; there = f.0; small = omega (arith, f.1, s.small) }

  depth_small : (p : ℕ) → Stands t w memory i p → depth_at t memory i p ≤ 400000000 * 17408 + 17408
  depth_small p s = omega (arith, s.there, law.stations_high, law.connections_high, mul-le (entry t memory i p).minute (places t) 400000000 17408 s.small (omega (arith, law.stations_high, law.connections_high)))

  -- a chain begins with its place
  chain_head : (p : ℕ) (es : List Entry) → RowChain t memory i p es → (fs : List Entry) × (es ≡ label_at t memory i p ∷ fs)
  chain_head p es (ends _ o c m) = ([], refl)
  chain_head p es (back _ {es = fs} g r) = (fs, refl)

  -- ---- what is read of a place and the row

  module _ (p : ℕ) (s : Stands t w memory i p) where
    pub entry_is : (q : ℕ) → row_entry w memory i q ≡ entry t memory i q
    entry_is q = ap (λ (n : ℕ). get_or memory (i * n + (1 + q)) blank) s.wide

    head_is : row_head w memory i ≡ head t memory i
    head_is = ap (λ (n : ℕ). get_or memory (i * n) blank) s.wide

    module _ (l : Label) (reads : l ≡ row_entry w memory i p) where
      pub read_origin : (entry t memory i p).origin ≡ l.origin
      read_origin = ap (λ (x : Label). x.origin) (sym (reads ∙ entry_is p))

      pub read_minute : (entry t memory i p).minute ≡ l.minute
      read_minute = ap (λ (x : Label). x.minute) (sym (reads ∙ entry_is p))

      module _ (none : l.origin ≡ no_origin) where
        pub step_first : p ≡ stations t + (row_head w memory i).origin → l.minute ≡ (row_head w memory i).minute → RowChain t memory i p (label_at t memory i p ∷ [])
        step_first e m = ends p (read_origin ∙ none) (e ∙ ap (λ (x : Label). stations t + x.origin) head_is) (read_minute ∙ m ∙ ap (λ (x : Label). x.minute) head_is)

        pub step_not_first : (p ≡ stations t + (row_head w memory i).origin → l.minute ≡ (row_head w memory i).minute → ⊥) → (es : List Entry) → RowChain t memory i p es → ⊥
        step_not_first f es c =
            let y = chain_first t law memory i p es c (read_origin ∙ none) in
            f (y.0 ∙ ap (λ (x : Label). stations t + x.origin) (sym head_is)) (sym read_minute ∙ y.1 ∙ ap (λ (x : Label). x.minute) (sym head_is))

      module _ (o : ℕ) (from : o ≡ l.origin) (some : l.origin ≡ no_origin → ⊥) where
        pub origin_is : (entry t memory i p).origin ≡ o
        origin_is = read_origin ∙ sym from

        given_on : (es : List Entry) → RowChain t memory i p es → Gives t o (entry t memory i o).minute p l.minute
        given_on es c = rw (← origin_is, ← read_minute) (chain_onward t memory i p es c (λ e. some (sym read_origin ∙ e))).0

        pub step_given : Gives t o (row_entry w memory i o).minute p l.minute → GivenFrom o p
        step_given g = rw (read_minute, ← (ap (λ (x : Label). x.minute) (entry_is o))) g

        pub step_not_given : (1 + o < w.width → Gives t o (row_entry w memory i o).minute p l.minute → ⊥) → (es : List Entry) → RowChain t memory i p es → ⊥
        step_not_given f es c =
            let g = given_on es c in
            f (omega (arith, s.wide, (gives_falls t law _ _ _ _ g).0)) (rw (ap (λ (x : Label). x.minute) (entry_is o)) g)

  module _ (v : ℕ) where
    -- ---- counting

    module _ (p : ℕ) (b : Bool) (k : ℕ) (x : Counting t w memory i v p b k) where
      pub count_end : RowChain t memory i p (label_at t memory i p ∷ []) → (all : List Entry) × RowChain t memory i v all × (k + opened t b p ≡ length (legs_of t all))
      count_end c =
          let y = x.ahead (label_at t memory i p ∷ []) c in
          (y.0, y.1, omega (arith, y.2, count-entry t (label_at t memory i p) [] b, count_back_is t y.0))

      from_origin : GivenFrom (entry t memory i p).origin p → ((entry t memory i p).origin ≡ no_origin → ⊥) → Counting t w memory i v (entry t memory i p).origin (leb (stations t) p) (k + opened t b p)
      from_origin g n = record {
        stands = step_stands _ p g x.stands;
        ahead = λ es c. (let y = x.ahead (label_at t memory i p ∷ es) (back p g c) in (y.0, y.1, omega (arith, y.2, count-entry t (label_at t memory i p) es b)));
        behind = λ all c. (let y = x.behind all c in let z = chain_onward t memory i p y.0 y.1 n in (z.1.0, z.1.1));
        few = omega (arith, x.few, step_falls _ p g, opened_few t b p);
      }

      pub count_onward : (o s : ℕ) → (entry t memory i p).origin ≡ o → (o ≡ no_origin → ⊥) → GivenFrom o p → s ≡ stations t → (d : ℕ) → d ≡ opened t b p → Counting t w memory i v o (leb s p) (k + d)
      count_onward o s e n g z d y = rw (z, y) (subst (λ (q : ℕ). (q ≡ no_origin → ⊥) → GivenFrom q p → Counting t w memory i v q (leb (stations t) p) (k + opened t b p)) e (λ n g. from_origin g n) n g)

    -- ---- writing

    module _ (later k : ℕ) (out₀ : List Leg) where
      pub write_start : Stands t w memory i v → (all : List Entry) → RowChain t memory i v all → k ≡ length (legs_of t all) → k ≤ length out₀ → Writing t w memory i v later k out₀ v false k out₀
      write_start s all c e h = record {
        stands = s;
        entries = all;
        chain = c;
        all = all;
        whole = c;
        all_legs = e;
        legs = [];
        rest = back_legs_are t all;
        some = λ z. absurd (both_ways false refl z);
        left = omega arith;
        room = h;
        held = refl;
      }

      module _ (p : ℕ) (b : Bool) (j : ℕ) (out : List Leg) (x : Writing t w memory i v later k out₀ p b j out) where
        module _ (fs : List Entry) (e : x.entries ≡ label_at t memory i p ∷ fs) where
          rest_after : back_legs t fs (leb (stations t) p) (entered t b p (entry t memory i p).minute x.legs) ≡ legs_of t x.all
          rest_after = sym (back_entry t (label_at t memory i p) fs b x.legs) ∙ ap (λ (z : List Entry). back_legs t z b x.legs) (sym e) ∙ x.rest

          before : stations t ≤ p → b ≡ false → 1 ≤ j
          before h l =
              let r = rw (l, le-ltb p (stations t) h, le-leb (stations t) p h) at rest_after in
              omega (arith, back_length_aboard t fs (leg_of t (p - stations t) (entry t memory i p).minute) x.legs, ap length r, x.left, x.all_legs)

        pub write_room : Room t b p j out
        write_room =
            let y = chain_head p x.entries x.chain in
            record { inside = omega (arith, x.left, x.room); behind = λ l. omega (arith, x.some l, x.left, x.room); before = before y.0 y.1 }

        -- what is read of the place, and what was taken
        module _ (l : Label) (reads : l ≡ row_entry w memory i p) (j' : ℕ) (out' : List Leg) (y : TakenIn t b p (l.minute + later) j out j' out') (same : length out' ≡ length out) where
          held_after : drop j' out' ≡ map (leg_later later) (entered t b p (entry t memory i p).minute x.legs) ++ drop k out₀
          held_after =
              y.held ∙ ap (λ (n : ℕ). entered t b p (n + later) (drop j out)) (sym (read_minute p x.stands l reads))
              ∙ ap (λ (z : List Leg). entered t b p ((entry t memory i p).minute + later) z) x.held
              ∙ entered_front t b p ((entry t memory i p).minute + later) (map (leg_later later) x.legs) (drop k out₀) (λ z. omega (arith, x.some z, length-map x.legs (leg_later later)))
              ∙ ap (λ (z : List Leg). z ++ drop k out₀) (entered-later t b p (entry t memory i p).minute later x.legs)

          left_after : j' + length (entered t b p (entry t memory i p).minute x.legs) ≡ k
          left_after = omega (arith, y.moved, x.left, entered-length t b p (entry t memory i p).minute x.legs x.some)

          pub write_end : l.origin ≡ no_origin → (all : List Entry) × RowChain t memory i v all × (out' ≡ map (leg_later later) (legs_of t all) ++ drop k out₀)
          write_end o =
              let z = chain_first t law memory i p x.entries x.chain (read_origin p x.stands l reads ∙ o) in
              let r : entered t b p (entry t memory i p).minute x.legs ≡ legs_of t x.all = rest_after [] z.2 in
              let n : j' ≡ 0 = omega (arith, left_after, ap length r, x.all_legs) in
              (x.all, x.whole, ap (λ (m : ℕ). drop m out') (sym n) ∙ held_after ∙ ap (λ (gs : List Leg). map (leg_later later) gs ++ drop k out₀) r)

          from_there : ((entry t memory i p).origin ≡ no_origin → ⊥) → (depth_at t memory i (entry t memory i p).origin < depth_at t memory i p) × Writing t w memory i v later k out₀ (entry t memory i p).origin (leb (stations t) p) j' out'
          from_there n =
              let z = chain_onward t memory i p x.entries x.chain n in (
                step_falls _ p z.0,
                record {
                  stands = step_stands _ p z.0 x.stands;
                  entries = z.1.0;
                  chain = z.1.1;
                  all = x.all;
                  whole = x.whole;
                  all_legs = x.all_legs;
                  legs = entered t b p (entry t memory i p).minute x.legs;
                  rest = rest_after z.1.0 z.1.2;
                  some = entered_some t b p (entry t memory i p).minute x.legs x.some;
                  left = left_after;
                  room = omega (arith, x.room, same);
                  held = held_after;
                },
              )

          pub write_onward : (o : ℕ) → o ≡ l.origin → (l.origin ≡ no_origin → ⊥) → (s : ℕ) → s ≡ stations t → (depth_at t memory i o < depth_at t memory i p) × Writing t w memory i v later k out₀ o (leb s p) j' out'
          write_onward o f n s e = rw e (subst (λ (q : ℕ). (depth_at t memory i q < depth_at t memory i p) × Writing t w memory i v later k out₀ q (leb (stations t) p) j' out') (origin_is p x.stands l reads o f n) (from_there (λ z. n (sym (read_origin p x.stands l reads) ∙ z))))
