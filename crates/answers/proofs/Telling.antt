-- Rows that a search wrote tell what all itineraries say.
use Rattle.std.proofs.Common.{◌≡◌, ℕ, ◌+◌, ◌*◌, ◌<◌, ◌≤◌, true, cond, ◌&&◌, ◌||◌, eqb, ltb, leb, ◌⊎◌, ◌↔◌, List, length, ℤ, pos, negsuc, ◌≤ℤ◌, Some, None, Ok, Err, Option, sym, refl, ap, ◌∙◌, subst, inl, inr, arith}
use borrow.Author.Differences.{ints}
use Rattle.std.proofs.lemmas.Bool.{cases_eq, cases_Bool, leb-false, cond-true}
use Rattle.std.proofs.lemmas.Bool.Decides.{nat_tests}
use Rattle.refusals.specs.declared.refusal.Refusal.{Refusal}
use Rattle.refusals.specs.declared.refusal.Refusal.TheVariants.{NoTarget, TargetIsSource, Unreachable, ShortAnswer}
use Rattle.timetable.specs.declared.label.Label.{Label}
use Rattle.timetable.specs.declared.pair.Pair.{Pair}
use Rattle.timetable.specs.Table.{Table, at, stations, Lawful}
use Rattle.timetable.specs.Pairs.{Beats, Unbeaten}
use Rattle.timetable.specs.Labels.{ranks, rank_connection, Leads, by_ride, by_stay, by_change}
use Rattle.timetable.specs.Rows.{head, entry, Rows, IsEntry}
use Rattle.journeys.specs.Search.{Path, begin, go}
use Rattle.journeys.specs.Theorems.{ways}
use Rattle.journeys.specs.Chosen.{moved, LeadingPair, Chosen}
use Rattle.journeys.proofs.Firsts.{ordered}
use Rattle.journeys.proofs.Ways.{labels}
use Rattle.journeys.proofs.Exactly.{not_before}
use Rattle.journeys.proofs.Sizes.{labels_small}
use Rattle.journeys.proofs.Pairs.{pairs_chosen, pairs_cover}
use Rattle.journeys.proofs.Unbeaten.{first_unbeaten}
use Rattle.answers.specs.RowPairs.{RowPair, RowUnbeaten, IsArrive, IsProfile, pair_at}
use Rattle.answers.specs.Foreign.{Reached, late, falls, early, far, AllOwn, NoRow}
use Rattle.answers.specs.Promises.{target_refusal, RowsRefused, foreign, unreached, ProfileRefused, rows, short}
use Rattle.answers.specs.Subject.{Arrives, Profile, NoWay}
use Rattle.answers.specs.Theorems.{ArriveTells, ProfileTells}

-- a moment at or after a minute is a minute
pub natural : (x : ℤ) (n : ℕ) → pos n ≤ℤ x → (m : ℕ) × (x ≡ pos m) × (n ≤ m)
natural (pos m) n h = (m, refl, omega (arith, ints))
natural (negsuc m) n h = absurd (omega (arith, ints))

abbrev pub leaving : Table → ℕ → ℕ → ℕ
leaving t s i = (at t (rank_connection t s i)).departure

module _ (t : Table) (law : Lawful t) (s : ℕ) where
  -- a station is reached after the first departure
  path_after : (i : ℕ) {q n : ℕ} → q < stations t → Path (ways t s) i q n → leaving t s i < n
  path_after i k (begin f) = absurd (omega (arith, f.place))
  path_after i k (go h (by_ride c r a b e)) = omega (arith, not_before t law s i h, (law.each c r).ride_low)
  path_after i k (go h (by_stay c d f r a b e)) = absurd (omega arith)
  path_after i k (go h (by_change c d r a b e)) = absurd (omega arith)

  -- ranks depart in the period, and in their order
  leaving_low : (i : ℕ) → i < ranks t s → leaving t s i < t.period
  leaving_low i h = (law.each (rank_connection t s i) ((ordered t s).sound i h).0).in_period

  leaving-rises : (i j : ℕ) → i < j → j < ranks t s → leaving t s i ≤ leaving t s j
  leaving-rises i j h k = by_order (leaving t s i) (leaving t s j) (rank_connection t s i) (rank_connection t s j) ((ordered t s).ordered i j h k)
    where
      by_order : (a b c d : ℕ) → (ltb a b || (eqb a b && ltb c d)) ≡ true → a ≤ b
      by_order a b c d e = grind (arith, nat_tests)

module _ (t : Table) (law : Lawful t) (s v : ℕ) (known : v < stations t) (memory : List Label) (rows : Rows t s memory) where
  abbrev minute : ℕ → ℕ
  minute i = (entry t memory i v).minute

  pub head_is : (i : ℕ) → i < ranks t s → (head t memory i).minute ≡ leaving t s i
  head_is i h = ap (λ (x : Label). x.minute) (rows.heads i h)

  entry_is : (i : ℕ) → i < ranks t s → IsEntry t s i v (entry t memory i v)
  entry_is i h = rows.entries i v h (omega arith)

  -- a row's entry that is no blank is its leading label
  pub entry-leads : (i : ℕ) → i < ranks t s → Reached t memory v i → Leads t s i v (minute i)
  entry-leads i h r = elim (entry_is i h) [ inl e ↦ e.0 | inr e ↦ absurd (r (ap (λ (x : Label). x.minute) e.0)) ]

  -- and a leading label is the row's entry
  pub leads-entry : (i n : ℕ) → Leads t s i v n → Reached t memory v i × (minute i ≡ n)
  leads-entry i n l = on (entry_is i l.label.reached.ranked)
    where
      on : IsEntry t s i v (entry t memory i v) → Reached t memory v i × (minute i ≡ n)
      on (inl e) =
          let b = e.0.label in
          let q = labels_small t law s i v (minute i) b in
          (λ z. omega (arith, q, z), omega (arith, l.label.earliest (minute i) b.reached, b.earliest n l.label.reached))
      on (inr e) = absurd (e.1 n l)

  -- no row is foreign
  pub own : AllOwn t (ranks t s) memory v
  own i h (late a) = omega (arith, head_is i h, leaving_low t law s i h)
  own i h (falls j e a) = omega (arith, head_is i h, head_is j (omega arith), leaving-rises t law s j i (omega arith) h)
  own i h (early r a) = omega (arith, head_is i h, path_after t law s i known ((labels t law s i v (minute i)).1 (entry-leads i h r).label).reached)
  own i h (far r a) = omega (arith, labels_small t law s i v (minute i) (entry-leads i h r).label)

  -- the pairs of the rows are the leading pairs from the present period on
  pub row_leading : (d a : ℕ) → RowPair t (ranks t s) memory v d a → LeadingPair t s v (pos d) (pos a)
  row_leading d a p = record {
    rank = p.row;
    minute = minute p.row;
    periods = pos p.periods;
    leads = entry-leads p.row p.there p.has.reached;
    departs = ap pos (omega (arith, p.has.departs, head_is p.row p.there));
    arrives = ap pos p.has.arrives;
  }

  pub leading_row : (d : ℕ) (x : ℤ) → LeadingPair t s v (pos d) x → (a : ℕ) × (x ≡ pos a) × RowPair t (ranks t s) memory v d a
  leading_row d x p = on p.periods p.departs p.arrives
    where
      there' : p.rank < ranks t s
      there' = p.leads.label.reached.ranked

      is : Reached t memory v p.rank × (minute p.rank ≡ p.minute)
      is = leads-entry p.rank p.minute p.leads

      on : (k : ℤ) → pos d ≡ moved t (leaving t s p.rank) k → x ≡ moved t p.minute k → (a : ℕ) × (x ≡ pos a) × RowPair t (ranks t s) memory v d a
      on (pos k) e f = (p.minute + k * t.period, f, record { row = p.rank; periods = k; there = there'; has = record { reached = is.0; departs = omega (arith, ints, e, head_is p.rank there'); arrives = omega (arith, is.1) } })
      on (negsuc k) e f = absurd (omega (arith, ints, e, leaving_low t law s p.rank there'))

  -- an unbeaten pair of the rows is one of all itineraries
  pub unbeaten_both : (d a : ℕ) → RowUnbeaten t (ranks t s) memory v d a ↔ Unbeaten t s v (pos d) (pos a)
  unbeaten_both d a = (λ u. (pairs_chosen t law s v known (pos d) (pos a)).1 (to u), λ u. from ((pairs_chosen t law s v known (pos d) (pos a)).0 u))
    where
      to : RowUnbeaten t (ranks t s) memory v d a → Chosen t s v (pos d) (pos a)
      to u = record { pair = row_leading d a u.pair; unbeaten = none }
        where
          none : (x y : ℤ) → LeadingPair t s v x y → Beats x y (pos d) (pos a) → ⊥
          none x y p b = on (natural x d b.no_earlier)
            where
              on : (m : ℕ) × (x ≡ pos m) × (d ≤ m) → ⊥
              on (m, e, h) =
                  let q = leading_row m y (subst (λ (z : ℤ). LeadingPair t s v z y) e p) in
                  let w = u.unbeaten m q.0 q.2 h (omega (arith, ints, q.1, b.no_later)) in
                  b.differs (e ∙ ap pos w.0, q.1 ∙ ap pos w.1)

      from : Chosen t s v (pos d) (pos a) → RowUnbeaten t (ranks t s) memory v d a
      from c = record { pair = same (leading_row d (pos a) c.pair); unbeaten = one }
        where
          same : (n : ℕ) × (pos a ≡ pos n) × RowPair t (ranks t s) memory v d n → RowPair t (ranks t s) memory v d a
          same (n, e, p) = let z : n ≡ a = omega (arith, ints, e) in subst (RowPair t (ranks t s) memory v d) z p

          one : (m n : ℕ) → RowPair t (ranks t s) memory v m n → d ≤ m → n ≤ a → (m ≡ d) × (n ≡ a)
          one m n p h k = on (cases_eq m d) (cases_eq n a)
            where
              beaten : ((m ≡ d) × (n ≡ a) → ⊥) → ⊥
              beaten z = c.unbeaten (pos m) (pos n) (row_leading m n p) (record { no_earlier = omega (arith, ints); no_later = omega (arith, ints); differs = λ w. z (omega (arith, ints, w.0), omega (arith, ints, w.1)) })

              on : (m ≡ d) ⊎ (m ≡ d → ⊥) → (n ≡ a) ⊎ (n ≡ a → ⊥) → (m ≡ d) × (n ≡ a)
              on (inl e) (inl f) = (e, f)
              on (inr e) f = absurd (beaten (λ z. e z.0))
              on (inl e) (inr f) = absurd (beaten (λ z. f z.1))

  -- an unbeaten pair that departs at a minute arrives at one, and is of the rows
  pub unbeaten_row : (d : ℕ) (x : ℤ) → Unbeaten t s v (pos d) x → (a : ℕ) × (x ≡ pos a) × RowUnbeaten t (ranks t s) memory v d a
  unbeaten_row d x u =
      let p = leading_row d x ((pairs_chosen t law s v known (pos d) x).0 u).pair in
      (p.0, p.1, (unbeaten_both d p.0).1 (subst (Unbeaten t s v (pos d)) p.1 u))

  pub arrives : (n d a : ℕ) → IsArrive t (ranks t s) memory v n d a → Arrives t s v n d a
  arrives n d a h = record { first = record { unbeaten = is; late_enough = after_n; first = first' }; none_sooner = first_unbeaten t law s v known (pos n) (pos d) (pos a) is after_n first' }
    where
      is : Unbeaten t s v (pos d) (pos a)
      is = (unbeaten_both d a).0 h.unbeaten

      after_n : pos n ≤ℤ pos d
      after_n = omega (arith, ints, h.late_enough)

      first' : (x y : ℤ) → Unbeaten t s v x y → pos n ≤ℤ x → pos d ≤ℤ x
      first' x y u k = on (natural x n k)
        where
          on : (m : ℕ) × (x ≡ pos m) × (n ≤ m) → pos d ≤ℤ x
          on (m, e, l) =
              let q = unbeaten_row m y (subst (λ (z : ℤ). Unbeaten t s v z y) e u) in
              omega (arith, ints, e, h.first m q.0 q.2 l)

  pub profile : (pairs : List Pair) → IsProfile t (ranks t s) memory v pairs → Profile t s v pairs
  profile pairs h = record {
    sound = λ k l. let x = h.sound k l in (x.0, (unbeaten_both (pair_at pairs k).departure (pair_at pairs k).arrival).0 x.1);
    whole = whole';
    rising = h.rising;
  }
    where
      whole' : (d : ℕ) (x : ℤ) → d < t.period → Unbeaten t s v (pos d) x → (k : ℕ) × (k < length pairs) × ((pair_at pairs k).departure ≡ d) × (pos (pair_at pairs k).arrival ≡ x)
      whole' d x l u =
          let q = unbeaten_row d x u in
          let w = h.whole d q.0 l q.2 in
          (w.0, w.1, ap (λ (z : Pair). z.departure) w.2, ap (λ (z : Pair). pos z.arrival) w.2 ∙ sym q.1)

  -- where no row reaches the target, no itinerary does
  pub no_way : NoRow t (ranks t s) memory v → NoWay t s v
  no_way none d a h =
      let p = (pairs_cover t law s v known d a h).2 in
      (leads-entry p.rank p.minute p.leads).0 (none p.rank p.leads.label.reached.ranked)

  pub refused_rows : (e : Refusal) → RowsRefused t (ranks t s) memory v e → (e ≡ Unreachable v) × NoWay t s v
  refused_rows e (foreign i f q) = absurd (own i f.there f.foreign)
  refused_rows e (unreached o none q) = (q, no_way none)

-- a target that is not refused is a station
pub target_known : (t : Table) (s v : ℕ) (rest : Option Refusal) → target_refusal t s v rest ≡ None → v < stations t
target_known t s v rest e = elim (cases_Bool (leb (stations t) v)) [ inl h ↦ absurd (never (sym (cond-true (leb (stations t) v) (Some (NoTarget v)) (cond (eqb v s) (Some (TargetIsSource v)) rest) h) ∙ e)) | inr h ↦ leb-false (stations t) v h ]
  where
    never : ◌≡◌ {A = Option Refusal} (Some (NoTarget v)) None → ⊥
    never q = let z : ◌≡◌ {A = ℕ} 0 1 = cc in omega arith

pub arrive_told : ArriveTells
arrive_told t law s v n memory (Ok x) w (a, o, h) = (a, arrives t law s v (target_known t s v _ a) memory w n x.departure x.arrival h)
arrive_told t law s v n memory (Err e) w (inl a) = inl a
arrive_told t law s v n memory (Err e) w (inr (a, h)) = let z = refused_rows t law s v (target_known t s v _ a) memory w e h in inr (a, z.0, z.1)

pub profile_told : ProfileTells
profile_told t law s v memory out out' (Ok k) w (a, g) = (a, (g.pairs, profile t law s v (target_known t s v _ a) memory w g.pairs g.profile, g.number, g.some, g.written))
profile_told t law s v memory out out' (Err e) w (kept, inl a) = (kept, inl a)
profile_told t law s v memory out out' (Err e) w (kept, inr (a, h)) = (kept, inr (a, on h))
  where
    on : ProfileRefused t (ranks t s) memory v (length out) e → ((e ≡ Unreachable v) × NoWay t s v) ⊎ ((pairs : List Pair) × Profile t s v pairs × (length out < length pairs) × (e ≡ ShortAnswer (length pairs)))
    on (rows r) = inl (refused_rows t law s v (target_known t s v _ a) memory w e r)
    on (short pairs o h room q) = inr (pairs, profile t law s v (target_known t s v _ a) memory w pairs h, room, q)
