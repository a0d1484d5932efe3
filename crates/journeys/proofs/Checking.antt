-- The check of a list of labels is sound.
use Rattle.std.proofs.Common.{◌≡◌, ℕ, ◌<◌, ◌≤◌, Bool, true, false, not, ◌&&◌, ◌||◌, eqb, ltb, leb, ◌⊎◌, List, [], ◌∷◌, ◌++◌, sym, refl, subst, inl, inr, arith}
use Rattle.std.proofs.lemmas.Bool.{and_parts, or_cases, eqb-true, both_ways}
use Rattle.std.proofs.lemmas.Bool.Decides.{nat_tests}
use Rattle.timetable.specs.Table.{Table, Lawful}
use Rattle.journeys.specs.Search.{Entry, entry, nowhere, Mem, here, there, Path, begin, go, Sound, Covered, Apart, Done, Next}
use Rattle.journeys.specs.Theorems.{ways}
use Rattle.journeys.specs.Queued.{opening, leads}
use Rattle.journeys.specs.Checked.{all_of, any_of, same_entry, grounded_in, covers, apart_from, complete, CheckSound}
use Rattle.journeys.proofs.Queued.{join_left, join_parts, opening_begins, leads-put}
use Rattle.journeys.proofs.Exactly.{exactly}

pub all_at : (p : Entry → Bool) (l : List Entry) → all_of p l ≡ true → (e : Entry) → Mem e l → p e ≡ true
all_at p [] h e m = elim m [ ]
all_at p (x ∷ l) h e here = (and_parts (p x) (all_of p l) h).0
all_at p (x ∷ l) h e (there m) = all_at p l (and_parts (p x) (all_of p l) h).1 e m

pub any_at : (p : Entry → Bool) (l : List Entry) → any_of p l ≡ true → (e : Entry) × Mem e l × (p e ≡ true)
any_at p [] h = absurd (both_ways false refl h)
any_at p (x ∷ l) h = elim (or_cases (p x) (any_of p l) h) [ inl q ↦ (x, here, q) | inr q ↦ (let z = any_at p l q in (z.0, there z.1, z.2)) ]

same : (a b : Entry) → same_entry a b ≡ true → a ≡ b
same a b h =
    let m = and_parts (eqb a.minute b.minute) _ h in
    let r = and_parts (eqb a.rank b.rank) _ m.1 in
    let p = and_parts (eqb a.place b.place) (eqb a.origin b.origin) r.1 in
    let e₁ = eqb-true _ _ m.0 in
    let e₂ = eqb-true _ _ r.0 in
    let e₃ = eqb-true _ _ p.0 in
    let e₄ = eqb-true _ _ p.1 in
    λ i. record { minute = e₁ i; rank = e₂ i; place = e₃ i; origin = e₄ i }

member : (e : Entry) (l : List Entry) → any_of (same_entry e) l ≡ true → Mem e l
member e l h = let z = any_at (same_entry e) l h in subst (λ (x : Entry). Mem x l) (sym (same e z.0 z.2)) z.1

record Parts (p q r i m n o k : ℕ) : Type 0 where
  same_place : p ≡ q
  higher : i ≤ r
  sooner : m ≤ n
  own : r ≡ i → m ≡ n → k ≤ o

parts : (p q r i m n o k : ℕ) → (eqb p q && (leb i r && (leb m n && (not (eqb r i && eqb m n) || leb k o)))) ≡ true → Parts p q r i m n o k
parts p q r i m n o k h = record { same_place = grind (arith, nat_tests); higher = grind (arith, nat_tests); sooner = grind (arith, nat_tests); own = λ a b. grind (arith, nat_tests) }

covered : (l : List Entry) (x : Entry) → any_of (covers x) l ≡ true → Covered l x
covered l x h = so z.0 z.1 (parts z.0.place x.place z.0.rank x.rank z.0.minute x.minute z.0.origin x.origin z.2)
  where
    z : (e : Entry) × Mem e l × (covers x e ≡ true)
    z = any_at (covers x) l h

    so : (e : Entry) → Mem e l → Parts e.place x.place e.rank x.rank e.minute x.minute e.origin x.origin → Covered l x
    so e m w = record { by = e; settled = m; same = w.same_place; higher = w.higher; sooner = w.sooner; own = w.own }

module _ (t : Table) (l : Lawful t) (s : ℕ) where
  -- what is known of the labels that were looked at
  abbrev Known : List Entry → List Entry → Type 0
  Known full before = (g : Entry) → Mem g before → Mem g full × Path (ways t s) g.rank g.place g.minute

  known_more : (full before : List Entry) (e : Entry) → Mem e full → Sound (ways t s) full e → Known full before → Known full (e ∷ before)
  known_more full before e m k h g here = (m, k.reached)
  known_more full before e m k h g (there n) = h g n

  one : (full before : List Entry) (e : Entry) → Known full before → (any_of (same_entry e) (opening t s) || any_of (λ g. any_of (same_entry e) (leads t g)) before) ≡ true → Sound (ways t s) full e
  one full before e k h = elim (or_cases (any_of (same_entry e) (opening t s)) _ h) [ inl q ↦ begins q | inr q ↦ goes q ]
    where
      begins : any_of (same_entry e) (opening t s) ≡ true → Sound (ways t s) full e
      begins q = let b = (opening_begins t l s).only e (member e (opening t s) q) in record { reached = begin b.0; grounds = inl b }

      goes : any_of (λ g. any_of (same_entry e) (leads t g)) before ≡ true → Sound (ways t s) full e
      goes q = by (any_at (λ g. any_of (same_entry e) (leads t g)) before q)
        where
          by : (g : Entry) × Mem g before × (any_of (same_entry e) (leads t g) ≡ true) → Sound (ways t s) full e
          by (g, m, p) = on ((leads-put t l s g []).only e (join_left [] (member e (leads t g) p)))
            where
              on : Mem e [] ⊎ Next (ways t s) g e → Sound (ways t s) full e
              on (inl n) = elim n [ ]
              on (inr n) = record {
                reached = go (subst (λ (i : ℕ). Path (ways t s) i g.place g.minute) (sym n.rank) (k g m).1) n.given;
                grounds = inr (g, (k g m).0, sym n.rank, sym n.origin, n.given);
              }

  sound_all : (full before rest : List Entry) → ((e : Entry) → Mem e rest → Mem e full) → Known full before → grounded_in t s before rest ≡ true → (e : Entry) → Mem e rest → Sound (ways t s) full e
  sound_all full before [] f k h e m = elim m [ ]
  sound_all full before (x ∷ rest) f k h e m = step full before x rest f k h (λ f' k' h'. sound_all full (x ∷ before) rest f' k' h') e m
    where
      step : (full before : List Entry) (x : Entry) (rest : List Entry) → ((e : Entry) → Mem e (x ∷ rest) → Mem e full) → Known full before → grounded_in t s before (x ∷ rest) ≡ true → (((e : Entry) → Mem e rest → Mem e full) → Known full (x ∷ before) → grounded_in t s (x ∷ before) rest ≡ true → (e : Entry) → Mem e rest → Sound (ways t s) full e) → (e : Entry) → Mem e (x ∷ rest) → Sound (ways t s) full e
      step full before x rest f k h ih e m = on e m
        where
          q : ((any_of (same_entry x) (opening t s) || any_of (λ g. any_of (same_entry x) (leads t g)) before) ≡ true) × (grounded_in t s (x ∷ before) rest ≡ true)
          q = and_parts (any_of (same_entry x) (opening t s) || any_of (λ g. any_of (same_entry x) (leads t g)) before) (grounded_in t s (x ∷ before) rest) h

          here_sound : Sound (ways t s) full x
          here_sound = one full before x k q.0

          on : (g : Entry) → Mem g (x ∷ rest) → Sound (ways t s) full g
          on g here = here_sound
          on g (there n) = ih (λ y z. f y (there z)) (known_more full before x (f x here) here_sound k) q.1 g n

  apart : (full : List Entry) → all_of (λ a. all_of (apart_from a) full) full ≡ true → Apart full
  apart full h = record {
    strict = λ a b m n p r. strict' a.place b.place a.rank b.rank a.minute b.minute (same_entry a b) (at a b m n) p r;
    single = λ a b m n p r. same a b (single' a.place b.place a.rank b.rank a.minute b.minute (same_entry a b) (at a b m n) p r);
  }
    where
      at : (a b : Entry) → Mem a full → Mem b full → apart_from a b ≡ true
      at a b m n = all_at (apart_from a) full (all_at (λ x. all_of (apart_from x) full) full h a m) b n

      strict' : (p q r i m n : ℕ) (e : Bool) → (not (eqb p q) || ((not (ltb r i) || ltb m n) && (not (eqb r i) || e))) ≡ true → p ≡ q → r < i → m < n
      strict' p q r i m n e h a b = grind (arith, nat_tests)

      single' : (p q r i m n : ℕ) (e : Bool) → (not (eqb p q) || ((not (ltb r i) || ltb m n) && (not (eqb r i) || e))) ≡ true → p ≡ q → r ≡ i → e ≡ true
      single' p q r i m n e h a b = grind (arith, nat_tests)

  pub done : (full : List Entry) → complete t s full ≡ true → Done (ways t s) full
  done full h =
      let a = and_parts (grounded_in t s [] full) _ h in
      let b = and_parts (all_of (λ x. any_of (covers x) full) (opening t s)) _ a.1 in
      let c = and_parts (all_of (λ g. all_of (λ x. any_of (covers x) full) (leads t g)) full) _ b.1 in
      record {
        sound = sound_all full [] full (λ e m. m) (λ g m. elim m [ ]) a.0;
        firsts = λ i p n f. covered full (entry n i p nowhere) (all_at (λ x. any_of (covers x) full) (opening t s) b.0 (entry n i p nowhere) ((opening_begins t l s).put i p n f));
        closed = λ g m p n f. covered full (entry n g.rank p g.place) (all_at (λ x. any_of (covers x) full) (leads t g) (all_at (λ g. all_of (λ x. any_of (covers x) full) (leads t g)) full c.0 g m) (entry n g.rank p g.place) (in_leads g (entry n g.rank p g.place) ((leads-put t l s g []).put (entry n g.rank p g.place) (record { given = f; rank = refl; origin = refl }))));
        apart = apart full c.1;
      }
    where
      in_leads : (g e : Entry) → Mem e (leads t g ++ []) → Mem e (leads t g)
      in_leads g e m = elim (join_parts (leads t g) [] m) [ inl k ↦ k | inr k ↦ elim k [ ] ]

pub check_sound : CheckSound
check_sound t l s full h = exactly t l s full (done t l s full h)
