-- A written table reads back as the same table.
use Rattle.std.proofs.Common.{◌≡◌, ℕ, zero, suc, ◌+◌, ◌-◌, ◌*◌, ◌<◌, ◌≤◌, Bool, true, false, ◌&&◌, ◌||◌, eqb, ltb, List, [], ◌∷◌, ◌++◌, length, get_or, drop, None, Ok, sym, refl, ap, ◌∙◌, ap₂, add-zero, add_assoc, mul-zero, zero-add, add-one, arith}
use Rattle.std.specs.List.{flat_map}
use Rattle.std.proofs.lemmas.Bool.Decides.{nat_tests}
use Rattle.std.proofs.lemmas.Bool.{le-leb, eq-eqb, ne_eqb, not_from_false, or_right as true_right}
use Rattle.std.proofs.lemmas.List.{append-nil, append_assoc, get_or-drop, drop-drop, drop_at}
use Rattle.std.proofs.lemmas.List.FromFn.{fill_by_all}
use Rattle.refusals.specs.declared.refusal.Refusal.{Refusal}
use Rattle.refusals.specs.declared.refusal.Refusal.TheVariants.{ShortHeader}
use Rattle.timetable.specs.declared.counts.Counts.{Counts}
use Rattle.image.specs.declared.record.Record.{Record}
use Rattle.timetable.specs.Table.{Table, stations, connections, no_connection, at, Lawful}
use Rattle.timetable.specs.declared.connection.Connection.{Connection}
use Rattle.image.specs.Format.{or_else, unless, fault, opened, opened_by, front_fault, limits_fault, transfer_fault, record_fault, goes_on, number, period_in, stations_in, trains_in, connections_in, transfer_in, record_at, record_in, fields_ok, connection_in, table_in}
use Rattle.image.specs.Written.{number_bytes, record_bytes, mark, written}
use Rattle.image.proofs.First.{or_none, first_none}
use Rattle.image.proofs.Sound.{Fields, FieldsAt, Limits}
use Rattle.image.proofs.Pasted.{length_joined, length-written}

-- a number after a drop
number-drop : (bs : List ℕ) (k p : ℕ) → number (drop k bs) p ≡ number bs (k + p)
number-drop bs k p = ap₂ (λ a b. a + 256 * b) (get_or-drop k bs p 0) (get_or-drop k bs (p + 1) 0 ∙ ap (λ i. get_or bs i 0) (sym (add_assoc k p 1)))

-- the piece at i
module _ {X : Type 0} (f : X → List ℕ) (w : ℕ) (wide : (x : X) → length (f x) ≡ w) (z : X) (r : List ℕ) where
  drop_joined : (xs : List X) (i : ℕ) → i < length xs → drop (w * i) (flat_map f xs ++ r) ≡ f (get_or xs i z) ++ (flat_map f (drop (suc i) xs) ++ r)
  drop_joined [] i h = absurd (omega arith)
  drop_joined (x ∷ xs) zero h = rw mul-zero (append_assoc (f x) (flat_map f xs) r)
  drop_joined (x ∷ xs) (suc i) h =
      let e : w * suc i ≡ w + w * i = omega arith in
      ap (λ k. drop k (f x ++ flat_map f xs ++ r)) e
      ∙ (sym (drop-drop (w * i) w (f x ++ flat_map f xs ++ r))
      ∙ (ap (λ l. drop (w * i) (drop w l)) (append_assoc (f x) (flat_map f xs) r)
      ∙ (ap (drop (w * i)) (drop_at (f x) (flat_map f xs ++ r) w (wide x))
      ∙ drop_joined xs i (omega arith))))

-- the numbers of a record
record Holds (bs : List ℕ) (p : ℕ) (k : Connection) : Type 0 where
  train_is : number bs p ≡ k.train.0
  start_is : number bs (p + 2) ≡ k.start.0
  end_is : number bs (p + 4) ≡ k.end.0
  departure_is : number bs (p + 6) ≡ k.departure
  ride_is : number bs (p + 8) ≡ k.ride
  mark_is : number bs (p + 10) ≡ mark k.runs

at_zero : (bs : List ℕ) (p : ℕ) → number bs p ≡ number (drop p bs) 0
at_zero bs p = ap (number bs) (sym (add-zero p)) ∙ sym (number-drop bs p 0)

holds : (bs : List ℕ) (p : ℕ) (k : Connection) (r : List ℕ) → drop p bs ≡ record_bytes k ++ r → Holds bs p k
holds bs p k r e = record {
  train_is = at_zero bs p ∙ (ap (λ l. number l 0) e ∙ omega arith);
  start_is = sym (number-drop bs p 2) ∙ (ap (λ l. number l 2) e ∙ omega arith);
  end_is = sym (number-drop bs p 4) ∙ (ap (λ l. number l 4) e ∙ omega arith);
  departure_is = sym (number-drop bs p 6) ∙ (ap (λ l. number l 6) e ∙ omega arith);
  ride_is = sym (number-drop bs p 8) ∙ (ap (λ l. number l 8) e ∙ omega arith);
  mark_is = sym (number-drop bs p 10) ∙ (ap (λ l. number l 10) e ∙ omega arith);
}

mark-eqb : (b : Bool) → eqb (mark b) 1 ≡ b
mark-eqb true = refl
mark-eqb false = refl

connection_back : (bs : List ℕ) (p : ℕ) (k : Connection) → Holds bs p k → connection_in bs p ≡ k
connection_back bs p k h =
    let m = ap (λ n. eqb n 1) h.mark_is ∙ mark-eqb k.runs in
    λ i. record { train = record { 0 = h.train_is i }; start = record { 0 = h.start_is i }; end = record { 0 = h.end_is i }; departure = h.departure_is i; ride = h.ride_is i; runs = m i }

-- what a written table holds
module _ (t : Table) where
  stations_back : stations_in (written t) ≡ stations t
  stations_back = omega arith

  connections_back : connections_in (written t) ≡ connections t
  connections_back = omega arith

  transfer_back : (s : ℕ) → s < stations t → transfer_in (written t) s ≡ get_or t.transfers s 0
  transfer_back s l =
      let e : drop (16 + 2 * s) (written t) ≡ number_bytes (get_or t.transfers s 0) ++ (flat_map number_bytes (drop (suc s) t.transfers) ++ flat_map record_bytes t.list) =
      sym (drop-drop (2 * s) 16 (written t)) ∙ drop_joined number_bytes 2 (λ _. refl) 0 (flat_map record_bytes t.list) t.transfers s l in
      at_zero (written t) (16 + 2 * s) ∙ (ap (λ l. number l 0) e ∙ omega arith)

  record_back : (c : ℕ) → c < connections t → Holds (written t) (record_at (written t) c) (at t c)
  record_back c l =
      let j = flat_map number_bytes t.transfers in
      let k = flat_map record_bytes t.list in
      let n : 2 * stations_in (written t) ≡ 2 * stations t = ap (λ x. 2 * x) stations_back in
      let e₁ : drop (16 + 2 * stations_in (written t)) (written t) ≡ k =
      sym (drop-drop (2 * stations_in (written t)) 16 (written t)) ∙ drop_at j k (2 * stations_in (written t)) (length_joined number_bytes 2 (λ _. refl) t.transfers ∙ sym n) in
      let e₂ : drop (record_at (written t) c) (written t) ≡ record_bytes (at t c) ++ (flat_map record_bytes (drop (suc c) t.list) ++ []) =
      sym (drop-drop (12 * c) (16 + 2 * stations_in (written t)) (written t)) ∙ (ap (drop (12 * c)) (e₁ ∙ sym (append-nil k)) ∙ drop_joined record_bytes 12 (λ _. refl) no_connection [] t.list c l) in
      holds (written t) (record_at (written t) c) (at t c) _ e₂

-- no fault, from what has to hold
unless_true : (b : Bool) (r : Refusal) → b ≡ true → unless b r ≡ None
unless_true b r e = ap (λ x. unless x r) e

limits_none : (bs : List ℕ) → Limits bs → limits_fault bs ≡ None
limits_none bs n = grind (arith, nat_tests)

fields_true : (n : Counts) (r : Record) → Fields n r → fields_ok n r ≡ true
fields_true n r f = grind (arith, nat_tests)

goes_true : (a b x y : ℕ) → a ≤ b → (a ≡ b → x ≡ y) → (ltb a b || (eqb a b && eqb x y)) ≡ true
goes_true a b x y h k = grind (arith, nat_tests)

record_none : (bs : List ℕ) (c : ℕ) → FieldsAt bs (record_at bs c) → (number bs (record_at bs c + 2) ≡ number bs (record_at bs c + 4) → ⊥) → (eqb c 0 || goes_on (record_in bs (record_at bs (c - 1))) (record_in bs (record_at bs c))) ≡ true → record_fault bs c ≡ None
record_none bs c f m g =
    or_none _ _ (unless_true _ _ (fields_true _ _ f))
    (or_none _ _ (unless_true _ _ (not_from_false _ (ne_eqb _ _ m))) (unless_true _ _ g))

mark_low : (b : Bool) → mark b ≤ 1
mark_low true = omega arith
mark_low false = omega arith

follow : (t : Table) → Lawful t → (c : ℕ) → c + 1 < connections t → (bs : List ℕ) (p q : ℕ) → Holds bs p (at t c) → Holds bs q (at t (c + 1)) → goes_on (record_in bs p) (record_in bs q) ≡ true
follow t l c m bs p q h n =
    goes_true (number bs p) (number bs q) (number bs (p + 4)) (number bs (q + 2))
    (omega (arith, h.train_is, n.train_is, l.trains_rise c m))
    (λ e. h.end_is ∙ (l.goes_on c m (sym h.train_is ∙ (e ∙ n.train_is)) ∙ sym n.start_is))

module _ (t : Table) (l : Lawful t) where
  front_back : front_fault (written t) ≡ None
  front_back = ap (λ b. or_else (unless b (ShortHeader (length (written t)))) None) (le-leb 16 (length (written t)) (omega (arith, length-written t)))

  limits_back : Limits (written t)
  limits_back = record { period_low = omega arith; period_high = omega arith; stations_low = omega arith; stations_high = omega arith; trains_high = omega arith; connections_high = omega arith; nothing = refl }

  fields_back : (c : ℕ) → c < connections t → FieldsAt (written t) (record_at (written t) c)
  fields_back c k =
      let h = record_back t c k in
      let e = l.each c k in
      let s = stations_back t in
      let p : period_in (written t) ≡ t.period = omega arith in
      let z : trains_in (written t) ≡ t.trains = omega arith in
      record {
        train_known = omega (arith, h.train_is, e.train_known);
        start_known = omega (arith, h.start_is, e.start_known);
        end_known = omega (arith, h.end_is, e.end_known);
        in_period = omega (arith, h.departure_is, e.in_period);
        ride_low = omega (arith, h.ride_is, e.ride_low);
        ride_high = omega (arith, h.ride_is, e.ride_high);
        marked = omega (arith, h.mark_is, mark_low (at t c).runs);
      }

  moves_back : (c : ℕ) → c < connections t → number (written t) (record_at (written t) c + 2) ≡ number (written t) (record_at (written t) c + 4) → ⊥
  moves_back c k e = let h = record_back t c k in (l.each c k).moves (sym h.start_is ∙ (e ∙ h.end_is))

  goes_back : (c : ℕ) → c < connections t → (eqb c 0 || goes_on (record_in (written t) (record_at (written t) (c - 1))) (record_in (written t) (record_at (written t) c))) ≡ true
  goes_back zero k = refl
  goes_back (suc d) k =
      let m : d + 1 < connections t = omega arith in
      let e : d ≡ suc d - 1 = omega arith in
      let f = follow t l d m (written t) (record_at (written t) d) (record_at (written t) (d + 1)) (record_back t d (omega arith)) (record_back t (d + 1) m) in
      true_right (eqb (suc d) 0) (goes_on (record_in (written t) (record_at (written t) (suc d - 1))) (record_in (written t) (record_at (written t) (suc d)))) (sym (ap₂ (λ x y. goes_on (record_in (written t) (record_at (written t) x)) (record_in (written t) (record_at (written t) y))) e (add-one d)) ∙ f)

  transfer_none : (s : ℕ) → s < stations t → transfer_fault (written t) s ≡ None
  transfer_none s k = unless_true _ _ (le-leb _ _ (omega (arith, transfer_back t s k, l.transfer_high s k)))

  none_back : fault (written t) ≡ None
  none_back =
      or_none _ _ front_back
      (or_none _ _ (limits_none (written t) limits_back)
      (or_none _ _ (unless_true _ _ (eq-eqb _ _ (omega (arith, length-written t, stations_back t, connections_back t))))
      (or_none _ _
      (first_none (transfer_fault (written t)) 0 (stations_in (written t)) (λ s k. rw zero-add (transfer_none s (omega (arith, stations_back t)))))
      (first_none (record_fault (written t)) 0 (connections_in (written t)) (λ c k. rw zero-add (let m : c < connections t = omega (arith, connections_back t) in record_none (written t) c (fields_back c m) (moves_back c m) (goes_back c m)))))))

  table_back : table_in (written t) ≡ t
  table_back =
      let p : period_in (written t) ≡ t.period = omega arith in
      let z : trains_in (written t) ≡ t.trains = omega arith in
      let ts : t.transfers ≡ (table_in (written t)).transfers = fill_by_all (transfer_in (written t)) t.transfers (stations_in (written t)) 0 (sym (stations_back t)) (λ s k. sym (transfer_back t s (omega (arith, stations_back t)))) in
      let cs : t.list ≡ (table_in (written t)).list = fill_by_all (λ c. connection_in (written t) (record_at (written t) c)) t.list (connections_in (written t)) no_connection (sym (connections_back t)) (λ c k. sym (connection_back (written t) (record_at (written t) c) (at t c) (record_back t c (omega (arith, connections_back t))))) in
      λ i. record { period = p i; trains = z i; transfers = sym ts i; list = sym cs i }

-- What was written opens as the same table.
pub reads_back : (t : Table) → Lawful t → opened (written t) ≡ Ok t
reads_back t l = ap₂ opened_by (none_back t l) (table_back t l)
