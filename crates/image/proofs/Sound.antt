-- What bytes that open are known to hold.
use Rattle.std.proofs.Common.{◌≡◌, ℕ, ◌+◌, ◌-◌, ◌*◌, ◌<◌, ◌≤◌, Bool, true, false, not, ◌&&◌, ◌||◌, eqb, ltb, List, length, get_or, Some, None, Ok, Option, refl, subst, zero-add, arith}
use Rattle.std.proofs.lemmas.Bool.Decides.{nat_tests}
use Rattle.std.proofs.lemmas.Bool.{not-true, eqb-true, eqb-false, leb-true}
use Rattle.refusals.specs.declared.refusal.Refusal.TheVariants.{RecordLimit, SameStation, BrokenTrain}
use Rattle.std.proofs.lemmas.List.FromFn.{length-map-range_with_len, get_or-map-range_with_len}
use Rattle.timetable.specs.declared.counts.Counts.{Counts}
use Rattle.image.specs.declared.record.Record.{Record}
use Rattle.timetable.specs.Table.{Table, stations, connections, no_connection, at, Lawful, LawfulConnection}
use Rattle.refusals.specs.declared.refusal.Refusal.{Refusal}
use Rattle.image.specs.Format.{or_else, unless, first, fault, opened_by, front_fault, limits_fault, length_fault, transfer_fault, record_fault, fields_ok, goes_on, number, period_in, stations_in, trains_in, connections_in, counts_in, transfer_in, record_at, record_in, connection_in, table_in}
use Rattle.image.proofs.First.{or_left, or_right, first-each}

pub unless_none : (b : Bool) (r : Refusal) → unless b r ≡ None → b ≡ true
unless_none true r e = refl
unless_none false r e = let z : ◌≡◌ {A = ℕ} 0 1 = cc in absurd (omega arith)

-- what opens has no fault, and means its table
pub opened_none : (o : Option Refusal) (s t : Table) → opened_by o s ≡ Ok t → (o ≡ None) × (s ≡ t)
opened_none None s t e = (refl, cc)
opened_none (Some r) s t e = let z : ◌≡◌ {A = ℕ} 0 1 = cc in absurd (omega arith)

module _ (bs : List ℕ) (h : fault bs ≡ None) where
  rest₁ : or_else (limits_fault bs) (or_else (length_fault bs) (or_else (first (transfer_fault bs) 0 (stations_in bs)) (first (record_fault bs) 0 (connections_in bs)))) ≡ None
  rest₁ = or_right (front_fault bs) _ h

  rest₂ : or_else (length_fault bs) (or_else (first (transfer_fault bs) 0 (stations_in bs)) (first (record_fault bs) 0 (connections_in bs))) ≡ None
  rest₂ = or_right (limits_fault bs) _ rest₁

  rest₃ : or_else (first (transfer_fault bs) 0 (stations_in bs)) (first (record_fault bs) 0 (connections_in bs)) ≡ None
  rest₃ = or_right (length_fault bs) _ rest₂

  pub no_front : front_fault bs ≡ None
  no_front = or_left (front_fault bs) _ h

  pub no_limits : limits_fault bs ≡ None
  no_limits = or_left (limits_fault bs) _ rest₁

  pub length_is : length bs ≡ 16 + 2 * stations_in bs + 12 * connections_in bs
  length_is = eqb-true _ _ (unless_none _ _ (or_left (length_fault bs) _ rest₂))

  pub no_transfer : (s : ℕ) → s < stations_in bs → transfer_fault bs s ≡ None
  no_transfer s l = rw zero-add at (first-each (transfer_fault bs) 0 (stations_in bs) (or_left (first (transfer_fault bs) 0 (stations_in bs)) _ rest₃) s l)

  pub no_record : (c : ℕ) → c < connections_in bs → record_fault bs c ≡ None
  no_record c l = rw zero-add at (first-each (record_fault bs) 0 (connections_in bs) (or_right (first (transfer_fault bs) 0 (stations_in bs)) _ rest₃) c l)

pub record Limits (bs : List ℕ) : Type 0 where
  pub period_low : 1 ≤ period_in bs
  pub period_high : period_in bs ≤ 10080
  pub stations_low : 1 ≤ stations_in bs
  pub stations_high : stations_in bs ≤ 1024
  pub trains_high : trains_in bs ≤ 4096
  pub connections_high : connections_in bs ≤ 16384
  pub nothing : number bs 14 ≡ 0

pub limits : (bs : List ℕ) → limits_fault bs ≡ None → Limits bs
limits bs h = record { period_low = grind (arith, nat_tests); period_high = grind (arith, nat_tests); stations_low = grind (arith, nat_tests); stations_high = grind (arith, nat_tests); trains_high = grind (arith, nat_tests); connections_high = grind (arith, nat_tests); nothing = grind (arith, nat_tests) }

-- what a record without fault holds
pub record Fields (n : Counts) (r : Record) : Type 0 where
  pub train_known : r.train.0 < n.trains
  pub start_known : r.start.0 < n.stations
  pub end_known : r.end.0 < n.stations
  pub in_period : r.departure < n.period
  pub ride_low : 1 ≤ r.ride
  pub ride_high : r.ride ≤ 10080
  pub marked : r.mark ≤ 1

fields : (n : Counts) (r : Record) → fields_ok n r ≡ true → Fields n r
fields n r h = record { train_known = grind (arith, nat_tests); start_known = grind (arith, nat_tests); end_known = grind (arith, nat_tests); in_period = grind (arith, nat_tests); ride_low = grind (arith, nat_tests); ride_high = grind (arith, nat_tests); marked = grind (arith, nat_tests) }

abbrev pub FieldsAt : List ℕ → ℕ → Type 0
FieldsAt bs q = Fields (counts_in bs) (record_in bs q)

module _ (bs : List ℕ) (c : ℕ) (h : record_fault bs c ≡ None) where
  rest_moves : or_else (unless (not (eqb (number bs (record_at bs c + 2)) (number bs (record_at bs c + 4)))) (SameStation c)) (unless (eqb c 0 || goes_on (record_in bs (record_at bs (c - 1))) (record_in bs (record_at bs c))) (BrokenTrain c)) ≡ None
  rest_moves = or_right (unless (fields_ok (counts_in bs) (record_in bs (record_at bs c))) (RecordLimit c)) _ h

  pub fields_at : FieldsAt bs (record_at bs c)
  fields_at = fields _ _ (unless_none _ (RecordLimit c) (or_left (unless (fields_ok (counts_in bs) (record_in bs (record_at bs c))) (RecordLimit c)) _ h))

  pub moves_at : number bs (record_at bs c + 2) ≡ number bs (record_at bs c + 4) → ⊥
  moves_at = eqb-false _ _ (not-true _ (unless_none _ (SameStation c) (or_left (unless (not (eqb (number bs (record_at bs c + 2)) (number bs (record_at bs c + 4)))) (SameStation c)) _ rest_moves)))

  pub goes_at : (eqb c 0 || goes_on (record_in bs (record_at bs (c - 1))) (record_in bs (record_at bs c))) ≡ true
  goes_at = unless_none _ (BrokenTrain c) (or_right (unless (not (eqb (number bs (record_at bs c + 2)) (number bs (record_at bs c + 4)))) (SameStation c)) _ rest_moves)

goes : (a b x y : ℕ) (c : ℕ) → (eqb (c + 1) 0 || (ltb a b || (eqb a b && eqb x y))) ≡ true → (a ≤ b) × (a ≡ b → x ≡ y)
goes a b x y c h = (grind (arith, nat_tests), λ e. grind (arith, nat_tests))

-- the table, by places
pub stations_is : (bs : List ℕ) → stations (table_in bs) ≡ stations_in bs
stations_is bs = length-map-range_with_len (transfer_in bs) 0 (stations_in bs)

pub connections_is : (bs : List ℕ) → connections (table_in bs) ≡ connections_in bs
connections_is bs = length-map-range_with_len (λ c. connection_in bs (record_at bs c)) 0 (connections_in bs)

pub transfer-at : (bs : List ℕ) (s : ℕ) → s < stations_in bs → get_or (table_in bs).transfers s 0 ≡ transfer_in bs s
transfer-at bs s l = get_or-map-range_with_len (transfer_in bs) 0 (stations_in bs) s s 0 l (zero-add s)

pub connection_at : (bs : List ℕ) (c : ℕ) → c < connections_in bs → at (table_in bs) c ≡ connection_in bs (record_at bs c)
connection_at bs c l = get_or-map-range_with_len (λ c. connection_in bs (record_at bs c)) 0 (connections_in bs) c c no_connection l (zero-add c)

lawful_connection : (bs : List ℕ) (c : ℕ) → record_fault bs c ≡ None → LawfulConnection (table_in bs) (connection_in bs (record_at bs c))
lawful_connection bs c h =
    let f = fields_at bs c h in
    let si = stations_is bs in
    record { train_known = f.train_known; start_known = omega arith; end_known = omega arith; moves = moves_at bs c h; in_period = f.in_period; ride_low = f.ride_low; ride_high = f.ride_high }

follows : (bs : List ℕ) (c : ℕ) → record_fault bs (c + 1) ≡ None → (number bs (record_at bs c) ≤ number bs (record_at bs (c + 1))) × (number bs (record_at bs c) ≡ number bs (record_at bs (c + 1)) → number bs (record_at bs c + 4) ≡ number bs (record_at bs (c + 1) + 2))
follows bs c h =
    let e : c + 1 - 1 ≡ c = omega arith in
    let P : ℕ → Type 0 = λ q. (eqb (c + 1) 0 || goes_on (record_in bs (record_at bs q)) (record_in bs (record_at bs (c + 1)))) ≡ true in
    goes _ _ _ _ c (subst P e (goes_at bs (c + 1) h))

-- An opened image's table is lawful.
pub lawful : (bs : List ℕ) → fault bs ≡ None → Lawful (table_in bs)
lawful bs h =
    let n = limits bs (no_limits bs h) in
    let si = stations_is bs in
    let ci = connections_is bs in
    record {
      period_low = n.period_low;
      period_high = n.period_high;
      stations_low = omega arith;
      stations_high = omega arith;
      trains_high = n.trains_high;
      connections_high = omega arith;
      transfer_high = λ s l. let k : s < stations_in bs = omega arith in rw (transfer-at bs s k) (leb-true _ _ (unless_none _ _ (no_transfer bs h s k)));
      each = λ c l. let k : c < connections_in bs = omega arith in rw (connection_at bs c k) (lawful_connection bs c (no_record bs h c k));
      trains_rise = λ c l. let k : c < connections_in bs = omega arith in let m : c + 1 < connections_in bs = omega arith in rw (connection_at bs c k, connection_at bs (c + 1) m) (follows bs c (no_record bs h (c + 1) m)).0;
      goes_on = λ c l. let k : c < connections_in bs = omega arith in let m : c + 1 < connections_in bs = omega arith in rw (connection_at bs c k, connection_at bs (c + 1) m) (follows bs c (no_record bs h (c + 1) m)).1;
    }
