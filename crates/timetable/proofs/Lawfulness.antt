-- A timetable under notices keeps every rule of a timetable.
use Rattle.std.proofs.Common.{◌≡◌, ℕ, ◌+◌, ◌<◌, ◌≤◌, Some, None, Option, sym, refl, ◌∙◌, subst, mod-lt, arith}
use Rattle.std.proofs.lemmas.List.{get_or-map, length-map}
use Rattle.timetable.specs.declared.connection.Connection.{Connection}
use Rattle.timetable.specs.declared.report.Report.{Report}
use Rattle.timetable.specs.declared.report.Report.TheVariants.{Cancelled, Late}
use Rattle.timetable.specs.Table.{Table, Lawful, LawfulConnection, at, connections, no_connection}
use Rattle.timetable.specs.Noticed.{noticed, reported}

-- what a report leaves alone
pub record Keeps (c d : Connection) : Type 0 where
  pub train : d.train.0 ≡ c.train.0
  pub start : d.start.0 ≡ c.start.0
  pub end : d.end.0 ≡ c.end.0
  pub ride : d.ride ≡ c.ride

pub reported_keeps : (p : ℕ) (c : Connection) (r : Option Report) → Keeps c (reported p c r)
reported_keeps p c None = record { train = refl; start = refl; end = refl; ride = refl }
reported_keeps p c (Some Cancelled) = record { train = refl; start = refl; end = refl; ride = refl }
reported_keeps p c (Some (Late d)) = record { train = refl; start = refl; end = refl; ride = refl }

reported_in_period : (p : ℕ) (c : Connection) (r : Option Report) → 1 ≤ p → c.departure < p → (reported p c r).departure < p
reported_in_period p c None l h = h
reported_in_period p c (Some Cancelled) l h = h
reported_in_period p c (Some (Late d)) l h = mod-lt (c.departure + d) l

module _ (t : Table) (says : ℕ → Option Report) where
  pub noticed-length : connections (noticed t says) ≡ connections t
  noticed-length = length-map t.list (λ c. reported t.period c (says c.train.0))

  pub noticed-at : (c : ℕ) → c < connections t → at (noticed t says) c ≡ reported t.period (at t c) (says (at t c).train.0)
  noticed-at c h = get_or-map (λ c. reported t.period c (says c.train.0)) t.list c no_connection no_connection h

  keeps : (c : ℕ) → c < connections t → Keeps (at t c) (at (noticed t says) c)
  keeps c h = let P : Connection → Type 0 = λ d. Keeps (at t c) d in subst P (sym (noticed-at c h)) (reported_keeps t.period (at t c) (says (at t c).train.0))

  lawful_connection : Lawful t → (c : ℕ) → c < connections t → LawfulConnection (noticed t says) (at (noticed t says) c)
  lawful_connection w c h =
      let l = w.each c h in
      let k = keeps c h in
      let e = k.train in
      let s = k.start in
      let f = k.end in
      let r = k.ride in
      let P : Connection → Type 0 = λ d. d.departure < t.period in
      record {
        train_known = omega (arith, l.train_known);
        start_known = omega (arith, l.start_known);
        end_known = omega (arith, l.end_known);
        moves = λ q. l.moves (sym s ∙ (q ∙ f));
        in_period = subst P (sym (noticed-at c h)) (reported_in_period t.period (at t c) (says (at t c).train.0) w.period_low l.in_period);
        ride_low = omega (arith, l.ride_low);
        ride_high = omega (arith, l.ride_high);
      }

  pub noticed_lawful : Lawful t → Lawful (noticed t says)
  noticed_lawful w = record {
    period_low = w.period_low;
    period_high = w.period_high;
    stations_low = w.stations_low;
    stations_high = w.stations_high;
    trains_high = w.trains_high;
    connections_high = omega (arith, noticed-length, w.connections_high);
    transfer_high = w.transfer_high;
    each = λ c h. lawful_connection w c (omega (arith, h, noticed-length));
    trains_rise = λ c h. let n : c + 1 < connections t = omega (arith, h, noticed-length) in let a = (keeps c (omega arith)).train in let b = (keeps (c + 1) n).train in omega (arith, w.trains_rise c n);
    goes_on = λ c h q. let n : c + 1 < connections t = omega (arith, h, noticed-length) in let a = keeps c (omega arith) in let b = keeps (c + 1) n in a.end ∙ (w.goes_on c n (sym a.train ∙ (q ∙ b.train)) ∙ sym b.start);
  }
