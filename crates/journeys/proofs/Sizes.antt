-- The bounds of a lawful timetable's labels and searches.
use Rattle.std.proofs.Common.{ℕ, ◌+◌, ◌-◌, ◌*◌, ◌%◌, ◌<◌, ◌≤◌, mod-lt, arith}
use Rattle.timetable.specs.Table.{Table, at, transfer, ahead, Lawful}
use Rattle.timetable.specs.Labels.{ranks, rank_connection, places, Gives, by_ride, by_stay, by_change}
use Rattle.journeys.specs.Search.{Bounded}
use Rattle.journeys.specs.Theorems.{ways, LabelsSmall, SearchSmall}
use Rattle.journeys.proofs.Clock.{times}
use Rattle.journeys.proofs.Walk.{low}
use Rattle.journeys.proofs.Firsts.{ordered}
use Rattle.journeys.proofs.Ways.{forward, labels}
use Rattle.journeys.proofs.Bounds.{small}
use Rattle.journeys.proofs.Exactly.{running}
use Rattle.journeys.proofs.Small.{small_settled, small_next, few_settled, inside_settled, inside_next}

module _ (t : Table) (l : Lawful t) where
  ahead_low : (a b : ℕ) → ahead t.period a b ≤ 10079
  ahead_low a b = omega (arith, mod-lt (b + (t.period - a % t.period)) {m = t.period} l.period_low, l.period_high)

  pub gives_place : (q m p n : ℕ) → Gives t q m p n → p < places t
  gives_place q m p n (by_ride c r a b e) = omega (arith, (l.each c r).end_known)
  gives_place q m p n (by_stay c d f r a b e) = omega (arith, f.there)
  gives_place q m p n (by_change c d r a b e) = omega arith

  gives_minute : (q m p n : ℕ) → Gives t q m p n → n ≤ m + 20159
  gives_minute q m p n (by_ride c r a b e) = omega (arith, (l.each c r).ride_high)
  gives_minute q m p n (by_stay c d f r a b e) = omega (arith, (l.each c (omega (arith, f.next, f.there))).ride_high, ahead_low ((at t c).departure + (at t c).ride) (at t d).departure)
  gives_minute q m p n (by_change c d r a b e) = omega (arith, l.transfer_high q (rw a (l.each c d).start_known), ahead_low (m + transfer t q) (at t c).departure)

  bounded : (s : ℕ) → Bounded (ways t s) (ranks t s) (places t) 20159 10079
  bounded s = record {
    first_rank = λ i p n f. f.ranked;
    first_place = λ i p n f. omega (arith, f.place, ((ordered t s).sound i f.ranked).0);
    first_minute = λ i p n f. omega (arith, f.departure, low t l (rank_connection t s i) ((ordered t s).sound i f.ranked).0, l.period_high);
    gives_place = gives_place;
    gives_minute = gives_minute;
  }

  size : 20159 * places t ≤ 20159 * 17408
  size = times 20159 (places t) 17408 (omega (arith, l.stations_high, l.connections_high))

pub labels_small : LabelsSmall
labels_small t l s i p n h = omega (arith, small (ways t s) (forward t l s) i (ranks t s) (places t) 20159 10079 (bounded t l s) p n ((labels t l s i p n).1 h), size t l)

pub search_small : SearchSmall
search_small t l s done queue h =
    let b = bounded t l s in
    record {
      settled = λ e m. (omega (arith, small_settled (ways t s) (ranks t s) (places t) 20159 10079 b h e m, size t l), (inside_settled (ways t s) (ranks t s) (places t) 20159 10079 b h e m).0, (inside_settled (ways t s) (ranks t s) (places t) 20159 10079 b h e m).1);
      queued = λ e m. (omega (arith, small_next (ways t s) (ranks t s) (places t) 20159 10079 b h e m, size t l), (inside_next (ways t s) (ranks t s) (places t) 20159 10079 b h e m).0, (inside_next (ways t s) (ranks t s) (places t) 20159 10079 b h e m).1);
      once = (running t l s h).apart.single;
      few = few_settled (ways t s) (ranks t s) (places t) 20159 10079 b h;
    }
