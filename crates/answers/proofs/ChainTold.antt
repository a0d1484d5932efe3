-- Of rows that a search wrote, journey's legs are those of an itinerary that has the pair that arrive answers.
use Rattle.std.proofs.Common.{◌≡◌, ℕ, ◌<◌, ◌⊎◌, List, length, pos, Ok, Err, inl, inr, arith}
use Rattle.refusals.specs.declared.refusal.Refusal.{Refusal}
use Rattle.refusals.specs.declared.refusal.Refusal.TheVariants.{Unreachable, ShortAnswer}
use Rattle.timetable.specs.declared.label.Label.{Label}
use Rattle.timetable.specs.declared.leg.Leg.{Leg}
use Rattle.timetable.specs.Table.{Table, Lawful, stations}
use Rattle.timetable.specs.Labels.{ranks}
use Rattle.timetable.specs.Rows.{Rows}
use Rattle.journeys.specs.Profiles.{JourneyIs}
use Rattle.answers.specs.Chains.{IsJourney, IsBroken}
use Rattle.answers.specs.Promises.{foreign, unreached, JourneyRefused, rows as by_rows, broken, short}
use Rattle.answers.specs.Subject.{NoWay}
use Rattle.answers.specs.Theorems.{JourneyTells}
use Rattle.answers.proofs.Telling.{target_known, own, no_way, arrives}
use Rattle.answers.proofs.Chained.{Legged, row_told, chain_legged}

module _ (t : Table) (law : Lawful t) (s v : ℕ) (known : v < stations t) (memory : List Label) (rows : Rows t s memory) where
  pub journey_is : (n : ℕ) (gs : List Leg) → IsJourney t (ranks t s) memory v n gs → JourneyIs t s v (pos n) gs
  journey_is n gs j = record {
    departs = pos j.of_row.departure;
    arrives = pos j.of_row.arrival;
    pair = (arrives t law s v known memory rows n j.of_row.departure j.of_row.arrival j.of_row.arrive).first;
    travels = w.travels;
    legs = w.legs;
  }
    where
      w : Legged t s v (pos j.of_row.departure) (pos j.of_row.arrival) gs
      w = rw (j.of_row.highest.has.departs, j.of_row.highest.has.arrives, j.legs_are)
          (chain_legged t law s memory rows j.row v j.periods j.of_row.highest.there known j.of_row.highest.has.reached j.entries j.chain)

  -- the origins lead back
  pub never_broken : (n i : ℕ) → IsBroken t (ranks t s) memory v n i → ⊥
  never_broken n i b =
      let w = row_told t law s memory rows i v b.of_row.highest.there (omega arith) b.of_row.highest.has.reached in
      b.broken w.entries w.chain

  abbrev RefusedSo : ℕ → ℕ → Refusal → Type 0
  RefusedSo n room e = ((e ≡ Unreachable v) × NoWay t s v) ⊎ ((legs : List Leg) × JourneyIs t s v (pos n) legs × (room < length legs) × (e ≡ ShortAnswer (length legs)))

  refused : (n room : ℕ) (e : Refusal) → JourneyRefused t (ranks t s) memory v n room e → RefusedSo n room e
  refused n room e (by_rows (foreign i f q)) = absurd (own t law s v known memory rows i f.there f.foreign)
  refused n room e (by_rows (unreached o none q)) = inl (q, no_way t law s v known memory rows none)
  refused n room e (broken i o b q) = absurd (never_broken n i b)
  refused n room e (short gs o j r q) = inr (gs, journey_is n gs j, r, q)

pub journey_told : JourneyTells
journey_told t law s v n memory out out' (Ok k) rows h =
    let g = h.1 in
    (h.0, (g.legs, journey_is t law s v (target_known t s v _ h.0) memory rows n g.legs g.journey, g.number, g.written))
journey_told t law s v n memory out out' (Err e) rows (same, inl q) = (same, inl q)
journey_told t law s v n memory out out' (Err e) rows (same, inr q) = (same, inr (q.0, refused t law s v (target_known t s v _ q.0) memory rows n (length out) e q.1))
