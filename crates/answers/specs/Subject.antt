-- The same answers in the words of all itineraries from s to v: what they are where a search wrote the rows.
use Rattle.std.specs.Prelude.{◌≡◌, ℕ, ◌<◌, ◌≤◌, ◌⊎◌, List, ◌++◌, length, drop, ℤ, pos, ◌≤ℤ◌, Some, None, Result, MatchResult}
use Rattle.refusals.specs.declared.refusal.Refusal.{Refusal}
use Rattle.refusals.specs.declared.refusal.Refusal.TheVariants.{Unreachable, ShortAnswer}
use Rattle.timetable.specs.declared.label.Label.{Label}
use Rattle.timetable.specs.declared.leg.Leg.{Leg}
use Rattle.timetable.specs.declared.pair.Pair.{Pair}
use Rattle.timetable.specs.Table.{Table}
use Rattle.timetable.specs.Pairs.{Travels, Unbeaten}
use Rattle.timetable.specs.Labels.{ranks}
use Rattle.journeys.specs.Profiles.{FirstAt, JourneyIs}
use Rattle.answers.specs.RowPairs.{pair_at}
use Rattle.answers.specs.Promises.{asked, asked_profile}

-- the first unbeaten pair that departs at n or later; no itinerary that leaves then or later arrives earlier
pub record Arrives (t : Table) (s v n d a : ℕ) : Type 0 where
  pub first : FirstAt t s v (pos n) (pos d) (pos a)
  pub none_sooner : (d' a' : ℤ) → Travels t s v d' a' → pos n ≤ℤ d' → pos a ≤ℤ a'

-- exactly the unbeaten pairs that depart in the period, rising
pub record Profile (t : Table) (s v : ℕ) (pairs : List Pair) : Type 0 where
  pub sound : (k : ℕ) → k < length pairs → ((pair_at pairs k).departure < t.period) × Unbeaten t s v (pos (pair_at pairs k).departure) (pos (pair_at pairs k).arrival)
  pub whole : (d : ℕ) (a : ℤ) → d < t.period → Unbeaten t s v (pos d) a → (k : ℕ) × (k < length pairs) × ((pair_at pairs k).departure ≡ d) × (pos (pair_at pairs k).arrival ≡ a)
  pub rising : (j k : ℕ) → j < k → k < length pairs → (pair_at pairs j).departure < (pair_at pairs k).departure

-- there is no itinerary
abbrev pub NoWay : Table → ℕ → ℕ → Type 0
NoWay t s v = (d a : ℤ) → Travels t s v d a → ⊥

-- ---- the answers to the three questions

abbrev pub ArriveTold : Table → ℕ → List Label → ℕ → ℕ → Result Pair Refusal → Type 0
ArriveTold t s memory v n r =
    MatchResult r
    (λ x. (asked t s (ranks t s) v n (length memory) ≡ None) × Arrives t s v n x.departure x.arrival)
    (λ e. (asked t s (ranks t s) v n (length memory) ≡ Some e) ⊎ ((asked t s (ranks t s) v n (length memory) ≡ None) × (e ≡ Unreachable v) × NoWay t s v))

abbrev pub ProfileTold : Table → ℕ → List Label → ℕ → List Pair → Result ℕ Refusal → List Pair → Type 0
ProfileTold t s memory v out r out' =
    MatchResult r
    (λ k. (asked_profile t s (ranks t s) v (length memory) ≡ None) × ((pairs : List Pair) × Profile t s v pairs × (k ≡ length pairs) × (1 ≤ k) × (out' ≡ pairs ++ drop k out)))
    (λ e. (out' ≡ out) × ((asked_profile t s (ranks t s) v (length memory) ≡ Some e) ⊎ ((asked_profile t s (ranks t s) v (length memory) ≡ None)
    × (((e ≡ Unreachable v) × NoWay t s v) ⊎ ((pairs : List Pair) × Profile t s v pairs × (length out < length pairs) × (e ≡ ShortAnswer (length pairs)))))))

abbrev pub JourneyTold : Table → ℕ → List Label → ℕ → ℕ → List Leg → Result ℕ Refusal → List Leg → Type 0
JourneyTold t s memory v n out r out' =
    MatchResult r
    (λ k. (asked t s (ranks t s) v n (length memory) ≡ None) × ((legs : List Leg) × JourneyIs t s v (pos n) legs × (k ≡ length legs) × (out' ≡ legs ++ drop k out)))
    (λ e. (out' ≡ out) × ((asked t s (ranks t s) v n (length memory) ≡ Some e) ⊎ ((asked t s (ranks t s) v n (length memory) ≡ None)
    × (((e ≡ Unreachable v) × NoWay t s v) ⊎ ((legs : List Leg) × JourneyIs t s v (pos n) legs × (length out < length legs) × (e ≡ ShortAnswer (length legs)))))))
