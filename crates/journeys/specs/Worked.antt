-- Worked examples of the two example timetables, stated of the definitions.
use Rattle.std.specs.Prelude.{◌≡◌, ℕ, cond, List, [], ◌∷◌, length, pos, Some, None, ◌==◌}
use Rattle.timetable.specs.Table.{Table, Lawful}
use Rattle.timetable.specs.Labels.{ranks}
use Rattle.timetable.specs.Noticed.{noticed}
use Rattle.timetable.specs.Examples.{timetable_a, timetable_b}
use Rattle.timetable.specs.declared.leg.Leg.{Leg}
use Rattle.timetable.specs.declared.report.Report.TheVariants.{Cancelled, Late}
use Rattle.journeys.specs.Search.{Entry, entry}
use Rattle.journeys.specs.Theorems.{SettledExactly}
use Rattle.journeys.specs.Profiles.{ProfileIs, FirstAt, JourneyIs}

-- A with train 2 late by 1, and with train 1 cancelled
abbrev pub a_late : Table
a_late = noticed timetable_a (λ z. cond (z == 2) (Some (Late 1)) None)

abbrev pub a_cancelled : Table
a_cancelled = noticed timetable_a (λ z. cond (z == 1) (Some Cancelled) None)

-- the leading labels from station 0, by minute: minute, rank, place, origin
abbrev pub labels_a : List Entry
labels_a = entry 480 0 3 4294967295 ∷ entry 490 1 5 4294967295 ∷ entry 500 1 1 5 ∷ entry 505 1 4 1 ∷ entry 530 1 8 1 ∷ entry 535 1 2 4 ∷ entry 1430 2 7 4294967295 ∷ entry 1470 2 2 7 ∷ entry 1944 1 6 1 ∷ []

abbrev pub labels_b : List Entry
labels_b = entry 5 0 3 4294967295 ∷ entry 15 0 1 3 ∷ entry 50 1 2 4294967295 ∷ entry 80 1 1 2 ∷ []

abbrev pub labels_late : List Entry
labels_late = entry 480 0 3 4294967295 ∷ entry 490 1 5 4294967295 ∷ entry 500 1 1 5 ∷ entry 505 1 4 1 ∷ entry 505 1 6 1 ∷ entry 530 1 2 6 ∷ entry 530 1 8 1 ∷ entry 1430 2 7 4294967295 ∷ entry 1470 2 2 7 ∷ []

abbrev pub labels_cancelled : List Entry
labels_cancelled = entry 480 0 3 4294967295 ∷ entry 500 0 1 3 ∷ entry 505 0 4 3 ∷ entry 530 0 8 1 ∷ entry 535 0 2 4 ∷ entry 1430 1 7 4294967295 ∷ entry 1470 1 2 7 ∷ entry 1944 0 6 1 ∷ []

-- a leg: train, first and last connection, departure and arrival
abbrev pub leg : ℕ → ℕ → ℕ → ℕ → ℕ → Leg
leg z c e d a = record { train = record { 0 = z }; first = record { 0 = c }; last = record { 0 = e }; departure = d; arrival = a }

-- how many first departures and leading labels there are
pub record Searched (t : Table) (departures labels : ℕ) (l : List Entry) : Type 0 where
  pub lawful : Lawful t
  pub departures_are : ranks t 0 ≡ departures
  pub labels_are : SettledExactly t 0 l
  pub count : length l ≡ labels

pub record Worked : Type 0 where
  -- A
  pub a : Searched timetable_a 3 9 labels_a
  pub a_profile_2 : ProfileIs timetable_a 0 2 ((490, 535) ∷ (1430, 1470) ∷ [])
  pub a_profile_1 : ProfileIs timetable_a 0 1 ((490, 500) ∷ [])
  pub a_arrive_490 : FirstAt timetable_a 0 2 (pos 490) (pos 490) (pos 535)
  pub a_arrive_491 : FirstAt timetable_a 0 2 (pos 491) (pos 1430) (pos 1470)
  pub a_arrive_1431 : FirstAt timetable_a 0 2 (pos 1431) (pos 1930) (pos 1975)
  pub a_journey_490 : JourneyIs timetable_a 0 2 (pos 490) (leg 1 2 2 490 500 ∷ leg 0 1 1 505 535 ∷ [])
  -- A with train 2 late by 1
  pub late : Searched a_late 3 9 labels_late
  pub late_profile_2 : ProfileIs a_late 0 2 ((490, 530) ∷ (1430, 1470) ∷ [])
  -- A with train 1 cancelled
  pub cancelled : Searched a_cancelled 2 8 labels_cancelled
  pub cancelled_profile_2 : ProfileIs a_cancelled 0 2 ((480, 535) ∷ (1430, 1470) ∷ [])
  pub cancelled_journey_480 : JourneyIs a_cancelled 0 2 (pos 480) (leg 0 0 1 480 535 ∷ [])
  -- B
  pub b : Searched timetable_b 2 4 labels_b
  pub b_profile_1 : ProfileIs timetable_b 0 1 ((5, 15) ∷ [])
  pub b_arrive_50 : FirstAt timetable_b 0 1 (pos 50) (pos 65) (pos 75)
