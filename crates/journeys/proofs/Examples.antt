-- The worked examples, by the checks.
use Rattle.std.proofs.Common.{◌≡◌, ℕ, zero, suc, ◌+◌, ◌<◌, ◌≤◌, true, cond, eqb, [], ◌∷◌, pos, Some, None, refl, ap, inl, inr, arith}
use borrow.Author.Differences.{ints}
use Rattle.timetable.specs.Table.{Lawful, LawfulConnection, at, connections, stations, transfer}
use Rattle.timetable.specs.Itinerary.{Departs, Stays}
use Rattle.timetable.specs.Legs.{ride_at, ends, stays, changes}
use Rattle.timetable.specs.Labels.{inserted, firsts_below, ranks}
use Rattle.timetable.specs.Examples.{timetable_a, timetable_b}
use Rattle.timetable.specs.declared.report.Report.TheVariants.{Cancelled, Late}
use Rattle.timetable.proofs.Lawfulness.{noticed_lawful}
use Rattle.journeys.specs.Checked.{complete}
use Rattle.journeys.specs.Profiles.{profile_check, ProfileIs, JourneyIs}
use Rattle.journeys.specs.Worked.{leg, a_late, a_cancelled, labels_a, labels_b, labels_late, labels_cancelled, Worked}
use Rattle.journeys.proofs.Checking.{check_sound}
use Rattle.journeys.proofs.Profiled.{profile_checked, arrival_checked}

each_a : (c : ℕ) → c < connections timetable_a → LawfulConnection timetable_a (at timetable_a c)
each_a zero h = record { train_known = omega arith; start_known = omega arith; end_known = omega arith; moves = λ e. omega arith; in_period = omega arith; ride_low = omega arith; ride_high = omega arith }
each_a (suc zero) h = record { train_known = omega arith; start_known = omega arith; end_known = omega arith; moves = λ e. omega arith; in_period = omega arith; ride_low = omega arith; ride_high = omega arith }
each_a (suc (suc zero)) h = record { train_known = omega arith; start_known = omega arith; end_known = omega arith; moves = λ e. omega arith; in_period = omega arith; ride_low = omega arith; ride_high = omega arith }
each_a (suc (suc (suc zero))) h = record { train_known = omega arith; start_known = omega arith; end_known = omega arith; moves = λ e. omega arith; in_period = omega arith; ride_low = omega arith; ride_high = omega arith }
each_a (suc (suc (suc (suc zero)))) h = record { train_known = omega arith; start_known = omega arith; end_known = omega arith; moves = λ e. omega arith; in_period = omega arith; ride_low = omega arith; ride_high = omega arith }
each_a (suc (suc (suc (suc (suc zero))))) h = record { train_known = omega arith; start_known = omega arith; end_known = omega arith; moves = λ e. omega arith; in_period = omega arith; ride_low = omega arith; ride_high = omega arith }
each_a (suc (suc (suc (suc (suc (suc c)))))) h = absurd (omega arith)

transfers_a : (v : ℕ) → v < stations timetable_a → transfer timetable_a v ≤ 1440
transfers_a zero h = omega arith
transfers_a (suc zero) h = omega arith
transfers_a (suc (suc zero)) h = omega arith
transfers_a (suc (suc (suc v))) h = absurd (omega arith)

rise_a : (c : ℕ) → c + 1 < connections timetable_a → (at timetable_a c).train.0 ≤ (at timetable_a (c + 1)).train.0
rise_a zero h = omega arith
rise_a (suc zero) h = omega arith
rise_a (suc (suc zero)) h = omega arith
rise_a (suc (suc (suc zero))) h = omega arith
rise_a (suc (suc (suc (suc zero)))) h = omega arith
rise_a (suc (suc (suc (suc (suc c))))) h = absurd (omega arith)

on_a : (c : ℕ) → c + 1 < connections timetable_a → (at timetable_a c).train.0 ≡ (at timetable_a (c + 1)).train.0 → (at timetable_a c).end.0 ≡ (at timetable_a (c + 1)).start.0
on_a zero h e = refl
on_a (suc zero) h e = absurd (omega arith)
on_a (suc (suc zero)) h e = absurd (omega arith)
on_a (suc (suc (suc zero))) h e = absurd (omega arith)
on_a (suc (suc (suc (suc zero)))) h e = absurd (omega arith)
on_a (suc (suc (suc (suc (suc c))))) h e = absurd (omega arith)

lawful_a : Lawful timetable_a
lawful_a = record { period_low = omega arith; period_high = omega arith; stations_low = omega arith; stations_high = omega arith; trains_high = omega arith; connections_high = omega arith; transfer_high = transfers_a; each = each_a; trains_rise = rise_a; goes_on = on_a }

complete_a : complete timetable_a 0 labels_a ≡ true
unfolding inserted firsts_below
complete_a = refl

ranks_a : ranks timetable_a 0 ≡ 3
unfolding inserted firsts_below
ranks_a = refl

each_b : (c : ℕ) → c < connections timetable_b → LawfulConnection timetable_b (at timetable_b c)
each_b zero h = record { train_known = omega arith; start_known = omega arith; end_known = omega arith; moves = λ e. omega arith; in_period = omega arith; ride_low = omega arith; ride_high = omega arith }
each_b (suc zero) h = record { train_known = omega arith; start_known = omega arith; end_known = omega arith; moves = λ e. omega arith; in_period = omega arith; ride_low = omega arith; ride_high = omega arith }
each_b (suc (suc c)) h = absurd (omega arith)

transfers_b : (v : ℕ) → v < stations timetable_b → transfer timetable_b v ≤ 1440
transfers_b zero h = omega arith
transfers_b (suc zero) h = omega arith
transfers_b (suc (suc v)) h = absurd (omega arith)

rise_b : (c : ℕ) → c + 1 < connections timetable_b → (at timetable_b c).train.0 ≤ (at timetable_b (c + 1)).train.0
rise_b zero h = omega arith
rise_b (suc c) h = absurd (omega arith)

on_b : (c : ℕ) → c + 1 < connections timetable_b → (at timetable_b c).train.0 ≡ (at timetable_b (c + 1)).train.0 → (at timetable_b c).end.0 ≡ (at timetable_b (c + 1)).start.0
on_b zero h e = absurd (omega arith)
on_b (suc c) h e = absurd (omega arith)

lawful_b : Lawful timetable_b
lawful_b = record { period_low = omega arith; period_high = omega arith; stations_low = omega arith; stations_high = omega arith; trains_high = omega arith; connections_high = omega arith; transfer_high = transfers_b; each = each_b; trains_rise = rise_b; goes_on = on_b }

complete_b : complete timetable_b 0 labels_b ≡ true
unfolding inserted firsts_below
complete_b = refl

ranks_b : ranks timetable_b 0 ≡ 2
unfolding inserted firsts_below
ranks_b = refl

lawful_late : Lawful a_late
lawful_late = noticed_lawful timetable_a (λ z. cond (eqb z 2) (Some (Late 1)) None) lawful_a

complete_late : complete a_late 0 labels_late ≡ true
unfolding inserted firsts_below
complete_late = refl

ranks_late : ranks a_late 0 ≡ 3
unfolding inserted firsts_below
ranks_late = refl

lawful_cancelled : Lawful a_cancelled
lawful_cancelled = noticed_lawful timetable_a (λ z. cond (eqb z 1) (Some Cancelled) None) lawful_a

complete_cancelled : complete a_cancelled 0 labels_cancelled ≡ true
unfolding inserted firsts_below
complete_cancelled = refl

ranks_cancelled : ranks a_cancelled 0 ≡ 2
unfolding inserted firsts_below
ranks_cancelled = refl

passes_a_2 : profile_check timetable_a 0 2 labels_a ((490, 535) ∷ (1430, 1470) ∷ []) ≡ true
unfolding inserted firsts_below
passes_a_2 = refl

profile_a_2 : ProfileIs timetable_a 0 2 ((490, 535) ∷ (1430, 1470) ∷ [])
profile_a_2 = profile_checked timetable_a lawful_a 0 2 (omega arith) labels_a complete_a ((490, 535) ∷ (1430, 1470) ∷ []) passes_a_2

passes_a_1 : profile_check timetable_a 0 1 labels_a ((490, 500) ∷ []) ≡ true
unfolding inserted firsts_below
passes_a_1 = refl

profile_a_1 : ProfileIs timetable_a 0 1 ((490, 500) ∷ [])
profile_a_1 = profile_checked timetable_a lawful_a 0 1 (omega arith) labels_a complete_a ((490, 500) ∷ []) passes_a_1

passes_late_2 : profile_check a_late 0 2 labels_late ((490, 530) ∷ (1430, 1470) ∷ []) ≡ true
unfolding inserted firsts_below
passes_late_2 = refl

profile_late_2 : ProfileIs a_late 0 2 ((490, 530) ∷ (1430, 1470) ∷ [])
profile_late_2 = profile_checked a_late lawful_late 0 2 (omega arith) labels_late complete_late ((490, 530) ∷ (1430, 1470) ∷ []) passes_late_2

passes_cancelled_2 : profile_check a_cancelled 0 2 labels_cancelled ((480, 535) ∷ (1430, 1470) ∷ []) ≡ true
unfolding inserted firsts_below
passes_cancelled_2 = refl

profile_cancelled_2 : ProfileIs a_cancelled 0 2 ((480, 535) ∷ (1430, 1470) ∷ [])
profile_cancelled_2 = profile_checked a_cancelled lawful_cancelled 0 2 (omega arith) labels_cancelled complete_cancelled ((480, 535) ∷ (1430, 1470) ∷ []) passes_cancelled_2

passes_b_1 : profile_check timetable_b 0 1 labels_b ((5, 15) ∷ []) ≡ true
unfolding inserted firsts_below
passes_b_1 = refl

profile_b_1 : ProfileIs timetable_b 0 1 ((5, 15) ∷ [])
profile_b_1 = profile_checked timetable_b lawful_b 0 1 (omega arith) labels_b complete_b ((5, 15) ∷ []) passes_b_1

departs_a : (c : ℕ) → c < connections timetable_a → (at timetable_a c).runs ≡ true → Departs timetable_a (ride_at c (at timetable_a c).departure)
departs_a c k r = record { known = k; runs = r; periodic = (pos 0, ap pos (omega arith)) }

departs_cancelled : (c : ℕ) → c < connections a_cancelled → (at a_cancelled c).runs ≡ true → Departs a_cancelled (ride_at c (at a_cancelled c).departure)
departs_cancelled c k r = record { known = k; runs = r; periodic = (pos 0, ap pos (omega arith)) }

-- a change from train 1 to train 0
journey_490 : JourneyIs timetable_a 0 2 (pos 490) (leg 1 2 2 490 500 ∷ leg 0 1 1 505 535 ∷ [])
journey_490 = record {
  departs = pos 490;
  arrives = pos 535;
  pair = arrival_checked timetable_a lawful_a 0 2 (omega arith) ((490, 535) ∷ (1430, 1470) ∷ []) profile_a_2 490 490 535 refl;
  travels = record {
    first = ride_at 2 490;
    rest = ride_at 1 505 ∷ [];
    is_itinerary = (departs_a 2 (omega arith) refl, (departs_a 1 (omega arith) refl, inr (record { meets = refl; in_time = omega (arith, ints) }), tt));
    starts = refl;
    ends = refl;
    departs = refl;
    arrives = refl;
  };
  legs = changes 2 490 (λ st. omega (arith, st.aboard.next)) (ends 1 505);
}

-- a stay on train 0
journey_480 : JourneyIs a_cancelled 0 2 (pos 480) (leg 0 0 1 480 535 ∷ [])
journey_480 = record {
  departs = pos 480;
  arrives = pos 535;
  pair = arrival_checked a_cancelled lawful_cancelled 0 2 (omega arith) ((480, 535) ∷ (1430, 1470) ∷ []) profile_cancelled_2 480 480 535 refl;
  travels = record {
    first = ride_at 0 480;
    rest = ride_at 1 505 ∷ [];
    is_itinerary = (departs_cancelled 0 (omega arith) refl, (departs_cancelled 1 (omega arith) refl, inl aboard, tt));
    starts = refl;
    ends = refl;
    departs = refl;
    arrives = refl;
  };
  legs = stays 0 480 aboard (ends 1 505);
}
  where
    aboard : Stays a_cancelled (ride_at 0 480) (ride_at 1 505)
    aboard = record { aboard = record { next = refl; there = omega arith; same_train = refl }; stands = refl }

pub worked : Worked
worked = record {
  a = record { lawful = lawful_a; departures_are = ranks_a; labels_are = check_sound timetable_a lawful_a 0 labels_a complete_a; count = refl };
  a_profile_2 = profile_a_2;
  a_profile_1 = profile_a_1;
  a_arrive_490 = arrival_checked timetable_a lawful_a 0 2 (omega arith) ((490, 535) ∷ (1430, 1470) ∷ []) profile_a_2 490 490 535 refl;
  a_arrive_491 = arrival_checked timetable_a lawful_a 0 2 (omega arith) ((490, 535) ∷ (1430, 1470) ∷ []) profile_a_2 491 1430 1470 refl;
  a_arrive_1431 = arrival_checked timetable_a lawful_a 0 2 (omega arith) ((490, 535) ∷ (1430, 1470) ∷ []) profile_a_2 1431 1930 1975 refl;
  a_journey_490 = journey_490;
  late = record { lawful = lawful_late; departures_are = ranks_late; labels_are = check_sound a_late lawful_late 0 labels_late complete_late; count = refl };
  late_profile_2 = profile_late_2;
  cancelled = record { lawful = lawful_cancelled; departures_are = ranks_cancelled; labels_are = check_sound a_cancelled lawful_cancelled 0 labels_cancelled complete_cancelled; count = refl };
  cancelled_profile_2 = profile_cancelled_2;
  cancelled_journey_480 = journey_480;
  b = record { lawful = lawful_b; departures_are = ranks_b; labels_are = check_sound timetable_b lawful_b 0 labels_b complete_b; count = refl };
  b_profile_1 = profile_b_1;
  b_arrive_50 = arrival_checked timetable_b lawful_b 0 1 (omega arith) ((5, 15) ∷ []) profile_b_1 50 65 75 refl;
}
