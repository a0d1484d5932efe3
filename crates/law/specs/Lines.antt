-- The law's line for each call: what it answers, by the book b over the timetable t.
use Rattle.std.specs.Prelude.{◌≡◌, ℕ, List, length, Some, None, Ok, Err, Option, Result, MatchOption, MatchResult}
use Rattle.refusals.specs.declared.refusal.Refusal.{Refusal}
use Rattle.refusals.specs.declared.refusal.Refusal.TheVariants.{NoSearch}
use Rattle.timetable.specs.declared.label.Label.{Label}
use Rattle.timetable.specs.declared.leg.Leg.{Leg}
use Rattle.timetable.specs.declared.pair.Pair.{Pair}
use Rattle.timetable.specs.declared.report.Report.{Report}
use Rattle.timetable.specs.Table.{Table}
use Rattle.notices.specs.Refused.{report_refusal, lift_refusal}
use Rattle.search.specs.declared.found.Found.{Found}
use Rattle.search.specs.Sizes.{search_refusal}
use Rattle.search.specs.Answer.{Searched}
use Rattle.answers.specs.Subject.{ArriveTold, ProfileTold, JourneyTold}
use Rattle.law.specs.Book.{Book, in_force, standing_notices}

-- accepted where nothing speaks against it
abbrev pub answered : Option Refusal → Result (Unit {0}) Refusal
answered None = Ok tt
answered (Some e) = Err e

-- report x of train z
abbrev pub ReportLine : Table → Book → ℕ → Option Report → Result (Unit {0}) Refusal → Type 0
ReportLine t b z x r = r ≡ answered (report_refusal t.trains (standing_notices t b) (b.says z) z x)

abbrev pub LiftLine : Table → Book → ℕ → Result (Unit {0}) Refusal → Type 0
LiftLine t b z r = r ≡ answered (lift_refusal t.trains (b.says z) z)

-- a search from s, with queues of these capacities
abbrev pub SearchLine : Table → Book → (s board labels : ℕ) (memory : List Label) → Result Found Refusal → List Label → Type 0
SearchLine t b s board labels memory r memory' =
    MatchResult r
    (λ f. (search_refusal (in_force t b) s board labels (length memory) ≡ None) × Searched (in_force t b) s memory memory' f)
    (λ e. (search_refusal (in_force t b) s board labels (length memory) ≡ Some e) × (memory' ≡ memory))

-- the questions to v at minute n: of all itineraries from the book's source; with no source, refused
abbrev pub ArriveLine : Table → Book → List Label → (v n : ℕ) → Result Pair Refusal → Type 0
ArriveLine t b memory v n r = MatchOption b.source (r ≡ Err NoSearch) (λ s. ArriveTold (in_force t b) s memory v n r)

-- an output keeps its length
abbrev pub ProfileLine : Table → Book → List Label → (v : ℕ) (out : List Pair) → Result ℕ Refusal → List Pair → Type 0
ProfileLine t b memory v out r out' =
    (length out' ≡ length out)
    × MatchOption b.source ((r ≡ Err NoSearch) × (out' ≡ out)) (λ s. ProfileTold (in_force t b) s memory v out r out')

abbrev pub JourneyLine : Table → Book → List Label → (v n : ℕ) (out : List Leg) → Result ℕ Refusal → List Leg → Type 0
JourneyLine t b memory v n out r out' =
    (length out' ≡ length out)
    × MatchOption b.source ((r ≡ Err NoSearch) × (out' ≡ out)) (λ s. JourneyTold (in_force t b) s memory v n out r out')
