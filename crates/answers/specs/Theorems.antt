-- The theorems about rows as they stand, and about rows that a search wrote.
use Rattle.std.specs.Prelude.{◌≡◌, ℕ, List, Result}
use Rattle.refusals.specs.declared.refusal.Refusal.{Refusal}
use Rattle.timetable.specs.declared.label.Label.{Label}
use Rattle.timetable.specs.declared.leg.Leg.{Leg}
use Rattle.timetable.specs.declared.pair.Pair.{Pair}
use Rattle.timetable.specs.Table.{Table, Lawful}
use Rattle.timetable.specs.Labels.{ranks}
use Rattle.timetable.specs.Rows.{Rows}
use Rattle.answers.specs.RowPairs.{IsArrive, IsProfile}
use Rattle.answers.specs.Chains.{IsJourney}
use Rattle.answers.specs.Promises.{Arrived, Profiled, Journeyed}
use Rattle.answers.specs.Subject.{ArriveTold, ProfileTold, JourneyTold}

-- the answers are pinned: two that meet the same definition are the same
abbrev pub ArrivePinned : Type 0
ArrivePinned = (t : Table) (m : ℕ) (memory : List Label) (v n d a d' a' : ℕ) → IsArrive t m memory v n d a → IsArrive t m memory v n d' a' → (d ≡ d') × (a ≡ a')

abbrev pub ProfilePinned : Type 0
ProfilePinned = (t : Table) (m : ℕ) (memory : List Label) (v : ℕ) (ps qs : List Pair) → IsProfile t m memory v ps → IsProfile t m memory v qs → ps ≡ qs

abbrev pub JourneyPinned : Type 0
JourneyPinned = (t : Table) → Lawful t → (m : ℕ) (memory : List Label) (v n : ℕ) (gs hs : List Leg) → IsJourney t m memory v n gs → IsJourney t m memory v n hs → gs ≡ hs

-- of rows that a search wrote, what the questions promise is what all itineraries say
abbrev pub ArriveTells : Type 0
ArriveTells = (t : Table) → Lawful t → (s v n : ℕ) (memory : List Label) (r : Result Pair Refusal) → Rows t s memory → Arrived t s (ranks t s) memory v n r → ArriveTold t s memory v n r

abbrev pub ProfileTells : Type 0
ProfileTells = (t : Table) → Lawful t → (s v : ℕ) (memory : List Label) (out out' : List Pair) (r : Result ℕ Refusal) → Rows t s memory → Profiled t s (ranks t s) memory v out r out' → ProfileTold t s memory v out r out'

abbrev pub JourneyTells : Type 0
JourneyTells = (t : Table) → Lawful t → (s v n : ℕ) (memory : List Label) (out out' : List Leg) (r : Result ℕ Refusal) → Rows t s memory → Journeyed t s (ranks t s) memory v n out r out' → JourneyTold t s memory v n out r out'
