-- What the three questions promise of m rows of a search from s as they stand: which answer, which refusal, what the output
-- holds.
use Rattle.std.specs.Prelude.{◌≡◌, ℕ, ◌*◌, ◌<◌, ◌≤◌, cond, ◌⊎◌, List, ◌++◌, length, drop, Some, None, Option, Result, MatchResult, ◌==◌, nat_le, nat_lt}
use Rattle.refusals.specs.declared.refusal.Refusal.{Refusal}
use Rattle.refusals.specs.declared.refusal.Refusal.TheVariants.{NoTarget, TargetIsSource, MinuteLimit, ShortRows, ForeignRows, Unreachable, ShortAnswer}
use Rattle.timetable.specs.declared.label.Label.{Label}
use Rattle.timetable.specs.declared.leg.Leg.{Leg}
use Rattle.timetable.specs.declared.pair.Pair.{Pair}
use Rattle.timetable.specs.Table.{Table, stations}
use Rattle.timetable.specs.Rows.{width}
use Rattle.answers.specs.RowPairs.{IsArrive, IsProfile}
use Rattle.answers.specs.Foreign.{AllOwn, FirstForeign, NoRow}
use Rattle.answers.specs.Chains.{IsJourney, IsBroken}

-- ---- refusals that need no look at the rows: the first of these that holds

abbrev pub rows_refusal : Table → ℕ → ℕ → Option Refusal
rows_refusal t m len = cond (nat_lt len (m * width t)) (Some (ShortRows (m * width t))) None

abbrev pub minute_refusal : Table → ℕ → ℕ → ℕ → Option Refusal
minute_refusal t m n len = cond (nat_le t.period n) (Some (MinuteLimit n)) (rows_refusal t m len)

abbrev pub target_refusal : Table → ℕ → ℕ → Option Refusal → Option Refusal
target_refusal t s v rest = cond (nat_le (stations t) v) (Some (NoTarget v)) (cond (v == s) (Some (TargetIsSource v)) rest)

-- for arrive and journey to v at n, from m rows of s in a memory of so many entries
abbrev pub asked : Table → ℕ → ℕ → ℕ → ℕ → ℕ → Option Refusal
asked t s m v n len = target_refusal t s v (minute_refusal t m n len)

-- for profile
abbrev pub asked_profile : Table → ℕ → ℕ → ℕ → ℕ → Option Refusal
asked_profile t s m v len = target_refusal t s v (rows_refusal t m len)

-- ---- refusals by the rows

pub data RowsRefused (t : Table) (m : ℕ) (memory : List Label) (v : ℕ) (e : Refusal) : Type 0 where
  foreign : (i : ℕ) → FirstForeign t m memory v i → e ≡ ForeignRows i → RowsRefused t m memory v e
  unreached : AllOwn t m memory v → NoRow t m memory v → e ≡ Unreachable v → RowsRefused t m memory v e

-- ---- the promises

abbrev pub Arrived : Table → ℕ → ℕ → List Label → ℕ → ℕ → Result Pair Refusal → Type 0
Arrived t s m memory v n r =
    MatchResult r
    (λ x. (asked t s m v n (length memory) ≡ None) × AllOwn t m memory v × IsArrive t m memory v n x.departure x.arrival)
    (λ e. (asked t s m v n (length memory) ≡ Some e) ⊎ ((asked t s m v n (length memory) ≡ None) × RowsRefused t m memory v e))

-- 46 to 48 of a profile
pub data ProfileRefused (t : Table) (m : ℕ) (memory : List Label) (v room : ℕ) (e : Refusal) : Type 0 where
  rows : RowsRefused t m memory v e → ProfileRefused t m memory v room e
  short : (pairs : List Pair) → AllOwn t m memory v → IsProfile t m memory v pairs → room < length pairs → e ≡ ShortAnswer (length pairs) → ProfileRefused t m memory v room e

-- the output begins with the pairs; later entries stay
pub record ProfileGiven (t : Table) (m : ℕ) (memory : List Label) (v k : ℕ) (out out' : List Pair) : Type 0 where
  pub own : AllOwn t m memory v
  pub pairs : List Pair
  pub profile : IsProfile t m memory v pairs
  pub some : 1 ≤ k
  pub number : k ≡ length pairs
  pub fits : k ≤ length out
  pub written : out' ≡ pairs ++ drop k out

abbrev pub Profiled : Table → ℕ → ℕ → List Label → ℕ → List Pair → Result ℕ Refusal → List Pair → Type 0
Profiled t s m memory v out r out' =
    MatchResult r
    (λ k. (asked_profile t s m v (length memory) ≡ None) × ProfileGiven t m memory v k out out')
    (λ e. (out' ≡ out) × ((asked_profile t s m v (length memory) ≡ Some e) ⊎ ((asked_profile t s m v (length memory) ≡ None) × ProfileRefused t m memory v (length out) e)))

-- 46 to 48 of a journey
pub data JourneyRefused (t : Table) (m : ℕ) (memory : List Label) (v n room : ℕ) (e : Refusal) : Type 0 where
  rows : RowsRefused t m memory v e → JourneyRefused t m memory v n room e
  broken : (i : ℕ) → AllOwn t m memory v → IsBroken t m memory v n i → e ≡ ForeignRows i → JourneyRefused t m memory v n room e
  short : (legs : List Leg) → AllOwn t m memory v → IsJourney t m memory v n legs → room < length legs → e ≡ ShortAnswer (length legs) → JourneyRefused t m memory v n room e

pub record JourneyGiven (t : Table) (m : ℕ) (memory : List Label) (v n k : ℕ) (out out' : List Leg) : Type 0 where
  pub own : AllOwn t m memory v
  pub legs : List Leg
  pub journey : IsJourney t m memory v n legs
  pub number : k ≡ length legs
  pub fits : k ≤ length out
  pub written : out' ≡ legs ++ drop k out

abbrev pub Journeyed : Table → ℕ → ℕ → List Label → ℕ → ℕ → List Leg → Result ℕ Refusal → List Leg → Type 0
Journeyed t s m memory v n out r out' =
    MatchResult r
    (λ k. (asked t s m v n (length memory) ≡ None) × JourneyGiven t m memory v n k out out')
    (λ e. (out' ≡ out) × ((asked t s m v n (length memory) ≡ Some e) ⊎ ((asked t s m v n (length memory) ≡ None) × JourneyRefused t m memory v n (length out) e)))
