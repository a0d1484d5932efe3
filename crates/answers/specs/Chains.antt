-- Origins followed back in one row as it stands, and the legs that they tell.
use Rattle.std.specs.Prelude.{◌≡◌, ℕ, ◌+◌, ◌*◌, ◌<◌, List, [], ◌∷◌, map}
use Rattle.timetable.specs.declared.label.Label.{Label}
use Rattle.timetable.specs.declared.leg.Leg.{Leg}
use Rattle.timetable.specs.Table.{Table}
use Rattle.timetable.specs.Labels.{Gives, connection_place, no_origin}
use Rattle.timetable.specs.Rows.{head, entry}
use Rattle.journeys.specs.Search.{Entry}
use Rattle.journeys.specs.Trace.{legs_of}
use Rattle.answers.specs.RowPairs.{RowHas, IsArrive}

-- what row i says of place p
abbrev pub label_at : Table → List Label → ℕ → ℕ → Entry
label_at t memory i p = record { minute = (entry t memory i p).minute; rank = i; place = p; origin = (entry t memory i p).origin }

-- from place p in row i, origin after origin, each giving its label, back to the row's departure and connection
pub data RowChain (t : Table) (memory : List Label) (i : ℕ) : ℕ → List Entry → Type 0 where
  ends : (p : ℕ) → (entry t memory i p).origin ≡ no_origin → p ≡ connection_place t (head t memory i).origin → (entry t memory i p).minute ≡ (head t memory i).minute → RowChain t memory i p (label_at t memory i p ∷ [])
  back : (p : ℕ) {es : List Entry} → Gives t (entry t memory i p).origin (entry t memory i (entry t memory i p).origin).minute p (entry t memory i p).minute → RowChain t memory i (entry t memory i p).origin es → RowChain t memory i p (label_at t memory i p ∷ es)

-- row i is the highest that has the pair
pub record HighestRow (t : Table) (m : ℕ) (memory : List Label) (v d a i k : ℕ) : Type 0 where
  pub there : i < m
  pub has : RowHas t memory v i k d a
  pub highest : (j l : ℕ) → i < j → j < m → RowHas t memory v j l d a → ⊥

-- the row of the pair that arrive answers
pub record JourneyRow (t : Table) (m : ℕ) (memory : List Label) (v n i k : ℕ) : Type 0 where
  pub departure : ℕ
  pub arrival : ℕ
  pub arrive : IsArrive t m memory v n departure arrival
  pub highest : HighestRow t m memory v departure arrival i k

-- a leg, later by n minutes
abbrev pub leg_later : ℕ → Leg → Leg
leg_later n g = record { train = g.train; first = g.first; last = g.last; departure = g.departure + n; arrival = g.arrival + n }

-- the legs of that pair
pub record IsJourney (t : Table) (m : ℕ) (memory : List Label) (v n : ℕ) (legs : List Leg) : Type 0 where
  pub row : ℕ
  pub periods : ℕ
  pub of_row : JourneyRow t m memory v n row periods
  pub entries : List Entry
  pub chain : RowChain t memory row v entries
  pub legs_are : legs ≡ map (leg_later (periods * t.period)) (legs_of t entries)

-- the origins of that pair's row, i, do not lead back to its departure and connection
pub record IsBroken (t : Table) (m : ℕ) (memory : List Label) (v n i : ℕ) : Type 0 where
  pub periods : ℕ
  pub of_row : JourneyRow t m memory v n i periods
  pub broken : (es : List Entry) → RowChain t memory i v es → ⊥
