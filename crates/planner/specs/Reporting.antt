-- What a report does to the search that stands.
use Rattle.std.specs.Prelude.{◌≡◌, None, Result, MatchResult}
use Rattle.refusals.specs.declared.refusal.Refusal.{Refusal}
use Rattle.planner.specs.declared.planner.Planner.{Planner}

-- the planner was p and is q: an accepted report ends the search, and a refused one leaves the planner as it was
abbrev pub EndsSearch : {T : Type 0} → Planner T → Planner T → Result (Unit {0}) Refusal → Type 0
EndsSearch p q r = MatchResult r (λ _. q.standing ≡ None) (λ _. q ≡ p)
