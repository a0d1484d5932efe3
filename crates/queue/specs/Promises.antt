-- What a queue promises of a put and a take, over its ghost members.
use Rattle.std.specs.Prelude.{◌≡◌, ℕ, ◌<◌, Bool, false, List, [], ◌∷◌, length, IfSome, Option, Result, MatchOption, MatchResult}
use Rattle.std.specs.List.{AllByRecursion}
use Rattle.refusals.specs.declared.refusal.Refusal.{Refusal}
use Rattle.refusals.specs.declared.refusal.Refusal.TheVariants.{FullQueue}
use Rattle.queue.specs.Order.{inserted}

module _ {X Q : Type 0} where
  -- a put into the queue q left q': refused exactly where every cell is held, and then nothing changed
  abbrev pub Placed : (X → X → Bool) → (Q → List X) → (Q → ℕ) → X → Q → Result (Unit {0}) Refusal → Q → Type 0
  Placed ahead bag room e q r q' =
      MatchResult r
      (λ _. (length (bag q) < room q) × (bag q' ≡ inserted ahead e (bag q)))
      (λ x. (x ≡ FullQueue (room q)) × (length (bag q) ≡ room q) × (q' ≡ q))

  -- a take from the queue q left q': none exactly where nothing was held, and then nothing changed; else the first
  abbrev pub Taken : (Q → List X) → Q → Option X → Q → Type 0
  Taken bag q r q' = MatchOption r ((bag q ≡ []) × (q' ≡ q)) (λ x. bag q ≡ x ∷ bag q')

  -- no entry left is ahead of the one taken
  abbrev pub Least : (X → X → Bool) → (Q → List X) → Option X → Q → Type 0
  Least ahead bag r q' = IfSome r (λ x. AllByRecursion (λ y. ahead y x ≡ false) (bag q'))
