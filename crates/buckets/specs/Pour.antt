-- Bags that are made of several lists, and walks along chains.
use Rattle.std.specs.Prelude.{ℕ, zero, suc, ◌+◌, Bool, cond, List, [], ◌∷◌, length, nat_lt, slice_index}
use Rattle.queue.specs.Order.{inserted}

-- the cells of the chain from `at`, at most `fuel` of them
unfoldable pub walk : ℕ → List ℕ → ℕ → List ℕ
walk zero ns at = []
walk (suc fuel) ns at = cond (nat_lt at (length ns)) (at ∷ walk fuel ns (slice_index ns at)) []

-- how many there are in the first n lists
unfoldable pub sizes : (ℕ → List ℕ) → ℕ → ℕ
sizes f zero = 0
sizes f (suc n) = length (f n) + sizes f n

module _ {X : Type 0} (ahead : X → X → Bool) where
  -- the entries xs put into the list acc
  unfoldable pub poured : List X → List X → List X
  poured [] acc = acc
  poured (x ∷ xs) acc = inserted ahead x (poured xs acc)

  -- the entries of the first n lists, in order
  unfoldable pub total : (ℕ → List X) → ℕ → List X
  total f zero = []
  total f (suc n) = poured (f n) (total f n)
