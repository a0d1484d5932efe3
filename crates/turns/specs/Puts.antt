-- What puts leave in a queue.
use Rattle.std.specs.Prelude.{◌≡◌, ℕ, ◌+◌, ◌≤◌, Bool, List, [], ◌∷◌, length, Some, None, Option}
use Rattle.queue.specs.Order.{inserted}
use Rattle.queue.specs.declared.interface.Queue.{Ghosts}

module _ {X : Type 0} where
  -- a list in order, with entries put into it
  unfoldable pub put_all : (X → X → Bool) → List X → List X → List X
  put_all ahead [] q = q
  put_all ahead (e ∷ es) q = inserted ahead e (put_all ahead es q)

  -- the entry, if there is one
  abbrev pub those : Option X → List X
  those None = []
  those (Some x) = x ∷ []

module _ {X Q : Type 0} (queue : Ghosts Q X) where
  -- the queue q is in order and has room for n more entries
  pub record Ready (n : ℕ) (q : Q) : Type 0 where
    pub in_order : queue.ordered q
    pub has_room : n + length (queue.bag q) ≤ queue.room q

  -- the entries es, and nothing else, have been put into the queue q, which is now q'
  pub record Grown (ahead : X → X → Bool) (es : List X) (q q' : Q) : Type 0 where
    pub in_order : queue.ordered q'
    pub same_room : queue.room q' ≡ queue.room q
    pub holds : queue.bag q' ≡ put_all ahead es (queue.bag q)
