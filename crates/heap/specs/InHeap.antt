-- What the queue of a heap holds, and when it is in order.
use Rattle.std.specs.Prelude.{ℕ, ◌≤◌, Bool, List, length, take}
use Rattle.heap.specs.declared.heap.Heap.{Heap}
use Rattle.queue.specs.Order.{sorted}
use Rattle.heap.specs.Heaped.{Heaped}

module _ {X : Type 0} where
  abbrev pub heap_room : Heap X → ℕ
  heap_room h = length h.cells.now

  abbrev pub heap_bag : (X → X → Bool) → Heap X → List X
  heap_bag ahead h = sorted ahead (take h.len h.cells.now)

  abbrev pub HeapOrdered : (X → X → Bool) → Heap X → Type 0
  HeapOrdered ahead h = (h.len ≤ length h.cells.now) × Heaped ahead (take h.len h.cells.now)
