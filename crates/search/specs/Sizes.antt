-- The sizes of a search, and when it is refused.
use Rattle.std.specs.Prelude.{ℕ, cond, Some, None, Option, nat_le, nat_lt}
use Rattle.refusals.specs.declared.refusal.Refusal.{Refusal}
use Rattle.refusals.specs.declared.refusal.Refusal.TheVariants.{NoSource, SmallBoard, SmallLabelQueue, SmallLabelMemory}
use Rattle.timetable.specs.Table.{Table, stations}
use Rattle.timetable.specs.Labels.{ranks}
use Rattle.turns.specs.Running.{queue_needed, memory_needed}

-- why a search from s is refused, with these capacities of the queues and this length of the memory: the first of these
-- that holds
abbrev pub search_refusal : (t : Table) (s board labels memory : ℕ) → Option Refusal
search_refusal t s board labels memory =
    cond (nat_le (stations t) s) (Some (NoSource s))
    (cond (nat_lt board (ranks t s)) (Some (SmallBoard (ranks t s)))
    (cond (nat_lt labels (queue_needed t s)) (Some (SmallLabelQueue (queue_needed t s)))
    (cond (nat_lt memory (memory_needed t s)) (Some (SmallLabelMemory (memory_needed t s))) None)))
