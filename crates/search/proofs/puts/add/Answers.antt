use Rattle.std.proofs.Common.{◌≡◌, ℕ, ◌<◌, Bool, List, length, Ok, Err, Result, arith}
use Rattle.refusals.specs.declared.refusal.Refusal.{Refusal}
use Rattle.queue.specs.Order.{inserted}
use Rattle.queue.specs.Promises.{Placed}
use Rattle.turns.proofs.Added.{grown_one}
use Rattle.search.proofs.puts.add.Goals as goal

-- a put into a queue with room
placed : {X Q : Type 0} (ahead : X → X → Bool) (bag : Q → List X) (room : Q → ℕ) (e : X) (q q' : Q) (r : Result (Unit {0}) Refusal) → Placed ahead bag room e q r q' → length (bag q) < room q → bag q' ≡ inserted ahead e (bag q)
placed ahead bag room e q q' (Ok _) h k = h.1
placed ahead bag room e q q' (Err x) h k = absurd (omega (arith, h.1))

pub returns : goal.returns
returns g c = grown_one g.E.Entry.ahead (c.put.ensures.ordered c.requires.in_order) c.put.ensures.room
    (placed g.E.Entry.ahead g.Q.Queue.bag g.Q.Queue.room c.args.e c.args.q.now c.put.new.self c.put.result (c.put.ensures.placed c.requires.in_order) (omega (arith, c.requires.has_room)))
