use Rattle.std.proofs.Common.{◌≡◌, ℕ, ◌&&◌, ltb, take}
use Rattle.ids.specs.Sets.{has}
use Rattle.queue.specs.Orders.{listed}
use Rattle.queue.specs.Queues.{order}
use Rattle.queue.proofs.QueueWorklist.ids.Given as goal

abbrev pub invariant-loop-id : goal.invariant-loop-id
invariant-loop-id l = (i : ℕ) → has l.ids i ≡ (ltb i 64 && listed (take l.id-index (order l.fn.self)) i)
