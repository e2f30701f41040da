use Rattle.std.proofs.Common.{◌≡◌, ◌&&◌, ◌||◌, eqb, ltb, List, get_or, ap, ◌∙◌, refl, arith}
use Rattle.std.proofs.lemmas.List.{take_all}
use Rattle.queue.specs.Bounds.{queued_past}
use Rattle.queue.specs.Orders.{listed}
use Rattle.queue.specs.Queues.{order, queued}
use Rattle.queue.proofs.Listed.{listed_more}
use Rattle.queue.proofs.QueueWorklist.ids.Goals as goal

pub loop-id-preserved : goal.loop-id-preserved
loop-id-preserved c i =
    grind (arith, c.loop-id.invariant i, c.with-ids.ensures.members i, c.as_slice-id-items.ensures, listed_more (order c.args.self.now) c.loop-id.id-index i)

pub returns : goal.returns
returns c i =
    grind (arith, c.loop-id.invariant i, c.as_slice-id-items.ensures, take_all c.loop-id.id-index (order c.args.self.now), queued_past c.args.self.now i)
