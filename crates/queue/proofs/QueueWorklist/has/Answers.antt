use Rattle.std.proofs.Common.{ap, ◌∙◌}
use Rattle.queue.specs.Orders.{listed}
use Rattle.queue.proofs.Listed.{listed_contains}
use Rattle.queue.proofs.QueueWorklist.has.Goals as goal

pub returns : goal.returns
returns c = listed_contains _ _ _ c.contains.ensures.cases ∙ ap (λ xs. listed xs c.args.id) c.deref.ensures.0
