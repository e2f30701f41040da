use Rattle.std.proofs.Common.{rules}
use Rattle.queue.proofs.Withdrawn.{left_in_order, left_listed, left_once}
use Rattle.queue.proofs.QueueWorklist.withdraw.Goals as goal

pub returns-clause-after : goal.returns-clause-after
returns-clause-after c = left_listed c.args.id _ _ (search (rules, left_in_order))

pub invariant_of-self : goal.invariant_of-self
invariant_of-self c = record { once = left_once c.args.id c.args.self.now.ids.items c.retain.new.self.items (search (rules, left_in_order)) c.args.self.now.once }
