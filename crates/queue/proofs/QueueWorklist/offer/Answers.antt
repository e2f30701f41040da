use Rattle.std.proofs.Common.{arith}
use mathlib.Core.Path.{fun_ext}
use Rattle.queue.proofs.Listed.{listed_append}
use Rattle.queue.proofs.QueueWorklist.offer.Goals as goal

pub returns-then-not-has-clause-after : goal.returns-then-not-has-clause-after
returns-then-not-has-clause-after c = fun_ext (λ i. grind (arith, listed_append))
