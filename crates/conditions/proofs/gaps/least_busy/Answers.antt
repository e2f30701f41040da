use Rattle.std.proofs.Common.{sym, arith}
use Rattle.schema.specs.Schemas.{parts}
use Rattle.conditions.proofs.BusyNodes.{all_passed}
use Rattle.conditions.proofs.gaps.least_busy.Goals as goal

pub returns : goal.returns
returns c =
    sym (all_passed (parts c.args.schema.now) c.args.facts.now c.args.nodes c.loop.counter c.loop.rest c.loop.invariant (omega (arith, c.loop-test.false)))
