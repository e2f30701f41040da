use Rattle.schema.specs.Schemas.{parts}
use Rattle.conditions.proofs.BusyNodes.{Left}
use Rattle.conditions.proofs.gaps.least_busy.Given as goal

abbrev pub invariant-loop : goal.invariant-loop
invariant-loop l = Left (parts l.fn.schema) l.fn.facts l.fn.nodes l.counter l.rest
