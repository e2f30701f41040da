use Rattle.std.proofs.Common.{take}
use Rattle.schema.specs.Causes.{Fine}
use Rattle.schema.proofs.Taking.{Seen}
use Rattle.schema.proofs.distinct.are_distinct.Given as goal

abbrev pub invariant-loop-element : goal.invariant-loop-element
invariant-loop-element l = record { fine : Fine (take l.element-index l.row); seen : Seen l.seen (take l.element-index l.row) }
