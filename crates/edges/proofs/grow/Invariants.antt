use Rattle.std.proofs.Common.{◌≡◌, ◌++◌, map, take, drop}
use Rattle.edges.specs.Edges.{grown}
use Rattle.edges.proofs.grow.Given as goal

abbrev pub invariant-loop-set : goal.invariant-loop-set
invariant-loop-set l = l.sets ≡ map (grown l.id l.gain) (take l.set-index l.initial.sets) ++ drop l.set-index l.initial.sets
