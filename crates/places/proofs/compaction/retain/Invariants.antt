use Rattle.std.specs.Fn.{CalledAt}
use Rattle.places.proofs.Retaining.{Retaining}
use Rattle.places.proofs.compaction.retain.Given as goal

abbrev pub invariant-loop-i : goal.invariant-loop-i
invariant-loop-i g l = goal.F-IsAlwaysCallable g l.keeps
    × Retaining (CalledAt g.F.FnMut) l.initial.keeps l.initial.items l.keeps l.items l.kept l.i
