use Rattle.std.proofs.Common.{◌≡◌}
use Rattle.followers.specs.Backwards.{gap}
use Rattle.followers.proofs.Noting.{Noted}
use Rattle.followers.proofs.FollowerTable.of.Given as goal

abbrev pub invariant-loop-gap : goal.invariant-loop-gap
invariant-loop-gap l = record {
  from_the_first : l.gap-iterator.iter.count ≡ 0;
  noted : Noted l.row l.gap-iterator.iter.iter.rest.now (gap l.here l.around) l.sets;
}
