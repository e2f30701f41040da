use Rattle.std.proofs.Common.{refl}
use Rattle.ids.specs.Sets.{union}
use Rattle.ids.proofs.Laws.{has_union}
use Rattle.ids.proofs.IdSet.union.Goals as goal

pub returns : goal.returns
unfolding union
returns c = record { value = refl; members = has_union c.args.self c.args.other }
