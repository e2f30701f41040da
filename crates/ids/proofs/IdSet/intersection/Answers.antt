use Rattle.std.proofs.Common.{refl}
use Rattle.ids.specs.Sets.{intersection}
use Rattle.ids.proofs.Laws.{has_intersection}
use Rattle.ids.proofs.IdSet.intersection.Goals as goal

pub returns : goal.returns
unfolding intersection
returns c = record { value = refl; members = has_intersection c.args.self c.args.other }
