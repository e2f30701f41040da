use Rattle.std.proofs.Common.{refl}
use Rattle.ids.proofs.Laws.{has_empty}
use Rattle.ids.proofs.IdSet.empty.Goals as goal

pub returns : goal.returns
returns c = record { value = refl; members = has_empty }
