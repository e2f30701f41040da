use Rattle.changes.proofs.Ids.{remain_or_new}
use Rattle.changes.proofs.laws.nodes_remain_or_are_new.Goals as goal

-- src/laws.rt:32:1
pub returns : goal.returns
returns c = remain_or_new
