use Rattle.changes.proofs.Ids.{unique_again}
use Rattle.changes.proofs.laws.ids_stay_unique.Goals as goal

-- src/laws.rt:36:1
pub returns : goal.returns
returns c = unique_again
