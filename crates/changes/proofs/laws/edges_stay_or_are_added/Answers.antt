use Rattle.changes.proofs.Edges.{stay_or_added}
use Rattle.changes.proofs.laws.edges_stay_or_are_added.Goals as goal

-- src/laws.rt:40:1
pub returns : goal.returns
returns c = stay_or_added
