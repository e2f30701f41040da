use Rattle.record.proofs.Pairings.{paired}
use Rattle.record.proofs.schemas.edges_in.Goals as goal

pub returns-in-len1-up-clause-whole : goal.returns-in-len1-up-clause-whole
returns-in-len1-up-clause-whole c = paired _ _ c.if-edges-from.true
