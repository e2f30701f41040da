use Rattle.std.proofs.Common.{refl, arith}
use Rattle.ids.proofs.Lowest.{lowest_has}
use Rattle.ids.proofs.IdSet.least.Goals as goal

pub returns : goal.returns
returns c = lowest_has c.args.self c.if-self-eq0.false (omega arith) _ refl
