use Rattle.std.proofs.Common.{[], arith}
use Rattle.std.proofs.lemmas.List.{drop_all}
use Rattle.blocks.proofs.FirstFaults.{refused_outside, first}
use Rattle.blocks.proofs.RowsOfTrees.{tells_ok}
use Rattle.blocks.proofs.check_blocks.Goals as goal

pub returns-then-end-row-clause-tree : goal.returns-then-end-row-clause-tree
returns-then-end-row-clause-tree c = first _ _ (grind (arith, refused_outside, c.in_ok-end.ensures.3 []))

pub returns-else-end-row-clause-tree : goal.returns-else-end-row-clause-tree
returns-else-end-row-clause-tree c = tells_ok _ (grind (arith, drop_all, c.in_ok-end.ensures.3 []))
