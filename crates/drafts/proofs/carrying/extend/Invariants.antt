use Rattle.std.proofs.Common.{◌≡◌, ◌++◌, take}
use Rattle.drafts.proofs.carrying.extend.Given as goal

abbrev pub invariant-loop-element : goal.invariant-loop-element
invariant-loop-element l = l.row ≡ l.initial.row ++ take l.element-index l.more
