use Rattle.std.proofs.Common.{◌≡◌, ◌++◌, take}
use Rattle.drafts.proofs.carrying.extend_edges.Given as goal

abbrev pub invariant-loop-edge : goal.invariant-loop-edge
invariant-loop-edge l = l.edges ≡ l.initial.edges ++ take l.edge-index l.more
