use Rattle.std.proofs.Common.{◌≡◌, take}
use Rattle.std.specs.List.{filter}
use Rattle.drafts.specs.Carrying.{stays}
use Rattle.drafts.proofs.carrying.extend_staying.Given as goal

abbrev pub invariant-loop-edge : goal.invariant-loop-edge
invariant-loop-edge l = l.edges ≡ filter (stays l.change) (take l.edge-index l.old)
