use Rattle.std.proofs.Common.{◌≡◌, not, take}
use Rattle.std.specs.List.{filter}
use Rattle.changes.specs.Effects.{is_activity}
use Rattle.drafts.proofs.carrying.extend_without.Given as goal

abbrev pub invariant-loop-element : goal.invariant-loop-element
invariant-loop-element l = l.row ≡ filter (λ x. not (is_activity x l.id)) (take l.element-index l.old)
