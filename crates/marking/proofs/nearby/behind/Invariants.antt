use Rattle.std.proofs.Common.{◌≡◌, ◌≤◌, length, drop}
use Rattle.marking.specs.Machine.{gap, reach}
use Rattle.marking.specs.Nearby.{alone}
use Rattle.marking.proofs.nearby.behind.Given as goal

-- where the rest of the block leads from here
abbrev pub invariant-loop-element : goal.invariant-loop-element
invariant-loop-element l =
    (length l.blocks ≤ l.element-index)
    × (alone l.facts l.block l.fn.before ≡ (reach l.facts (gap l.signal l.blocks) (drop l.element-index l.block)).signal)
