use Rattle.std.proofs.Common.{◌≡◌, ◌≤◌, ◌++◌, length, take, drop}
use Rattle.marking.specs.Machine.{signals, start, gap}
use Rattle.marking.proofs.signals.mark.Given as goal

-- what was written, and the signals of the rest
abbrev pub invariant-loop-i : goal.invariant-loop-i
invariant-loop-i l =
    (length l.blocks ≤ l.i)
    × (length l.gaps ≡ 129)
    × (signals l.facts start l.row ≡ take l.i l.gaps ++ signals l.facts (gap l.signal l.blocks) (drop l.i l.row))
