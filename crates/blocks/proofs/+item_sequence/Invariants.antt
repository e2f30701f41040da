use Rattle.std.proofs.Common.{◌≡◌, ◌+◌, ◌-◌, ◌*◌, ◌<◌, ◌≤◌, List, ◌∷◌, length, drop}
use Rattle.blocks.specs.Blocks.{fault, Ends, Passes}
use Rattle.blocks.specs.declared.Frame.{Frame}
use Rattle.blocks.proofs.+item_sequence.Given as goal

abbrev pub decreases-item : goal.decreases-item
decreases-item l = 2 * (length l.row.now - l.at)

abbrev pub decreases-sequence : goal.decreases-sequence
decreases-sequence l = 2 * (length l.row.now - l.at) + 1

abbrev pub invariant-item-loop-element : goal.invariant-item-loop-element
invariant-item-loop-element l = (l.at < l.end) × (l.end ≤ length l.row) × Ends (drop l.end l.row)
    × ((s : List Frame) → fault s l.at (drop l.at l.row) ≡ fault (l.frame ∷ s) l.end (drop l.end l.row))

abbrev pub decreases-item-loop-element : goal.decreases-item-loop-element
decreases-item-loop-element l = length l.row - l.end

abbrev pub invariant-sequence-loop-next : goal.invariant-sequence-loop-next
invariant-sequence-loop-next l = (l.at ≤ l.end) × (l.end ≤ length l.row) × Passes l.row l.at l.end

abbrev pub decreases-sequence-loop-next : goal.decreases-sequence-loop-next
decreases-sequence-loop-next l = length l.row - l.end
