use Rattle.std.proofs.Common.{◌-◌, ◌≤◌, vec_len, vec_capacity}
use Rattle.drafts.proofs.copying.spaces.Given as goal

abbrev pub invariant-loop-heap : goal.invariant-loop-heap
invariant-loop-heap l = record { few : vec_len l.spaces ≤ 16; room : 16 ≤ vec_capacity l.spaces }

abbrev pub decreases-loop-heap : goal.decreases-loop-heap
decreases-loop-heap l = 16 - vec_len l.spaces
