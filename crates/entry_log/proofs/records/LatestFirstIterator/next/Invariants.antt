use Rattle.std.proofs.Common.{◌≡◌, length}
use Rattle.std.specs.Slice.Iter.{iter_rest}
use Rattle.entry_log.specs.Backwards.{latest}
use Rattle.entry_log.proofs.records.LatestFirstIterator.next.Given as goal

abbrev pub invariant-loop-record : goal.invariant-loop-record
invariant-loop-record l = latest l.self ≡ latest l.initial.self

abbrev pub decreases-loop-record : goal.decreases-loop-record
decreases-loop-record l = length (iter_rest l.self.records)
