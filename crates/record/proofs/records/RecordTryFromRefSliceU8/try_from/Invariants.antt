use Rattle.std.proofs.Common.{◌≡◌, length, take, drop}
use Rattle.record.specs.Hex.{after}
use Rattle.record.proofs.Flags.{Told}
use Rattle.record.proofs.Spellings.{spelled_by}
use Rattle.record.proofs.records.RecordTryFromRefSliceU8.try_from.Given as goal

abbrev pub invariant-loop-i : goal.invariant-loop-i
invariant-loop-i l = record {
  long : length l.bytes ≡ 512;
  told : Told l.line l.seen (after (take l.i l.bytes) (spelled_by (drop l.i l.high-items)));
}
