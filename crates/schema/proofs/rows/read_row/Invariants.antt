use Rattle.std.proofs.Common.{◌≡◌, [], length, drop}
use Rattle.record.specs.Pairs.{pairs}
use Rattle.schema.specs.Reading.{row_read}
use Rattle.schema.proofs.Taking.{Seen}
use Rattle.schema.proofs.rows.read_row.Given as goal

abbrev pub invariant-loop-place : goal.invariant-loop-place
invariant-loop-place l = record {
  long : length l.row ≡ l.place;
  seen : Seen l.seen l.row;
  so_far : row_read [] 0 (pairs l.elements) ≡ row_read l.row l.place (drop l.place (pairs l.elements));
}
