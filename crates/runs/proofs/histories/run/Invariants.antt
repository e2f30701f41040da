use Rattle.std.proofs.Common.{◌≡◌, ◌+◌, ◌^◌, ◌<◌, length}
use Rattle.case_record.specs.Entries.{entries_in}
use Rattle.case_record.specs.Coming.{coming}
use Rattle.schema.specs.Schemas.{parts}
use Rattle.runs.specs.Histories.{ran}
use Rattle.runs.proofs.histories.run.Given as goal

abbrev pub invariant-loop-place : goal.invariant-loop-place
invariant-loop-place l = record {
  same : ran (parts l.schema) l.initial.facts 0 (entries_in l.fn.history.entries.now) ≡ ran (parts l.schema) l.facts l.place-counter (coming l.raw-iterator);
  few : l.place-counter + length (coming l.raw-iterator) < 2 ^ 64;
}
