use Rattle.std.proofs.Common.{◌≡◌, ◌+◌, ◌^◌, ◌<◌, length}
use Rattle.case_record.specs.Entries.{entries_in}
use Rattle.case_record.specs.Coming.{coming}
use Rattle.schema.specs.Schemas.{parts}
use Rattle.lives.specs.Calls.{held, entries_taken}
use Rattle.entering.specs.Changes.{held_after}
use Rattle.entering.proofs.entries.take_all.Given as goal

abbrev pub invariant-loop-place : goal.invariant-loop-place
invariant-loop-place g l =
    let view = g.S.Store.view in
    let S = parts l.fn.schema in
    let rs = entries_in l.fn.history.entries.now in
    let h = held l.initial.facts (view l.initial.store) in
    let k = held l.facts (view l.store) in
    record {
      same : entries_taken S 0 rs h ≡ entries_taken S l.place (coming l.raw-iterator) k;
      held : held_after S 0 rs h ≡ held_after S l.place (coming l.raw-iterator) k;
      few : l.place + length (coming l.raw-iterator) < 2 ^ 64;
      capacity : (view l.store).capacity ≡ (view l.initial.store).capacity;
    }
