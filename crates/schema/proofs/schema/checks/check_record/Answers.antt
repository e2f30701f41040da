use Rattle.std.proofs.Common.{◌≡◌, [], Ok, arith}
use Rattle.std.proofs.lemmas.Grind.{common_steps}
use Rattle.record.specs.Pairs.{pairs}
use Rattle.schema.specs.Reading.{row_read}
use Rattle.schema.proofs.Wrongs.{read_fine, fine_distinct}
use Rattle.schema.proofs.schema.checks.check_record.Goals as goal

pub check_parts-requires : goal.check_parts-requires
check_parts-requires c =
    let read : row_read [] 0 (pairs c.args.given.elements.now) ≡ Ok c.read_row.new.row = grind (arith, common_steps) in
    fine_distinct _ (read_fine (pairs c.args.given.elements.now) _ read).1
