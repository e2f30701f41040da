use Rattle.std.proofs.Common.{Some, ap, ◌∙◌}
use Rattle.schema.specs.Schemas.{parts}
use Rattle.schema.proofs.Checked.{schema_checked}
use Rattle.outline.proofs.Again.{read_again}
use Rattle.outline.proofs.writing.schema_line.Goals as goal

pub returns-clause-read_again : goal.returns-clause-read_again
returns-clause-read_again c =
    read_again (parts c.args.schema.now) (schema_checked c.args.schema.now) c.spell.result.items
    (c.spell.ensures.decoded ∙ ap (λ bs. Some bs) (c.as_slice.ensures.value ∙ c.record_of-bytes.ensures.value))
