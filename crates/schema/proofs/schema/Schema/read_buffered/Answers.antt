use Rattle.std.proofs.Common.{◌≡◌, None, Err, ap, ◌∙◌, arith}
use Rattle.std.proofs.lemmas.Grind.{common_steps}
use Rattle.record.specs.Lines.{whole_line}
use Rattle.schema.specs.Schemas.{shown}
use Rattle.model.specs.declared.refusal.SchemaRefusal.TheVariants as refusal
use Rattle.schema.proofs.Lines.{part_held}
use Rattle.schema.proofs.schema.Schema.read_buffered.Goals as goal

pub returns-in_err-characters : goal.returns-in_err-characters
returns-in_err-characters c cs h =
    let none : None ≡ whole_line c.args.line.now = grind (arith, common_steps) in
    let told : shown c.from_residual.result ≡ Err refusal.Line = grind (arith, common_steps) in
    told ∙ part_held cs (none ∙ ap whole_line h)
