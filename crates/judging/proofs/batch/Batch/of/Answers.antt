use Rattle.std.proofs.Common.{◌≡◌, Ok, sym, ap, ◌∙◌}
use Rattle.schema.specs.Schemas.{parts}
use Rattle.drafts.specs.Plans.{begun, plan_read}
use Rattle.drafts.specs.Views.{planned}
use Rattle.judging.proofs.Bases.{plan_read_base}
use Rattle.judging.proofs.batch.Batch.of.Goals as goal

pub invariant_of-result : goal.invariant_of-result
invariant_of-result c =
    let S = parts c.in-Ok.schema in
    let p = planned c.in-Ok-read.plan in
    let read : plan_read (begun S) c.args.plan.now ≡ Ok p =
    ap (λ q. plan_read q c.args.plan.now) (sym c.in_ok-draft.ensures) ∙ sym c.in-Ok-read.ensures in
    record { base = sym (plan_read_base S c.args.plan.now p read) }
