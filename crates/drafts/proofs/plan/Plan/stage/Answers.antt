use Rattle.std.proofs.Common.{◌-◌, ap, ◌∙◌}
use Rattle.std.specs.List.{slice_get}
use Rattle.drafts.proofs.Lookups.{looked_up}
use Rattle.drafts.proofs.PlanFacts.{later_stage}
use Rattle.drafts.proofs.plan.Plan.stage.Goals as goal

pub returns-else-i-eq0 : goal.returns-else-i-eq0
returns-else-i-eq0 c =
    let i = c.args.i in
    let got = looked_up c.deref.result.now (i - 1) c.get.result c.get.ensures.lookup.0 c.get.ensures.lookup.1 in
    later_stage c.args.self.now i c.get.result c.if-i-eq0.false (got ∙ ap (λ xs. slice_get xs (i - 1)) c.deref.ensures.value)
