use Rattle.std.proofs.Common.{◌-◌, length, sym, ap, ◌∙◌}
use Rattle.std.specs.List.{slice_get}
use Rattle.std.specs.Option.{option_map, option_copied, unwrap_or}
use Rattle.schema.specs.Schemas.{parts}
use Rattle.drafts.proofs.PlanFacts.{last_stage}
use Rattle.drafts.proofs.plan.Plan.released.Goals as goal

pub returns-in-Some : goal.returns-in-Some
returns-in-Some c =
    let p = c.args.self.now in
    ap (λ o. unwrap_or (option_map parts (option_copied o)) (parts p.first)) (sym c.in-Some.is)
    ∙ last_stage p c.last.result (c.last.ensures.value ∙ ap (λ xs. slice_get xs (length xs - 1)) c.deref.ensures.value)

pub returns-in-None : goal.returns-in-None
returns-in-None c =
    let p = c.args.self.now in
    ap (λ o. unwrap_or (option_map parts (option_copied o)) (parts p.first)) (sym c.in-None.is)
    ∙ last_stage p c.last.result (c.last.ensures.value ∙ ap (λ xs. slice_get xs (length xs - 1)) c.deref.ensures.value)
