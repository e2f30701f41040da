use Rattle.std.proofs.Common.{◌≡◌, [], ◌∷◌, ◌++◌, map, ap, ◌∙◌, arith}
use Rattle.std.proofs.lemmas.Grind.{common_steps}
use Rattle.schema.specs.Schemas.{parts}
use Rattle.draft_rules.specs.Rules.{all_admitted}
use Rattle.drafts.specs.Plans.{stages_after}
use Rattle.drafts.proofs.PlanFacts.{more_passes, more_admitted, more_staged}
use Rattle.drafts.proofs.plan.Plan.lengthen.Goals as goal

pub changed-stage-requires : goal.changed-stage-requires
changed-stage-requires c = more_passes c.args.self.now c.args.change c.requires.admitted _ c.released.ensures

pub invariant_of-self-clause-admitted : goal.invariant_of-self-clause-admitted
invariant_of-self-clause-admitted c =
    let p = c.args.self.now in
    let grown : c.push.new.self ≡ p.changes ++ c.args.change ∷ [] = grind (arith, common_steps) in
    ap (all_admitted p.first.row [] (parts p.first)) grown ∙ more_admitted p c.args.change c.requires.admitted

pub invariant_of-self-clause-staged : goal.invariant_of-self-clause-staged
invariant_of-self-clause-staged c =
    let p = c.args.self.now in
    let grown : p.changes ++ c.args.change ∷ [] ≡ c.push.new.self = grind (arith, common_steps) in
    ap (map parts) c.push_reserved.ensures.items
    ∙ more_staged p c.args.change c.requires.admitted _ _ c.released.ensures c.changed-stage.ensures
    ∙ ap (λ cs. stages_after cs (parts p.first)) grown
