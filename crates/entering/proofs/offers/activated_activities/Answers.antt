use Rattle.std.proofs.Common.{◌&&◌, List, get_or, ap, ap₂, ◌∙◌, ◌≡◌, ◌<◌, true, arith}
use Rattle.std.proofs.lemmas.List.{take_all}
use Rattle.model.specs.declared.Element.TheVariants.{Activity}
use Rattle.model.specs.declared.Fact.{Fact}
use Rattle.schema.specs.declared.schema.Schema.{Schema}
use Rattle.schema.specs.Schemas.{parts}
use Rattle.schema.proofs.Checked.{checked_fine}
use Rattle.marking.specs.States.{state_in}
use Rattle.changes.specs.Effects.{is_activity, has_activity}
use Rattle.lives.specs.Offers.{is_activated}
use Rattle.entering.proofs.Activities.{activity_more, activity_among}
use Rattle.entering.proofs.offers.activated_activities.Goals as goal

pub loop-element-preserved : goal.loop-element-preserved
loop-element-preserved c id =
    let S = parts c.args.schema.now in
    let p = c.loop-element.element-index in
    let active = is_activated (state_in S.row S.edges c.args.facts.now id) in
    let x = get_or c.row-row.result.now p (Activity 0) in
    let told =
    c.offered_of.ensures id
    ∙ ap₂ (λ (s : Schema) (fs : List Fact). is_activity x id && is_activated (state_in (parts s).row (parts s).edges fs id)) c.of-signals.ensures.schema c.of-signals.ensures.facts
    ∙ ap (λ xs. is_activity (get_or xs p (Activity 0)) id && active) c.row-row.ensures.value in
    grind (arith, told, c.row-row.ensures.value, c.loop-element.invariant id, c.with-ids.ensures.members id, activity_more S.row p (Activity 0) id)

pub returns : goal.returns
returns c id =
    let S = parts c.args.schema.now in
    let low : has_activity S.row id ≡ true → id < 64 = λ e. (checked_fine S.row S.edges c.args.schema.now.passed).1 id (activity_among S.row id e) in
    grind (arith, c.loop-element.invariant id, c.row-row.ensures.value, take_all c.loop-element.element-index S.row, low)
