use Rattle.std.proofs.Common.{◌≡◌, ◌<◌, ℕ, List, length, get_or, sym, ap, ◌∙◌, subst}
use Rattle.std.proofs.lemmas.List.{get_or_default}
use Rattle.changes.specs.declared.Change.{Change}
use Rattle.changes.specs.declared.Change.TheVariants.{DropEdge}
use Rattle.drafts.specs.Views.{planned}
use Rattle.conditions.proofs.StageByStage.{judged_alike, fails_here, passes_here}
use Rattle.conditions.proofs.failures.first_failing.Goals as goal

-- the change at a place of the list that is gone over
change_at : (xs cs : List Change) (i : ℕ) (d : Change) → xs ≡ cs → i < length xs → get_or xs i d ≡ get_or cs i (get_or xs i d)
change_at xs cs i d e h = ap (λ l. get_or l i d) e ∙ get_or_default cs i d (get_or xs i d) (subst (λ l. i < length l) e h)

pub returns-in-Some : goal.returns-in-Some
returns-in-Some g c =
    let p = planned c.args.plan.now in
    let es = (g.S.Store.view c.args.store.now).list in
    let i = c.loop-place.place in
    let xs = c.changes-change-items.result.now in
    let less : i < length p.changes = subst (λ l. i < length l) c.changes-change-items.ensures c.loop-place-test.true in
    let d = get_or xs i (DropEdge (record { source = 0; target = 0 })) in
    let alike = judged_alike p i c.stage.result c.unwrap-stage.result c.args.facts.now es d c.stage.ensures c.unwrap-stage.ensures less in
    sym (c.loop-place.invariant
    ∙ fails_here p.base c.args.facts.now es p.changes i d c.in-Some.id less
    (change_at xs p.changes i (DropEdge (record { source = 0; target = 0 })) c.changes-change-items.ensures c.loop-place-test.true)
    (sym alike ∙ sym c.hindrance.ensures ∙ c.in-Some.is))

pub loop-place-preserved : goal.loop-place-preserved
loop-place-preserved g c =
    let p = planned c.args.plan.now in
    let es = (g.S.Store.view c.args.store.now).list in
    let i = c.loop-place.place in
    let xs = c.changes-change-items.result.now in
    let less : i < length p.changes = subst (λ l. i < length l) c.changes-change-items.ensures c.loop-place-test.true in
    let d = get_or xs i (DropEdge (record { source = 0; target = 0 })) in
    let alike = judged_alike p i c.stage.result c.unwrap-stage.result c.args.facts.now es d c.stage.ensures c.unwrap-stage.ensures less in
    c.loop-place.invariant
    ∙ passes_here p.base c.args.facts.now es p.changes i d less
    (change_at xs p.changes i (DropEdge (record { source = 0; target = 0 })) c.changes-change-items.ensures c.loop-place-test.true)
    (sym alike ∙ sym c.hindrance.ensures ∙ c.in_default.is)
