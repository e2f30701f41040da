use Rattle.std.proofs.Common.{◌≡◌}
use Rattle.drafts.specs.Views.{planned}
use Rattle.conditions.specs.Conditions.{failing}
use Rattle.conditions.proofs.StageByStage.{failing_from}
use Rattle.conditions.proofs.failures.first_failing.Given as goal

-- none of the changes so far fails
abbrev pub invariant-loop-place : goal.invariant-loop-place
invariant-loop-place g l =
    let p = planned l.plan in
    let es = (g.S.Store.view l.store).list in
    failing p.base l.facts es 0 p.changes ≡ failing_from p.base l.facts es p.changes l.place
