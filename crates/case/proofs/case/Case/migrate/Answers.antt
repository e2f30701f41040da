use Rattle.std.proofs.Common.{◌≡◌, Ok, None, sym, ap, ◌∙◌, subst, rules}
use Rattle.drafts.specs.Views.{planned}
use Rattle.lives.specs.Views.{CaseView}
use Rattle.lives.specs.Moves.{move_refusal, by_refusal, move_outcome}
use Rattle.lives.specs.Laws.{Landed}
use Rattle.lives.proofs.Keeping.{promises_kept}
use Rattle.case.specs.CaseViews.{view_of}
use Rattle.case.proofs.Living.{life_moved, released_plan}
use Rattle.case.proofs.case.Case.migrate.Goals as goal

pub returns-in-Some-clause-own : goal.returns-in-Some-clause-own
returns-in-Some-clause-own g c H l = (promises_kept g.S.Cost.PurgeCost.PLACES H _ l).4 (planned c.args.plan.now) (released_plan c.args.plan.now)

pub returns-in-Some-clause-promise : goal.returns-in-Some-clause-promise
returns-in-Some-clause-promise g c = promises_kept

pub returns-clause-life : goal.returns-clause-life
returns-clause-life g c H l =
    life_moved (view_of g.S.Store.view g.W.Worklist.offered c.args.self.now) (planned c.args.plan.now) (released_plan c.args.plan.now) l (search rules)

pub returns-clause-own : goal.returns-clause-own
returns-clause-own g c H l = (promises_kept g.S.Cost.PurgeCost.PLACES H _ l).4 (planned c.args.plan.now) (released_plan c.args.plan.now)

pub returns-clause-landed : goal.returns-clause-landed
returns-clause-landed g c H l e =
    let p = planned c.args.plan.now in
    let v : CaseView = view_of g.S.Store.view g.W.Worklist.offered c.args.self.now in
    let w : CaseView = view_of g.S.Store.view g.W.Worklist.offered c.refresh.new.self in
    let goes : move_refusal p v.progress v.store.list ≡ None = sym c.move_refusal.ensures ∙ c.in_default.is in
    let answer : (move_outcome p v).answer ≡ Ok tt = ap (λ o. (by_refusal p v o).answer) goes in
    let after : w ≡ (move_outcome p v).after = search rules in
    subst (Landed p H v) (sym after) (((promises_kept g.S.Cost.PurgeCost.PLACES H v l).3 p (released_plan c.args.plan.now)).0 answer)

pub returns-clause-promise : goal.returns-clause-promise
returns-clause-promise g c = promises_kept
