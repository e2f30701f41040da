use Rattle.std.proofs.Common.{◌≡◌, [], ap, ap₂, ◌∙◌, subst}
use Rattle.schema.specs.Checks.{SchemaParts}
use Rattle.schema.specs.Schemas.{parts}
use Rattle.history.specs.Stores.{StoreView}
use Rattle.lives.specs.Views.{CaseView}
use Rattle.lives.specs.Calls.{opened_on, load_outcome}
use Rattle.lives.specs.Lives.{Life, if_accepted, line_entries}
use Rattle.case.specs.CaseViews.{view_of}
use Rattle.case.proofs.Anew.{anew}
use Rattle.case.proofs.case.Case.load_on.Goals as goal

pub returns : goal.returns
returns g c =
    let old = c.args.self.now in
    let line = c.args.line.now in
    let on = c.begin_on.new.self in
    let v : CaseView =
    view_of g.S.Store.view g.W.Worklist.offered (record { course = on; worklist = old.worklist; number = old.number }) in
    let w : CaseView = opened_on old.number (parts c.args.base.now) (g.S.Store.view old.course.store) in
    let same : load_outcome line v ≡ load_outcome line w =
    anew old.number v line
    ∙ ap₂ (λ (S : SchemaParts) (s : StoreView). load_outcome line (opened_on old.number S s)) (ap parts c.begin_on.ensures.schema)
    (ap (λ h. h.store) c.begin_on.ensures.begun) in
    record {
      answer = c.load.ensures.answer ∙ ap (λ o. o.answer) same;
      after = c.load.ensures.after ∙ ap (λ o. o.after) same;
      life = subst (λ H. Life g.S.Cost.PurgeCost.PLACES H (view_of g.S.Store.view g.W.Worklist.offered c.load.new.self))
          (ap (λ o. if_accepted o.answer (line_entries line) []) same) c.load.ensures.life;
    }
