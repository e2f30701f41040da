use Rattle.std.proofs.Common.{◌≡◌, ℕ, refl, sym, ap, ◌∙◌, subst}
use Rattle.schema.specs.Schemas.{parts}
use Rattle.entering.specs.Courses.{held_in}
use Rattle.lives.specs.Views.{CaseView, in_progress}
use Rattle.lives.specs.Calls.{Outcome, by_held, again_outcome}
use Rattle.lives.specs.Lives.{Leaves}
use Rattle.case.specs.CaseViews.{view_of}
use Rattle.case.proofs.Living.{life_repeated}
use Rattle.case.proofs.case.Case.again.Goals as goal

pub returns : goal.returns
returns g c =
    let cost = g.S.Cost.PurgeCost.PLACES in
    let i = c.args.test in
    let v : CaseView = view_of g.S.Store.view g.W.Worklist.offered c.args.self.now in
    let w : CaseView = view_of g.S.Store.view g.W.Worklist.offered c.refresh.new.self in
    let k = held_in g.S.Store.view c.repeat.new.self in
    let went = c.in_ok-repeat.ensures.after in
    let same : w.store.free ≡ k.store.free = ap (λ (x : CaseView). x.store.free) c.refresh.ensures.after in
    let outcome = ap (λ (f : ℕ). again_outcome cost i f v) same ∙ ap (by_held v) went.change in
    let after : w ≡ (again_outcome cost i w.store.free v).after =
    c.refresh.ensures.after ∙ ap (λ s. in_progress v.number (parts s.now) k.facts k.store) went.schema ∙ sym (ap (λ (o : Outcome). o.after) outcome) in
    let bounds : Leaves cost i w.store.free v.progress.schema v.store =
    subst (λ (f : ℕ). Leaves cost i f v.progress.schema v.store) (sym same) (c.in_ok-repeat.ensures.bounds refl) in
    record {
      answer = sym (ap (λ (o : Outcome). o.answer) outcome);
      after = after;
      bounds = λ _. bounds;
      life = λ H l. life_repeated v i w.store.free bounds l after;
      same = λ r e. absurd cc;
    }
