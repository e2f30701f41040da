use Rattle.std.proofs.Common.{false, sym, ap, ◌∙◌}
use Rattle.drafts.specs.Views.{planned}
use Rattle.lives.specs.Moves.{by_failing}
use Rattle.entering.specs.Courses.{progress_of}
use Rattle.entering.proofs.Moves.{by_tests, by_base}
use Rattle.entering.proofs.course.Course.move_refusal.Goals as goal

pub returns-then-not-is_of : goal.returns-then-not-is_of
returns-then-not-is_of g c =
    let p = planned c.args.plan.now in
    let on = progress_of c.args.self.now in
    let es = (g.S.Store.view c.args.self.now.store).list in
    sym (by_base p on es c.is_finished.result c.is_of.result c.is_finished.ensures c.if-is_finished.false c.is_of.ensures
    ∙ ap (by_tests p on es false) c.if-not-is_of.true)

pub returns-in_err-place : goal.returns-in_err-place
returns-in_err-place g c =
    let p = planned c.args.plan.now in
    let on = progress_of c.args.self.now in
    let es = (g.S.Store.view c.args.self.now.store).list in
    c.from_residual.ensures
    ∙ sym (by_base p on es c.is_finished.result c.is_of.result c.is_finished.ensures c.if-is_finished.false c.is_of.ensures
    ∙ ap (by_tests p on es false) c.if-not-is_of.false ∙ ap by_failing (sym c.in_err-place.ensures))

pub returns : goal.returns
returns g c =
    let p = planned c.args.plan.now in
    let on = progress_of c.args.self.now in
    let es = (g.S.Store.view c.args.self.now.store).list in
    sym (by_base p on es c.is_finished.result c.is_of.result c.is_finished.ensures c.if-is_finished.false c.is_of.ensures
    ∙ ap (by_tests p on es false) c.if-not-is_of.false ∙ ap by_failing (sym c.in_ok-place.ensures))
