use Rattle.std.proofs.Common.{ℕ, Bool, ap, ◌∙◌}
use mathlib.Core.Path.{fun_ext}
use Rattle.entering.specs.Courses.{schema_of}
use Rattle.lives.specs.Views.{CaseView}
use Rattle.case.proofs.case.Case.refresh.Goals as goal

pub returns-clause-after : goal.returns-clause-after
returns-clause-after g c =
    let s = c.args.self.now in
    ap {B = CaseView}
    (λ (o : ℕ → Bool). record { number = s.number; progress = record { schema = schema_of s.course; facts = s.course.facts }; store = g.S.Store.view s.course.store; offered = o })
    (c.bring_in_step.ensures.after ∙ fun_ext c.activated_activities-wanted.ensures)
