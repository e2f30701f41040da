use Rattle.std.proofs.Common.{rules}
use Rattle.schema.proofs.Checked.{schema_checked}
use Rattle.case.specs.CaseViews.{view_of}
use Rattle.case.proofs.Living.{life_opened}
use Rattle.case.proofs.case.Case.open.Goals as goal

pub returns-clause-life : goal.returns-clause-life
returns-clause-life g c =
    life_opened (view_of g.S.Store.view g.W.Worklist.offered c.args.self.now) c.args.number (schema_checked c.args.self.now.course.schema.now) (search rules)
