use Rattle.std.proofs.Common.{rules}
use Rattle.case.specs.CaseViews.{view_of}
use Rattle.case.proofs.Living.{life_stepped}
use Rattle.case.proofs.case.Case.take_step.Goals as goal

pub returns-clause-life : goal.returns-clause-life
returns-clause-life g c H l = life_stepped (view_of g.S.Store.view g.W.Worklist.offered c.args.self.now) c.args.entry l (search rules)
