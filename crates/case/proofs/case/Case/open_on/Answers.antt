use Rattle.std.proofs.Common.{rules}
use Rattle.schema.specs.Schemas.{parts}
use Rattle.schema.proofs.Checked.{schema_checked}
use Rattle.agreement.specs.Laws.{no_facts}
use Rattle.lives.specs.Views.{in_progress}
use Rattle.case.proofs.Living.{life_opened}
use Rattle.case.proofs.case.Case.open_on.Goals as goal

-- as if it had been on that schema
pub returns-clause-life : goal.returns-clause-life
returns-clause-life g c =
    life_opened (in_progress c.args.number (parts c.args.schema.now) no_facts (g.S.Store.view c.args.self.now.course.store)) c.args.number
    (schema_checked c.args.schema.now) (search rules)
