use Rattle.std.proofs.Common.{sym, subst}
use Rattle.record.specs.Readings.{raw}
use Rattle.schema.specs.Causes.{Rightly}
use Rattle.schema.proofs.Rights.{rightly}
use Rattle.schema.proofs.schema.Schema.check.Goals as goal

pub returns-clause-rightly : goal.returns-clause-rightly
returns-clause-rightly c = subst (Rightly (raw c.args.given)) (sym c.check_record.ensures) (rightly (raw c.args.given))
