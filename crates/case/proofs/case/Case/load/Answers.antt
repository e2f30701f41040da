use Rattle.lives.proofs.Keeping.{promises_kept}
use Rattle.case.proofs.case.Case.load.Goals as goal

pub returns-in_default-clause-promise : goal.returns-in_default-clause-promise
returns-in_default-clause-promise g c = promises_kept

pub returns-in_default-try_from-clause-promise : goal.returns-in_default-try_from-clause-promise
returns-in_default-try_from-clause-promise g c = promises_kept

pub returns-clause-promise : goal.returns-clause-promise
returns-clause-promise g c = promises_kept
