use Rattle.plan_record.proofs.Writings.{reading_inverts_writing}
use Rattle.plan_record.proofs.laws.reading_inverts_writing.Goals as goal

pub returns : goal.returns
returns c = reading_inverts_writing
