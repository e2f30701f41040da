use Rattle.rounds.proofs.Forgetting.{round_forgotten}
use Rattle.rounds.proofs.laws.a_round_is_forgotten.Goals as goal

pub returns : goal.returns
returns c = round_forgotten
