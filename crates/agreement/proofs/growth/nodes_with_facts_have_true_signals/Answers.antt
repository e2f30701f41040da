use Rattle.agreement.proofs.SoundRows.{own_stands}
use Rattle.agreement.proofs.GrowRuns.{ran_first}
use Rattle.agreement.proofs.growth.nodes_with_facts_have_true_signals.Goals as goal

pub returns : goal.returns
returns c S gs es checked r id g f is = (ran_first S checked gs es r).sound id g (own_stands S.row _ id g is) f
