use Rattle.draft_rules.proofs.OneAnswer.{judged_rightly}
use Rattle.draft_rules.proofs.ListsPassAgain.{all_pass_again}
use Rattle.draft_rules.proofs.judgements.changes_are_judged_rightly.Goals as goal

-- src/judgements.rt:5:1
pub returns : goal.returns
returns c = judged_rightly all_pass_again
