use Rattle.draft_rules.proofs.ListsPassAgain.{all_pass_again}
use Rattle.draft_rules.proofs.passing.admitted_changes_pass_again.Goals as goal

-- src/passing.rt:9:1
pub returns : goal.returns
returns c = all_pass_again
