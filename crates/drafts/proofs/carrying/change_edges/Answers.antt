use Rattle.std.proofs.Common.{◌∙◌}
use Rattle.drafts.proofs.Carried.{none_added}
use Rattle.drafts.proofs.carrying.change_edges.Goals as goal

pub returns-in_default : goal.returns-in_default
returns-in_default c = c.extend_staying.ensures ∙ none_added c.args.change c.args.old.now c.in_default.not-AddEdge
