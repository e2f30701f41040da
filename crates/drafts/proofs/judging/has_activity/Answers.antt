use Rattle.std.proofs.Common.{◌∙◌, rules, tests}
use Rattle.std.proofs.lemmas.Iterator.{YieldsList-from_slice}
use Rattle.std.proofs.lemmas.Iterator.Search.{any_from_yields_List}
use Rattle.changes.specs.Effects.{is_activity}
use Rattle.drafts.proofs.Anys.{some_is}
use Rattle.drafts.proofs.judging.has_activity.Goals as goal

pub returns : goal.returns
returns c =
    any_from_yields_List (λ x. is_activity x c.args.id) _ _ _ c.any.ensures.ran (YieldsList-from_slice c.args.row.now cc) (λ x b q k. search (rules, tests))
    ∙ some_is c.args.id c.args.row.now
