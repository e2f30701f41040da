use Rattle.std.proofs.Common.{◌∙◌, rules, tests}
use Rattle.std.proofs.lemmas.Iterator.{YieldsList-from_slice}
use Rattle.std.proofs.lemmas.Iterator.Search.{any_from_yields_List}
use Rattle.draft_rules.specs.Rules.{adds}
use Rattle.drafts.proofs.Anys.{some_adds}
use Rattle.drafts.proofs.judging.any_adds.Goals as goal

pub returns : goal.returns
returns c =
    any_from_yields_List adds _ _ _ c.any.ensures.ran (YieldsList-from_slice c.args.changes.now cc) (λ x b q k. search (rules, tests))
    ∙ some_adds c.args.changes.now
