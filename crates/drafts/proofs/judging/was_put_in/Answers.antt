use Rattle.std.proofs.Common.{◌∙◌, rules, tests}
use Rattle.std.proofs.lemmas.Iterator.{YieldsList-from_slice}
use Rattle.std.proofs.lemmas.Iterator.Search.{any_from_yields_List}
use Rattle.ids.specs.Sets.{is_id}
use Rattle.draft_rules.specs.Rules.{new_id}
use Rattle.drafts.proofs.Anys.{some_brings}
use Rattle.drafts.proofs.judging.was_put_in.Goals as goal

pub returns : goal.returns
returns c =
    any_from_yields_List (λ x. is_id (new_id x) c.args.id) _ _ _ c.any.ensures.ran (YieldsList-from_slice c.args.changes.now cc) (λ x b q k. search (rules, tests))
    ∙ some_brings c.args.id c.args.changes.now
