-- What a draft stands for. Assumes nothing.
use Rattle.drafts.specs.declared.draft.Draft.{Draft}
use Rattle.draft_rules.specs.Plans.{PlanParts}
use Rattle.drafts.specs.Views.{planned}

abbrev pub drafted : Draft → PlanParts
drafted d = planned d.plan
