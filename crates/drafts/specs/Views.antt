-- What a plan stands for, and what reading one answers. Assumes nothing.
use Rattle.std.specs.Prelude.{Ok, Err, Result}
use Rattle.schema.specs.Checks.{SchemaParts}
use Rattle.draft_rules.specs.declared.PlanRefusal.{PlanRefusal}
use Rattle.drafts.specs.declared.plan.Plan.{Plan}
use Rattle.draft_rules.specs.Plans.{PlanParts}

-- The schema that the plan was made of.
abbrev pub base_of : Plan → SchemaParts
base_of p = record { version = p.base_version; row = p.first.row; edges = p.first.edges }

abbrev pub planned : Plan → PlanParts
planned p = record { base = base_of p; changes = p.changes }

-- The plan by its parts.
abbrev pub shown : Result Plan PlanRefusal → Result PlanParts PlanRefusal
shown (Ok p) = Ok (planned p)
shown (Err r) = Err r
