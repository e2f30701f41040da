-- How a refusal of a plan is told. Assumes nothing.
use Rattle.std.specs.Prelude.{ℕ, Some, None}
use Rattle.model.specs.declared.refusal.Reason.{Reason}
use Rattle.model.specs.Refusals.{reason}
use Rattle.draft_rules.specs.declared.ChangeRefusal.{ChangeRefusal}
use Rattle.draft_rules.specs.declared.ChangeRefusal.TheVariants as refused
use Rattle.draft_rules.specs.declared.PlanRefusal.{PlanRefusal}
use Rattle.draft_rules.specs.declared.PlanRefusal.TheVariants as plan

abbrev pub change_number : ChangeRefusal → ℕ
change_number refused.Form = 20
change_number refused.Missing = 22
change_number refused.Used = 23
change_number refused.Full = 24
change_number refused.Edge = 14

-- Layer 3 is the plan line, layer 4 the plan; the place is the change's index, the id its byte a.
abbrev pub plan_reason : PlanRefusal → Reason
plan_reason plan.Line = reason 1 3 None None
plan_reason (plan.Change place id refusal) = reason (change_number refusal) 4 (Some place) (Some id)
