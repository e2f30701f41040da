-- How each refusal is told: number, layer, place and id. Assumes nothing.
use Rattle.std.specs.Prelude.{ℕ, Some, None, Option}
use Rattle.model.specs.declared.refusal.SchemaRefusal.{SchemaRefusal}
use Rattle.model.specs.declared.refusal.SchemaRefusal.TheVariants.{Line, Size, Element, Block, Edge}
use Rattle.model.specs.declared.refusal.StepRefusal.{StepRefusal}
use Rattle.model.specs.declared.refusal.StepRefusal.TheVariants as step
use Rattle.model.specs.declared.refusal.CaseRefusal.{CaseRefusal}
use Rattle.model.specs.declared.refusal.CaseRefusal.TheVariants as case
use Rattle.model.specs.declared.refusal.Reason.{Reason}

abbrev pub reason : ℕ → ℕ → Option ℕ → Option ℕ → Reason
reason number layer place id = record { place = place; id = id; number = number; layer = layer }

-- Layer 1 is the schema line, layer 2 the schema.
abbrev pub schema_reason : SchemaRefusal → Reason
schema_reason Line = reason 1 1 None None
schema_reason Size = reason 10 2 None None
schema_reason (Element place) = reason 11 2 (Some place) None
schema_reason (Block place) = reason 13 2 (Some place) None
schema_reason (Edge place source) = reason 14 2 (Some place) (Some source)

abbrev pub step_number : StepRefusal → ℕ
step_number step.Node = 30
step_number step.State = 31

-- Layer 5 is the case line, layer 6 the case.
abbrev pub case_reason : CaseRefusal → Reason
case_reason case.Line = reason 1 5 None None
case_reason (case.Step place id refusal) = reason (step_number refusal) 6 place (Some id)
