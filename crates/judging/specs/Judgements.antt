-- A case judged by a schema line, a plan line and its own line, and what it then holds. Assumes nothing.
--   batch_read s p        what the first two lines give: a schema and a plan of it, or why they are refused
--   judged b line v       the verdict on a case line, and what the case that is handed in then holds
--   judgement s p line v  the same by the three lines
-- The layers are checked in their order: schema line, schema, plan line, plan, case line, case, store.
use Rattle.std.specs.Prelude.{ℕ, List, Some, None, Ok, Err, Option, Result}
use Rattle.model.specs.declared.refusal.SchemaRefusal.{SchemaRefusal}
use Rattle.model.specs.declared.refusal.Reason.{Reason}
use Rattle.model.specs.Refusals.{schema_reason}
use Rattle.schema.specs.Checks.{SchemaParts, schema_read}
use Rattle.draft_rules.specs.declared.PlanRefusal.{PlanRefusal}
use Rattle.draft_rules.specs.Plans.{PlanParts}
use Rattle.draft_rules.specs.Reasons.{plan_reason}
use Rattle.drafts.specs.Plans.{begun, plan_read}
use Rattle.lives.specs.declared.CallRefusal.{CallRefusal}
use Rattle.lives.specs.Refusals.{call_reason}
use Rattle.lives.specs.Views.{CaseView}
use Rattle.lives.specs.Calls.{Outcome, opened_on, load_outcome}
use Rattle.lives.specs.Moves.{move_outcome}
use Rattle.verdicts.specs.declared.Verdict.{Verdict}

-- A plan has its base in it.
abbrev pub by_plan : Result PlanParts PlanRefusal → Result PlanParts Reason
by_plan (Ok p) = Ok p
by_plan (Err r) = Err (plan_reason r)

abbrev pub by_schema : List ℕ → Result SchemaParts SchemaRefusal → Result PlanParts Reason
by_schema plan (Ok S) = by_plan (plan_read (begun S) plan)
by_schema plan (Err r) = Err (schema_reason r)

abbrev pub batch_read : List ℕ → List ℕ → Result PlanParts Reason
batch_read schema plan = by_schema plan (schema_read schema)

abbrev pub verdict : ℕ → Option Reason → Verdict
verdict n r = record { refusal = r; case = n }

pub record Judged : Type 0 where
  pub verdict : Verdict
  pub after : CaseView

abbrev pub told : Option Reason → CaseView → Judged
told r v = record { verdict = verdict v.number r; after = v }

abbrev pub answered : Result (Unit {0}) CallRefusal → Option Reason
answered (Ok u) = None
answered (Err r) = Some (call_reason r)

-- The case that was loaded is moved; a refused load or move is told, and the case is left as that leaves it.
abbrev pub then_moved : PlanParts → Outcome → Result (Unit {0}) CallRefusal → Judged
then_moved p o (Ok u) = told (answered (move_outcome p o.after).answer) (move_outcome p o.after).after
then_moved p o (Err r) = told (Some (call_reason r)) o.after

abbrev pub by_load : PlanParts → Outcome → Judged
by_load p o = then_moved p o o.answer

-- A case is loaded on the plan's own schema, whatever it was on before. If there is no plan it is left as it was, and no case
-- number is told.
abbrev pub judged : Result PlanParts Reason → List ℕ → CaseView → Judged
judged (Ok p) line v = by_load p (load_outcome line (opened_on v.number p.base v.store))
judged (Err r) line v = record { verdict = verdict 0 (Some r); after = v }

abbrev pub judgement : List ℕ → List ℕ → List ℕ → CaseView → Judged
judgement schema plan line v = judged (batch_read schema plan) line v
