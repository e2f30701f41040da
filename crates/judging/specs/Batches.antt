-- What a batch stands for. Assumes nothing.
--   batch_of      the plan, or why there is none
--   base_in       the schema that the cases are loaded on, if there is one
--   refusal_in    the verdict on every case line, if the schema or the plan was refused
use Rattle.std.specs.Prelude.{Some, None, Ok, Err, Option, Result}
use Rattle.model.specs.declared.refusal.Reason.{Reason}
use Rattle.schema.specs.Checks.{SchemaParts}
use Rattle.draft_rules.specs.Plans.{PlanParts}
use Rattle.drafts.specs.Views.{planned}
use Rattle.verdicts.specs.declared.Verdict.{Verdict}
use Rattle.judging.specs.declared.batch.Batch.{Batch}
use Rattle.judging.specs.declared.batch.Batch.TheVariants.{Ready, Refused}
use Rattle.judging.specs.Judgements.{verdict}

abbrev pub batch_of : Batch → Result PlanParts Reason
batch_of (Ready ready) = Ok (planned ready.plan)
batch_of (Refused reason) = Err reason

abbrev pub base_in : Result PlanParts Reason → Option SchemaParts
base_in (Ok p) = Some p.base
base_in (Err r) = None

abbrev pub refusal_in : Result PlanParts Reason → Option Verdict
refusal_in (Ok p) = None
refusal_in (Err r) = Some (verdict 0 (Some r))
