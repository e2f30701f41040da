-- How a refusal of a call on a case is told. Assumes nothing.
use Rattle.std.specs.Prelude.{Some, None}
use Rattle.model.specs.declared.refusal.Reason.{Reason}
use Rattle.model.specs.Refusals.{reason, case_reason}
use Rattle.lives.specs.declared.CallRefusal.{CallRefusal}
use Rattle.lives.specs.declared.CallRefusal.TheVariants as call

-- Layer 7 is the store; the others are told as the replay of a record tells them.
abbrev pub call_reason : CallRefusal → Reason
call_reason (call.Case refusal) = case_reason refusal
call_reason (call.Store place id) = reason 40 7 place (Some id)
call_reason call.Finished = reason 33 6 None None
call_reason call.OtherBase = reason 34 6 None None
call_reason (call.Change place id) = reason 35 6 (Some place) (Some id)
