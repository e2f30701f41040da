-- The move of a case by a released plan: what it answers, and what the case then holds. Assumes nothing.
--   move_refusal p on es   why a case that has come so far, with these entries, may not be moved by plan p, if it may not
--   moved p v              the case on the changed schema: it keeps its facts, its store and its number
--   move_outcome p v       the move
use Rattle.std.specs.Prelude.{ℕ, cond, List, Some, None, Option}
use Rattle.model.specs.declared.Entry.{Entry}
use Rattle.marking.specs.States.{finished_in}
use Rattle.draft_rules.specs.Plans.{PlanParts, released_of, same_schema}
use Rattle.conditions.specs.Conditions.{failing}
use Rattle.lives.specs.declared.CallRefusal.{CallRefusal}
use Rattle.lives.specs.declared.CallRefusal.TheVariants as call
use Rattle.lives.specs.Views.{Progress, CaseView, in_progress}
use Rattle.lives.specs.Calls.{Outcome, accepted, refused}

-- The first change that fails, and the node by which it does.
abbrev pub by_failing : Option (ℕ × ℕ) → Option CallRefusal
by_failing None = None
by_failing (Some q) = Some (call.Change q.0 q.1)

-- A finished case is not moved; nor is one of another schema than the plan's base; else the changes are judged.
abbrev pub move_refusal : PlanParts → Progress → List Entry → Option CallRefusal
move_refusal p on es =
    cond (finished_in on.schema.row on.facts) (Some call.Finished)
    (cond (same_schema p.base on.schema) (by_failing (failing p.base on.facts es 0 p.changes)) (Some call.OtherBase))

abbrev pub moved : PlanParts → CaseView → CaseView
moved p v = in_progress v.number (released_of p) v.progress.facts v.store

abbrev pub by_refusal : PlanParts → CaseView → Option CallRefusal → Outcome
by_refusal p v None = accepted (moved p v)
by_refusal p v (Some r) = refused r v

abbrev pub move_outcome : PlanParts → CaseView → Outcome
move_outcome p v = by_refusal p v (move_refusal p v.progress v.store.list)
