-- What the worked examples speak of. Assumes nothing.
--   schema_of xs        the schema of version 1 with these elements and no sync edges
--   case_after S es     a case of S, opened over a store of 128 places and taken through the steps es
--   Ran S es            each of these steps is accepted
--   Moves c v           the case can be moved by this one change of its schema
--   Stays c v id        it cannot, for the node of this id
--   state_after c v id  the state of a node after such a move
--   told s p line v     the verdict on a case, written, by the lines of schema, plan and case; v is what is handed in
--   left s p line v     the schema that the case is then on
use Rattle.std.specs.Prelude.{◌≡◌, ℕ, List, [], ◌∷◌, Some, Ok, Option}
use Rattle.model.specs.declared.Element.{Element}
use Rattle.model.specs.declared.Entry.{Entry}
use Rattle.model.specs.declared.State.{State}
use Rattle.model.specs.Refusals.{reason}
use Rattle.schema.specs.Checks.{SchemaParts}
use Rattle.marking.specs.States.{state_in}
use Rattle.history.specs.Stores.{fresh}
use Rattle.changes.specs.declared.Change.{Change}
use Rattle.draft_rules.specs.Plans.{PlanParts, plan_of, Released}
use Rattle.lives.specs.Views.{Progress, CaseView}
use Rattle.lives.specs.Calls.{Outcome, opened_on, step_outcome}
use Rattle.lives.specs.Moves.{move_outcome}
use Rattle.verdicts.specs.Verdicts.{verdict_line}
use Rattle.judging.specs.Judgements.{answered, judgement}

abbrev pub schema_of : List Element → SchemaParts
schema_of xs = record { version = 1; row = xs; edges = [] }

abbrev pub after_steps : List Entry → CaseView → CaseView
after_steps [] v = v
after_steps (e ∷ es) v = after_steps es (step_outcome e v).after

abbrev pub case_after : SchemaParts → List Entry → CaseView
case_after S es = after_steps es (opened_on 1 S (fresh 128))

-- A step that is refused leaves no entry.
abbrev pub Ran : SchemaParts → List Entry → Type 0
Ran S es = (case_after S es).store.list ≡ es

abbrev pub plan_for : Change → CaseView → PlanParts
plan_for c v = plan_of v.progress.schema (c ∷ [])

abbrev pub moved_by : Change → CaseView → Outcome
moved_by c v = move_outcome (plan_for c v) v

-- The plan is one that a draft releases, and the move is accepted.
pub record Moves (c : Change) (v : CaseView) : Type 0 where
  pub released : Released (plan_for c v)
  pub answer : (moved_by c v).answer ≡ Ok tt

-- The plan is one that a draft releases, and the move is refused with 35, for its first change and this node.
pub record Stays (c : Change) (v : CaseView) (id : ℕ) : Type 0 where
  pub released : Released (plan_for c v)
  pub answer : answered (moved_by c v).answer ≡ Some (reason 35 6 (Some 0) (Some id))

abbrev pub state_of : Progress → ℕ → Option State
state_of on id = state_in on.schema.row on.schema.edges on.facts id

abbrev pub state_after : Change → CaseView → ℕ → Option State
state_after c v id = state_of (moved_by c v).after.progress id

abbrev pub told : List ℕ → List ℕ → List ℕ → CaseView → List ℕ
told schema plan line v = verdict_line (judgement schema plan line v).verdict

abbrev pub left : List ℕ → List ℕ → List ℕ → CaseView → SchemaParts
left schema plan line v = (judgement schema plan line v).after.progress.schema
