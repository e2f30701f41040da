-- Who is offered to the users of a case. Assumes nothing.
--   offers S fs id   the schema has the activity of this id, and it is Activated
use Rattle.std.specs.Prelude.{ℕ, Bool, true, false, ◌&&◌, List, Some, None, Option}
use Rattle.model.specs.declared.Fact.{Fact}
use Rattle.model.specs.declared.State.{State}
use Rattle.model.specs.declared.State.TheVariants.{NotActivated, Activated, Running, Completed, Skipped}
use Rattle.schema.specs.Checks.{SchemaParts}
use Rattle.marking.specs.States.{state_in}
use Rattle.changes.specs.Effects.{has_activity}

abbrev pub is_activated : Option State → Bool
is_activated None = false
is_activated (Some NotActivated) = false
is_activated (Some Activated) = true
is_activated (Some Running) = false
is_activated (Some Completed) = false
is_activated (Some Skipped) = false

-- The Activated activities.
abbrev pub offers : SchemaParts → List Fact → ℕ → Bool
offers S fs id = has_activity S.row id && is_activated (state_in S.row S.edges fs id)
