-- What a node is doing, from its own signal, its fact and its sync sources. Assumes nothing.
use Rattle.std.specs.Prelude.{Bool, cond}
use Rattle.model.specs.declared.Fact.{Fact}
use Rattle.model.specs.declared.Fact.TheVariants.{Nothing, Begun, Ended, Decided, Left}
use Rattle.model.specs.declared.Signal.{Signal}
use Rattle.model.specs.declared.Signal.TheVariants.{True, False, None}
use Rattle.model.specs.declared.State.{State}
use Rattle.model.specs.declared.State.TheVariants.{NotActivated, Activated, Running, Completed, Skipped}

-- Activated if the signal is true and every sync source is Completed or Skipped.
abbrev pub waiting : Signal → Bool → State
waiting True free = cond free Activated NotActivated
waiting False free = NotActivated
waiting None free = NotActivated

-- Completed if ended, decided or left; Running if begun.
abbrev pub by_fact : Fact → State → State
by_fact Nothing else = else
by_fact Begun else = Running
by_fact Ended else = Completed
by_fact (Decided b) else = Completed
by_fact Left else = Completed

-- The first that fits: Skipped if the signal is false, then by the fact, then Activated, then NotActivated.
abbrev pub state_of : Signal → Fact → Bool → State
state_of True f free = by_fact f (waiting True free)
state_of False f free = Skipped
state_of None f free = by_fact f (waiting None free)
