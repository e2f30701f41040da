-- What only grows along runs on schemas that passed the checks. Assumes nothing.
use Rattle.std.specs.Prelude.{◌≡◌, ℕ, Bool, true, false, ◌⊎◌, List, slice_index_or}
use Rattle.std.specs.declared.option.Option.TheVariants as option
use Rattle.model.specs.declared.Entry.{Entry}
use Rattle.model.specs.declared.Fact.{Fact}
use Rattle.model.specs.declared.Fact.TheVariants.{Nothing, Begun, Ended, Decided, Left}
use Rattle.model.specs.declared.Signal.{Signal}
use Rattle.model.specs.declared.Signal.TheVariants.{True, False, None}
use Rattle.model.specs.Signals.{fact_of}
use Rattle.schema.specs.Checks.{SchemaParts}
use Rattle.marking.specs.Machine.{signals, start}
use Rattle.marking.specs.States.{own}
use Rattle.runs.specs.Steps.{Runs}
use Rattle.agreement.specs.Laws.{Checked, no_facts}

-- Something happened to the node.
abbrev pub has_fact : Fact → Bool
has_fact Nothing = false
has_fact Begun = true
has_fact Ended = true
has_fact (Decided b) = true
has_fact Left = true

-- A fact grows: from nothing to anything, from begun to ended; what completed a node stays.
abbrev pub Grown : Fact → Fact → Type 0
Grown Nothing f = Unit {0}
Grown Begun f = (f ≡ Begun) ⊎ (f ≡ Ended)
Grown Ended f = f ≡ Ended
Grown (Decided b) f = f ≡ Decided b
Grown Left f = f ≡ Left

-- A signal grows: from none to anything; true and false stay.
abbrev pub Leq : Signal → Signal → Type 0
Leq True v = v ≡ True
Leq False v = v ≡ False
Leq None v = Unit {0}

-- After a run, every node that has a fact has the own signal true.
abbrev pub NodesWithFactsHaveTrueSignals : Type 0
NodesWithFactsHaveTrueSignals =
    (S : SchemaParts) (gs : List Fact) (es : List Entry) → Checked S → Runs S no_facts es gs
    → (id : ℕ) (g : Signal) → has_fact (fact_of gs id) ≡ true → own S.row (signals gs start S.row) 0 id ≡ option.Some g → g ≡ True

-- However a run goes on, every fact and the signal of every gap only grow.
abbrev pub FactsAndSignalsOnlyGrow : Type 0
FactsAndSignalsOnlyGrow =
    (S : SchemaParts) (es ds : List Entry) (fs gs : List Fact) → Checked S → Runs S no_facts es fs → Runs S fs ds gs
    → ((id : ℕ) → Grown (fact_of fs id) (fact_of gs id)) × ((p : ℕ) → Leq (slice_index_or (signals fs start S.row) p None) (slice_index_or (signals gs start S.row) p None))
