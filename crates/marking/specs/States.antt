-- The states of a row's nodes, and when a case is finished. Assumes nothing.
--   own xs gs p id         the signal of the gap before the node's element; the row xs stands from place p on
--   free xs gs fs es id    every sync source of the node is Completed or Skipped
--   own_in xs fs id        its own signal, under these facts
--   settled_in xs fs id    it is Completed or Skipped
--   free_in xs es fs id    every sync source of it is
--   state_in xs es fs id   the state of the node, if the row has it
--   finished_in xs fs      the gap behind the row is true
use Rattle.std.specs.Prelude.{ℕ, ◌+◌, Bool, true, false, cond, not, ◌&&◌, ◌||◌, List, [], ◌∷◌, length, Option, ◌==◌, slice_index_or}
use Rattle.std.specs.declared.option.Option.TheVariants as option
use Rattle.model.specs.declared.Element.{Element}
use Rattle.model.specs.declared.Edge.{Edge}
use Rattle.model.specs.declared.Fact.{Fact}
use Rattle.model.specs.declared.Signal.{Signal}
use Rattle.model.specs.declared.Signal.TheVariants.{None}
use Rattle.model.specs.declared.State.{State}
use Rattle.model.specs.Elements.{node_id}
use Rattle.model.specs.Signals.{fact_of, is_true, is_false, is_done}
use Rattle.model.specs.States.{state_of}
use Rattle.ids.specs.Sets.{is_id}
use Rattle.marking.specs.Machine.{signals, start}

abbrev pub own : List Element → List Signal → ℕ → ℕ → Option Signal
own [] gs p id = option.None
own (x ∷ xs) gs p id = cond (is_id (node_id x) id) (option.Some (slice_index_or gs p None)) (own xs gs (p + 1) id)

-- Completed or Skipped. What the row has not is neither.
abbrev pub settled : Option Signal → Fact → Bool
settled option.None f = false
settled (option.Some g) f = is_false g || is_done f

abbrev pub free : List Element → List Signal → List Fact → List Edge → ℕ → Bool
free xs gs fs [] id = true
free xs gs fs (e ∷ es) id = (not (e.target == id) || settled (own xs gs 0 e.source) (fact_of fs e.source)) && free xs gs fs es id

-- A node's own signal, under the signals that follow from the facts.
abbrev pub own_in : List Element → List Fact → ℕ → Option Signal
own_in xs fs id = own xs (signals fs start xs) 0 id

-- Whether a node is Completed or Skipped, under them.
abbrev pub settled_in : List Element → List Fact → ℕ → Bool
settled_in xs fs id = settled (own_in xs fs id) (fact_of fs id)

-- Whether every sync source of a node is, under them.
abbrev pub free_in : List Element → List Edge → List Fact → ℕ → Bool
free_in xs es fs id = free xs (signals fs start xs) fs es id

abbrev pub with_signal : Option Signal → Fact → Bool → Option State
with_signal option.None f r = option.None
with_signal (option.Some g) f r = option.Some (state_of g f r)

abbrev pub state_by : List Element → List Signal → List Fact → List Edge → ℕ → Option State
state_by xs gs fs es id = with_signal (own xs gs 0 id) (fact_of fs id) (free xs gs fs es id)

abbrev pub state_in : List Element → List Edge → List Fact → ℕ → Option State
state_in xs es fs id = state_by xs (signals fs start xs) fs es id

abbrev pub finished_in : List Element → List Fact → Bool
finished_in xs fs = is_true (slice_index_or (signals fs start xs) (length xs) None)
