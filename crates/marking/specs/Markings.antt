-- The marking of a schema under a case's facts. Assumes nothing.
--   branch-in xs fs id   the branch that the decision of this id decided, if the row has the decision
--   MarkingOf xs es fs m what a marking holds
use Rattle.std.specs.Prelude.{◌≡◌, ℕ, ◌<◌, List, None, slice_index_or}
use Rattle.model.specs.declared.Element.{Element}
use Rattle.model.specs.declared.Edge.{Edge}
use Rattle.model.specs.declared.Fact.{Fact}
use Rattle.model.specs.Signals.{fact_of, decided}
use Rattle.marking.specs.declared.marking.Marking.{Marking}
use Rattle.marking.specs.States.{state_in, finished_in}

pub record MarkingOf (xs : List Element) (es : List Edge) (fs : List Fact) (m : Marking) : Type 0 where
  pub states : (id : ℕ) → id < 64 → slice_index_or m.states id None ≡ state_in xs es fs id
  pub branches : (id : ℕ) → id < 64 → slice_index_or m.branches id None ≡ decided (fact_of fs id)
  pub finished : m.finished ≡ finished_in xs fs
