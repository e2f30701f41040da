-- That looking is replaying, said of a single change. Assumes nothing.
--   NoEntry a es     none of these entries is of node a
--   Adds S c es      it is so of a change that puts something in: what runs on the changed schema also ran on the schema
--   Takes S c es     it is so of a change that takes something out, as far as the schema that is left can tell
use Rattle.std.specs.Prelude.{◌≡◌, ℕ, List, [], ◌∷◌, None}
use Rattle.model.specs.declared.Entry.{Entry}
use Rattle.model.specs.declared.Fact.{Fact}
use Rattle.model.specs.Entries.{entry_id}
use Rattle.schema.specs.Checks.{SchemaParts}
use Rattle.runs.specs.Steps.{Runs}
use Rattle.agreement.specs.Laws.{no_facts}
use Rattle.changes.specs.declared.Change.{Change}
use Rattle.changes.specs.declared.Change.TheVariants.{DropEdge, Delete, Insert, InsertBeside, AddEdge}
use Rattle.draft_rules.specs.Stages.{changed}
use Rattle.conditions.specs.Conditions.{hindrance}

abbrev pub NoEntry : ℕ → List Entry → Type 0
NoEntry a [] = Unit {0}
NoEntry a (e ∷ es) = (entry_id e ≡ a → ⊥) × NoEntry a es

pub record Adds (S : SchemaParts) (c : Change) (es : List Entry) : Type 0 where
  pub on : (fs : List Fact) → Runs S no_facts es fs → hindrance S fs es c ≡ None → Runs (changed c S) no_facts es fs
  pub only : (fs gs : List Fact) → Runs S no_facts es fs → Runs (changed c S) no_facts es gs → hindrance S fs es c ≡ None
  pub back : (gs : List Fact) → Runs (changed c S) no_facts es gs → Runs S no_facts es gs

-- The id of a deleted activity.
abbrev pub TakesOut : Change → ℕ → Type 0
TakesOut (DropEdge e) a = ⊥
TakesOut (Delete i) a = a ≡ i
TakesOut (Insert i g) a = ⊥
TakesOut (InsertBeside i b c) a = ⊥
TakesOut (AddEdge e) a = ⊥

pub record Takes (S : SchemaParts) (c : Change) (es : List Entry) : Type 0 where
  pub on : (fs : List Fact) → Runs S no_facts es fs → hindrance S fs es c ≡ None → Runs (changed c S) no_facts es fs
  pub only : (fs : List Fact) → Runs S no_facts es fs → ((a : ℕ) → TakesOut c a → NoEntry a es) → hindrance S fs es c ≡ None
