-- What holds of all runs on all schemas that passed the checks. Assumes nothing.
use Rattle.std.specs.Prelude.{◌≡◌, ◌≤◌, true, ◌⊎◌, List, [], ◌∷◌, length, replicate, slice_set}
use Rattle.model.specs.declared.Entry.{Entry}
use Rattle.model.specs.declared.Fact.{Fact}
use Rattle.model.specs.declared.Fact.TheVariants.{Nothing}
use Rattle.model.specs.declared.Signal.{Signal}
use Rattle.model.specs.Trees.{Seq, Item}
use Rattle.model.specs.Entries.{entry_id, entry_kind, fact_set}
use Rattle.model.specs.Signals.{is_false, ends, after}
use Rattle.schema.specs.Checks.{SchemaParts, passes}
use Rattle.runs.specs.Steps.{Runs}

-- A schema that passed the checks.
abbrev pub Checked : SchemaParts → Type 0
Checked S = passes S.row S.edges ≡ true

-- No fact yet, of any id.
abbrev pub no_facts : List Fact
no_facts = replicate 64 Nothing

-- The facts after these entries, whatever the schema.
abbrev pub facts_after : List Fact → List Entry → List Fact
facts_after fs [] = fs
facts_after fs (e ∷ es) = facts_after (slice_set fs (entry_id e) (fact_set e)) es

-- The facts that a run ends in depend on its entries alone.
abbrev pub FactsDependOnEntriesAlone : Type 0
FactsDependOnEntriesAlone = (S : SchemaParts) (fs gs : List Fact) (es : List Entry) → Runs S fs es gs → gs ≡ facts_after fs es

-- A sequence, and so every block and branch, ends false exactly if it begins false.
abbrev pub BlocksEndFalseAsTheyBegin : Type 0
BlocksEndFalseAsTheyBegin =
    (fs : List Fact) → ((t : Seq) (g : Signal) → is_false (ends fs t g) ≡ is_false g) × ((x : Item) (g : Signal) → is_false (after fs x g) ≡ is_false g)

-- An entry of this kind and id is among these.
abbrev pub Occurs : Entry → List Entry → Type 0
Occurs e [] = ⊥
Occurs e (x ∷ es) = ((entry_kind e ≡ entry_kind x) × (entry_id e ≡ entry_id x)) ⊎ Occurs e es

-- No kind and id comes twice.
abbrev pub EachOnce : List Entry → Type 0
EachOnce [] = Unit {0}
EachOnce (e ∷ es) = (Occurs e es → ⊥) × EachOnce es

-- A run has each kind and id at most once.
abbrev pub ARunHasEachStepOnce : Type 0
ARunHasEachStepOnce = (S : SchemaParts) (gs : List Fact) (es : List Entry) → Checked S → Runs S no_facts es gs → EachOnce es

-- So it has at most 128 entries.
abbrev pub ARunIsShort : Type 0
ARunIsShort = (S : SchemaParts) (gs : List Fact) (es : List Entry) → Checked S → Runs S no_facts es gs → length es ≤ 128
