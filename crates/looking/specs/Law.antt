-- Looking is replaying. Assumes nothing.
use Rattle.std.specs.Prelude.{◌≡◌, ◌↔◌, true, List, [], None}
use Rattle.model.specs.declared.Entry.{Entry}
use Rattle.model.specs.declared.Fact.{Fact}
use Rattle.schema.specs.Checks.{SchemaParts, Admitted}
use Rattle.runs.specs.Steps.{Runs}
use Rattle.agreement.specs.Laws.{no_facts}
use Rattle.changes.specs.declared.Change.{Change}
use Rattle.draft_rules.specs.Stages.{released}
use Rattle.draft_rules.specs.Rules.{all_admitted}
use Rattle.conditions.specs.Conditions.{failing}

-- For every schema that passed the checks, every history that runs on it and every list of changes that a draft admits: all
-- conditions hold, each judged on the schema before its change, exactly if the history runs on the released schema; and it
-- then ends in the same facts.
abbrev pub LookingIsReplaying : Type 0
LookingIsReplaying =
    (S : SchemaParts) (cs : List Change) (es : List Entry) (fs : List Fact)
    → Admitted S → all_admitted S.row [] S cs ≡ true → Runs S no_facts es fs
    → ((failing S fs es 0 cs ≡ None) ↔ ((gs : List Fact) × Runs (released cs S) no_facts es gs))
    × (failing S fs es 0 cs ≡ None → Runs (released cs S) no_facts es fs)
