-- Looking is replaying, since each kind of change is judged rightly. Assumes nothing.
use Rattle.std.proofs.Common.{◌≡◌, ℕ, List, [], None}
use Rattle.model.specs.declared.Fact.{Fact}
use Rattle.model.specs.Rows.{Among}
use Rattle.runs.specs.Steps.{Runs}
use Rattle.agreement.specs.Laws.{no_facts}
use Rattle.draft_rules.specs.Stages.{changed_all, released}
use Rattle.conditions.specs.Conditions.{failing}
use Rattle.conditions.specs.Kinds.{NoEntry}
use Rattle.draft_rules.proofs.ListsPassAgain.{nodes_at_first}
use Rattle.looking.specs.Law.{LookingIsReplaying}
use Rattle.looking.proofs.Entries.{no_entry, on_renewed, from_renewed}
use Rattle.looking.proofs.Lists.{all_hold, none_fails, all_on, all_only}
use Rattle.looking.proofs.Admissions.{in_order, all_admissible}

pub looks : LookingIsReplaying
looks S cs es fs k h r =
    let none_new : (a : ℕ) → (Among S.row a → ⊥) → NoEntry a es = λ a n. no_entry S a n no_facts fs es r in
    let all = all_admissible es S.row none_new [] S cs k (nodes_at_first S.row) h in
    let order = in_order S.row [] S cs h in
    let on : failing S fs es 0 cs ≡ None → Runs (released cs S) no_facts es fs =
    λ q. on_renewed S.version (changed_all cs S) no_facts fs es (all_on es cs S k all fs r (all_hold S fs es 0 cs q)) in
    let only : (gs : List Fact) × Runs (released cs S) no_facts es gs → failing S fs es 0 cs ≡ None =
    λ w. none_fails S fs es 0 cs (all_only es cs S k order all fs w.0 r (from_renewed S.version (changed_all cs S) no_facts w.0 es w.1)) in
    (((λ q. (fs, on q)), only), on)
