-- A finished round of a loop, on schemas that passed the checks. Assumes nothing.
use Rattle.std.specs.Prelude.{◌≡◌, ℕ, Bool, cond, not, List, filter}
use Rattle.model.specs.declared.Entry.{Entry}
use Rattle.model.specs.declared.Entry.TheVariants.{Leave}
use Rattle.model.specs.declared.Fact.{Fact}
use Rattle.model.specs.declared.Fact.TheVariants.{Nothing}
use Rattle.model.specs.Entries.{entry_id}
use Rattle.model.specs.Signals.{fact_of}
use Rattle.model.specs.Trees.{Seq, loop, flatten}
use Rattle.model.specs.Nodes.{Holds}
use Rattle.facts.specs.Facts.{reset}
use Rattle.schema.specs.Checks.{SchemaParts, Admitted}
use Rattle.runs.specs.Steps.{Allowed, Runs}
use Rattle.agreement.specs.Laws.{no_facts}
use Rattle.rounds.specs.Rounds.{between, in_round, outside}

-- What stands between a loop's start and its test is the loop's body.
abbrev pub ARoundIsTheLoopsBody : Type 0
ARoundIsTheLoopsBody =
    (S : SchemaParts) (t u : Seq) (i : ℕ) → Admitted S → S.row ≡ flatten t → Holds t (loop u i)
    → between S.row i ≡ flatten u

-- Where a loop's test may be taken, the entries of the body can be dropped from the history: the others run, and end in
-- the same facts without those of the body.
abbrev pub AFinishedRoundCanBeDropped : Type 0
AFinishedRoundCanBeDropped =
    (S : SchemaParts) (gs : List Fact) (es : List Entry) (i : ℕ) → Admitted S → Runs S no_facts es gs → Allowed S gs (Leave i)
    → Runs S no_facts (outside (in_round S.row i) es) (reset (in_round S.row i) gs)

-- Without what P names, its nodes have no fact, the other facts stay, and of the entries those of other nodes stay in their
-- order.
pub record Forgotten (P : ℕ → Bool) (fs : List Fact) (es : List Entry) : Type 0 where
  pub facts : (id : ℕ) → fact_of (reset P fs) id ≡ cond (P id) Nothing (fact_of fs id)
  pub entries : outside P es ≡ filter (λ e. not (P (entry_id e))) es

abbrev pub ARoundIsForgotten : Type 0
ARoundIsForgotten = (P : ℕ → Bool) (fs : List Fact) (es : List Entry) → Forgotten P fs es
