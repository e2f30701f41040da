-- What a verdict means, in the words of the rules. Assumes nothing.
--   Movable p line places     the line writes a case that is moved by plan p, over a store of so many places
--   judged_history p line v   the history of the case that is judged, whose life begins with the line
use Rattle.std.specs.Prelude.{◌≡◌, ℕ, ◌≤◌, false, List, length}
use Rattle.model.specs.declared.Entry.{Entry}
use Rattle.model.specs.declared.Fact.{Fact}
use Rattle.case_record.specs.CaseRecords.{RawCase}
use Rattle.case_record.specs.Laws.{LineOf}
use Rattle.marking.specs.States.{finished_in}
use Rattle.runs.specs.Steps.{Runs}
use Rattle.runs.specs.Histories.{Spelled}
use Rattle.agreement.specs.Laws.{no_facts}
use Rattle.draft_rules.specs.Plans.{PlanParts, released_of}
use Rattle.lives.specs.Views.{CaseView}
use Rattle.lives.specs.Calls.{opened_on}
use Rattle.lives.specs.Lives.{loaded_history}
use Rattle.lives.specs.Laws.{RunsOn}

-- Its entries run on the plan's base and fit the places, they do not finish the case there, and they run on the changed
-- schema.
pub record Movable (p : PlanParts) (line : List ℕ) (places : ℕ) : Type 0 where
  pub record_of : RawCase
  pub written : LineOf line record_of
  pub entries : List Entry
  pub spelled : Spelled record_of.entries entries
  pub fits : length entries ≤ places
  pub facts : List Fact
  pub runs : Runs p.base no_facts entries facts
  pub unfinished : finished_in p.base.row facts ≡ false
  pub runs_on : RunsOn (released_of p) entries

-- Whatever the case held that is handed in.
abbrev pub judged_history : PlanParts → List ℕ → CaseView → List Entry
judged_history p line v = loaded_history line (opened_on v.number p.base v.store)
