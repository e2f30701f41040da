-- What holds of the changes that a draft admits. Assumes nothing.
--   Admissible S c        a change of S that may be made, whatever was changed before
--   AdmittedChangesPassAgain  the law
use Rattle.std.specs.Prelude.{◌≡◌, ℕ, ◌≤◌, ◌↔◌, true, List, [], length, Result}
use Rattle.schema.specs.Checks.{SchemaParts, Admitted}
use Rattle.model.specs.Rows.{Among}
use Rattle.plan_record.specs.declared.RawChange.{RawChange}
use Rattle.changes.specs.declared.Change.{Change}
use Rattle.changes.specs.Kept.{Brings}
use Rattle.changes.specs.Effects.{row_after, edges_after}
use Rattle.draft_rules.specs.declared.ChangeRefusal.{ChangeRefusal}
use Rattle.draft_rules.specs.Stages.{changed, changed_all}
use Rattle.draft_rules.specs.Rules.{low_ids, there, edge_kept, change_judged, all_admitted}
use Rattle.draft_rules.specs.Causes.{ChangeRightly}

-- Its ids are low, what it speaks of is there, its new id is not in the row, what it leaves is within the limits, and an
-- added edge keeps the rules.
pub record Admissible (S : SchemaParts) (c : Change) : Type 0 where
  pub low : low_ids c ≡ true
  pub there : there S c ≡ true
  pub unused : (a : ℕ) → Brings c a → Among S.row a → ⊥
  pub few : length (row_after c S.row) ≤ 128
  pub few_edges : length (edges_after c S.edges) ≤ 32
  pub kept : edge_kept S c ≡ true

-- A schema that passed the checks passes them again after such a change.
abbrev pub AnAdmissibleChangePassesAgain : Type 0
AnAdmissibleChangePassesAgain = (S : SchemaParts) (c : Change) → Admitted S → Admissible S c → Admitted (changed c S)

-- And so it does after every list of changes that a draft admits, each on the schema that those before it left.
abbrev pub AdmittedChangesPassAgain : Type 0
AdmittedChangesPassAgain =
    (S : SchemaParts) (cs : List Change) → Admitted S → all_admitted S.row [] S cs ≡ true → Admitted (changed_all cs S)

-- Each answer is given exactly if its cause holds and no earlier one does.
abbrev pub ChangesAreJudgedRightly : Type 0
ChangesAreJudgedRightly =
    (base : SchemaParts) (done : List Change) (raw : RawChange) → Admitted base → all_admitted base.row [] base done ≡ true
    → (r : Result Change ChangeRefusal)
    → (r ≡ change_judged base.row done (changed_all done base) raw) ↔ ChangeRightly base.row done (changed_all done base) raw r
