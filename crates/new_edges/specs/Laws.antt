-- That looking is replaying, for a new sync edge. Assumes nothing.
use Rattle.std.specs.Prelude.{◌≡◌, ℕ, ◌<◌, List, [], length, slice_index_or}
use Rattle.model.specs.declared.Edge.{Edge}
use Rattle.model.specs.declared.Entry.{Entry}
use Rattle.model.specs.declared.Element.TheVariants.{AndSplit, Bar}
use Rattle.model.specs.Trees.{Seq, flatten}
use Rattle.schema.specs.Checks.{SchemaParts, Admitted}
use Rattle.agreement.specs.FalseGaps.{decisions_around}
use Rattle.changes.specs.declared.Change.TheVariants.{AddEdge}
use Rattle.draft_rules.specs.Laws.{Admissible}
use Rattle.conditions.specs.Deciders.{decisions_at}
use Rattle.conditions.specs.Kinds.{Adds}

-- The decisions that the tables tell around an element are those around the gap before it in the row's tree. A bar counts to
-- the branch behind it.
abbrev pub DecisionsAreTold : Type 0
DecisionsAreTold =
    (S : SchemaParts) (t : Seq) (p : ℕ) → Admitted S → S.row ≡ flatten t → p < length S.row
    → (slice_index_or S.row p AndSplit ≡ Bar → ⊥)
    → decisions_at S.row p ≡ slice_index_or (decisions_around t) p []

abbrev pub AddingAnEdgeIsJudgedRightly : Type 0
AddingAnEdgeIsJudgedRightly =
    (S : SchemaParts) (e : Edge) (es : List Entry) → Admitted S → Admissible S (AddEdge e) → Adds S (AddEdge e) es
