-- That looking is replaying, for each change that leaves the sync edges as they are or takes some away. Assumes nothing.
use Rattle.std.specs.Prelude.{ℕ, List}
use Rattle.model.specs.declared.Edge.{Edge}
use Rattle.model.specs.declared.Entry.{Entry}
use Rattle.schema.specs.Checks.{SchemaParts, Admitted}
use Rattle.changes.specs.declared.Change.TheVariants.{DropEdge, Delete, Insert, InsertBeside}
use Rattle.draft_rules.specs.Laws.{Admissible}
use Rattle.conditions.specs.Kinds.{NoEntry, Adds, Takes}

abbrev pub DroppingAnEdgeIsJudgedRightly : Type 0
DroppingAnEdgeIsJudgedRightly =
    (S : SchemaParts) (e : Edge) (es : List Entry) → Admitted S → Admissible S (DropEdge e) → Takes S (DropEdge e) es

abbrev pub ADeleteIsJudgedRightly : Type 0
ADeleteIsJudgedRightly =
    (S : SchemaParts) (a : ℕ) (es : List Entry) → Admitted S → Admissible S (Delete a) → Takes S (Delete a) es

abbrev pub AnInsertIsJudgedRightly : Type 0
AnInsertIsJudgedRightly =
    (S : SchemaParts) (a g : ℕ) (es : List Entry) → Admitted S → Admissible S (Insert a g) → NoEntry a es → Adds S (Insert a g) es

abbrev pub AnInsertBesideIsJudgedRightly : Type 0
AnInsertBesideIsJudgedRightly =
    (S : SchemaParts) (a b c : ℕ) (es : List Entry) → Admitted S → Admissible S (InsertBeside a b c) → NoEntry a es
    → Adds S (InsertBeside a b c) es
