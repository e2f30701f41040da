-- What the changes of a row mean for its tree. Assumes nothing.
--   Gives c t From    the row after change c is that of a tree that came from t so
--   Suits c xs        the row has what the change needs
use Rattle.std.specs.Prelude.{◌≡◌, ℕ, ◌<◌, ◌≤◌, ◌↔◌, true, List, length}
use Rattle.model.specs.declared.Element.{Element}
use Rattle.model.specs.Nodes.{Holds}
use Rattle.model.specs.Rows.{Unique}
use Rattle.model.specs.Trees.{Seq, activity, flatten, Wide, Nested}
use Rattle.changes.specs.declared.Change.{Change}
use Rattle.changes.specs.declared.Change.TheVariants.{DropEdge, Delete, Insert, InsertBeside, AddEdge}
use Rattle.changes.specs.Effects.{has_activity, stretch, row_after}
use Rattle.changes.specs.Changed.{Inserted, Removed, Wrapped}

-- The changed row is that of a tree which came from t in this way, and blocks have as many branches as they may have if
-- those of t do.
abbrev pub Gives : Change → Seq → (Seq → Type 0) → Type 0
Gives c t From = (u : Seq) × From u × (row_after c (flatten t) ≡ flatten u) × (Wide t → Wide u)

-- An activity can be put in at each gap of a row.
abbrev pub AnInsertFillsAGap : Type 0
AnInsertFillsAGap = (t : Seq) (a g : ℕ) → g ≤ length (flatten t) → Gives (Insert a g) t (Inserted a g t)

-- An activity that is there can be taken out.
abbrev pub ADeleteTakesOutItsActivity : Type 0
ADeleteTakesOutItsActivity = (t : Seq) (a : ℕ) → Unique (flatten t) → Holds t (activity a) → Gives (Delete a) t (Removed a t)

-- Whole items can be put beside an activity.
abbrev pub AnInsertBesideWrapsItems : Type 0
AnInsertBesideWrapsItems =
    (t : Seq) (a b c : ℕ) → b < c → c ≤ length (flatten t) → Nested (stretch b c (flatten t))
    → Gives (InsertBeside a b c) t (Wrapped a b c t)

-- The row tells which activities there are.
abbrev pub ActivitiesAreTold : Type 0
ActivitiesAreTold = (t : Seq) (a : ℕ) → (has_activity (flatten t) a ≡ true) ↔ Holds t (activity a)

-- What a row must have for a change.
abbrev pub Suits : Change → List Element → Type 0
Suits (DropEdge e) xs = Unit {0}
Suits (Delete a) xs = Unique xs × (has_activity xs a ≡ true)
Suits (Insert a g) xs = g ≤ length xs
Suits (InsertBeside a b c) xs = (b < c) × (c ≤ length xs) × Nested (stretch b c xs)
Suits (AddEdge e) xs = Unit {0}

-- So the blocks of the changed row nest as those of the row did.
abbrev pub ChangedRowsNest : Type 0
ChangedRowsNest = (c : Change) (xs : List Element) → Suits c xs → Nested xs → Nested (row_after c xs)
