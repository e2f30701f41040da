-- Which nodes and sync edges there are after a change. Assumes nothing.
--   Brings c u, Remains c u    change c brings in node u; it does not take it out
--   AddsEdge c u v, Stays c u v    the same of the edges from u to v
use Rattle.std.specs.Prelude.{◌≡◌, ℕ, ◌⊎◌, ◌↔◌, List}
use Rattle.model.specs.declared.Edge.{Edge}
use Rattle.model.specs.declared.Element.{Element}
use Rattle.model.specs.Paths.{Leads, Listed}
use Rattle.model.specs.Rows.{Among, Unique}
use Rattle.changes.specs.declared.Change.{Change}
use Rattle.changes.specs.declared.Change.TheVariants.{DropEdge, Delete, Insert, InsertBeside, AddEdge}
use Rattle.changes.specs.Effects.{row_after, edges_after}
use Rattle.changes.specs.Laws.{Suits}

-- The id of a new activity.
abbrev pub Brings : Change → ℕ → Type 0
Brings (DropEdge e) u = ⊥
Brings (Delete a) u = ⊥
Brings (Insert a g) u = u ≡ a
Brings (InsertBeside a b c) u = u ≡ a
Brings (AddEdge e) u = ⊥

-- Node u is not taken out.
abbrev pub Remains : Change → ℕ → Type 0
Remains (DropEdge e) u = Unit {0}
Remains (Delete a) u = u ≡ a → ⊥
Remains (Insert a g) u = Unit {0}
Remains (InsertBeside a b c) u = Unit {0}
Remains (AddEdge e) u = Unit {0}

-- The nodes after a change are those that remain and the new one.
abbrev pub NodesRemainOrAreNew : Type 0
NodesRemainOrAreNew =
    (c : Change) (xs : List Element) (u : ℕ) → Suits c xs
    → Among (row_after c xs) u ↔ ((Among xs u × Remains c u) ⊎ Brings c u)

-- Each id is used once again, if the new one was not used.
abbrev pub IdsStayUnique : Type 0
IdsStayUnique =
    (c : Change) (xs : List Element) → Suits c xs → ((u : ℕ) → Brings c u → Among xs u → ⊥)
    → Unique xs → Unique (row_after c xs)

-- The edges from u to v stay.
abbrev pub Stays : Change → ℕ → ℕ → Type 0
Stays (DropEdge e) u v = Leads u v e → ⊥
Stays (Delete a) u v = (u ≡ a) ⊎ (v ≡ a) → ⊥
Stays (Insert a g) u v = Unit {0}
Stays (InsertBeside a b c) u v = Unit {0}
Stays (AddEdge e) u v = Unit {0}

-- One is added.
abbrev pub AddsEdge : Change → ℕ → ℕ → Type 0
AddsEdge (DropEdge e) u v = ⊥
AddsEdge (Delete a) u v = ⊥
AddsEdge (Insert a g) u v = ⊥
AddsEdge (InsertBeside a b c) u v = ⊥
AddsEdge (AddEdge e) u v = Leads u v e

-- The edges after a change are those that stay and the one that it adds.
abbrev pub EdgesStayOrAreAdded : Type 0
EdgesStayOrAreAdded =
    (c : Change) (es : List Edge) (u v : ℕ)
    → Listed u v (edges_after c es) ↔ ((Listed u v es × Stays c u v) ⊎ AddsEdge c u v)
