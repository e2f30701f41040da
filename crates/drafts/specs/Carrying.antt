-- What is kept when a change is carried out. Assumes nothing.
use Rattle.std.specs.Prelude.{Bool, true, not}
use Rattle.edges.specs.Edges.{same}
use Rattle.model.specs.declared.Edge.{Edge}
use Rattle.changes.specs.declared.Change.{Change}
use Rattle.changes.specs.declared.Change.TheVariants.{DropEdge, Delete, Insert, InsertBeside, AddEdge}
use Rattle.changes.specs.Effects.{touches}

-- A listed edge stays after a change.
abbrev pub stays : Change → Edge → Bool
stays (DropEdge e) f = not (same f e)
stays (Delete a) f = not (touches a f)
stays (Insert a g) f = true
stays (InsertBeside a b c) f = true
stays (AddEdge e) f = true
