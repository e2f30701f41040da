-- The blocks of changed rows nest. Assumes nothing.
use Rattle.std.proofs.Common.{sym, refl, subst}
use Rattle.model.specs.Trees.{Seq, flatten, Wide, Nested}
use Rattle.changes.specs.declared.Change.{Change}
use Rattle.changes.specs.declared.Change.TheVariants.{DropEdge, Delete, Insert, InsertBeside, AddEdge}
use Rattle.changes.specs.Effects.{row_after}
use Rattle.changes.specs.Laws.{Gives, Suits, ChangedRowsNest}
use Rattle.changes.proofs.Inserts.{filled}
use Rattle.changes.proofs.Deletes.{taken_out}
use Rattle.changes.proofs.Wraps.{wrapped_up}
use Rattle.changes.proofs.Activities.{told}

from_tree : (c : Change) (t : Seq) (From : Seq → Type 0) → Gives c t From → Wide t → Nested (row_after c (flatten t))
from_tree c t From g w = (g.0, g.3 w, g.2)

of_tree : (c : Change) (t : Seq) → Suits c (flatten t) → Wide t → Nested (row_after c (flatten t))
of_tree (DropEdge e) t s w = (t, w, refl)
of_tree (Delete a) t s w = from_tree (Delete a) t _ (taken_out t a s.0 ((told t a).0 s.1)) w
of_tree (Insert a g) t s w = from_tree (Insert a g) t _ (filled t a g s) w
of_tree (InsertBeside a b c) t s w = from_tree (InsertBeside a b c) t _ (wrapped_up t a b c s.0 s.1 s.2) w
of_tree (AddEdge e) t s w = (t, w, refl)

pub nests : ChangedRowsNest
nests c xs s n =
    subst (λ ys. Nested (row_after c ys)) (sym n.2) (of_tree c n.0 (subst (Suits c) n.2 s) n.1)
