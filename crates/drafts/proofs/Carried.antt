-- The edges that stay are those after a change that adds none. Assumes nothing.
use Rattle.std.proofs.Common.{◌≡◌, true, List, [], ◌∷◌, refl, ap}
use Rattle.std.specs.List.{filter}
use Rattle.model.specs.declared.Edge.{Edge}
use Rattle.changes.specs.declared.Change.{Change}
use Rattle.changes.specs.declared.Change.TheVariants.{DropEdge, Delete, Insert, InsertBeside, AddEdge}
use Rattle.changes.specs.Effects.{edges_after}
use Rattle.drafts.specs.Carrying.{stays}

all_stay : (es : List Edge) → filter (λ e. true) es ≡ es
all_stay [] = refl
all_stay (e ∷ es) = ap (λ ds. e ∷ ds) (all_stay es)

pub none_added : (c : Change) (es : List Edge) → ((e : Edge) → c ≡ AddEdge e → ⊥) → filter (stays c) es ≡ edges_after c es
none_added (DropEdge e) es n = refl
none_added (Delete a) es n = refl
none_added (Insert a g) es n = all_stay es
none_added (InsertBeside a b c) es n = all_stay es
none_added (AddEdge e) es n = absurd (n e refl)
