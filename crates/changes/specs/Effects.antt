-- What a change makes of a row and of a list of sync edges. Assumes nothing.
--   has_activity xs a    the row has activity a
--   stretch b c xs       the elements from gap b to gap c
--   row_after c xs       the row after change c
--   edges_after c es     the edges after it
-- Changed and Laws say what this means for the row's tree.
use Rattle.std.specs.Prelude.{ℕ, ◌-◌, Bool, false, not, ◌||◌, List, [], ◌∷◌, ◌++◌, take, drop, filter, insert, ◌==◌}
use Rattle.model.specs.declared.Edge.{Edge}
use Rattle.model.specs.declared.Element.{Element}
use Rattle.model.specs.declared.Element.TheVariants.{Activity, AndSplit, Bar, AndJoin, XorSplit, XorJoin, LoopStart, LoopEnd}
use Rattle.edges.specs.Edges.{same}
use Rattle.changes.specs.declared.Change.{Change}
use Rattle.changes.specs.declared.Change.TheVariants.{DropEdge, Delete, Insert, InsertBeside, AddEdge}

abbrev pub is_activity : Element → ℕ → Bool
is_activity (Activity i) a = a == i
is_activity AndSplit a = false
is_activity Bar a = false
is_activity AndJoin a = false
is_activity (XorSplit i) a = false
is_activity XorJoin a = false
is_activity LoopStart a = false
is_activity (LoopEnd i) a = false

abbrev pub has_activity : List Element → ℕ → Bool
has_activity [] a = false
has_activity (x ∷ xs) a = is_activity x a || has_activity xs a

-- The elements from gap b to gap c.
abbrev pub stretch : ℕ → ℕ → List Element → List Element
stretch b c xs = take (c - b) (drop b xs)

-- They become branch 0 of a new AND block, and activity a its branch 1.
abbrev pub wrapped : ℕ → ℕ → ℕ → List Element → List Element
wrapped a b c xs = take b xs ++ AndSplit ∷ (stretch b c xs ++ Bar ∷ Activity a ∷ AndJoin ∷ drop c xs)

abbrev pub row_after : Change → List Element → List Element
row_after (DropEdge e) xs = xs
row_after (Delete a) xs = filter (λ x. not (is_activity x a)) xs
row_after (Insert a g) xs = insert xs g (Activity a)
row_after (InsertBeside a b c) xs = wrapped a b c xs
row_after (AddEdge e) xs = xs

-- The edge leads from activity a or to it.
abbrev pub touches : ℕ → Edge → Bool
touches a e = (e.source == a) || (e.target == a)

abbrev pub edges_after : Change → List Edge → List Edge
edges_after (DropEdge e) es = filter (λ f. not (same f e)) es
edges_after (Delete a) es = filter (λ e. not (touches a e)) es
edges_after (Insert a g) es = es
edges_after (InsertBeside a b c) es = es
edges_after (AddEdge e) es = es ++ e ∷ []
