-- Paths over precedence and sync edges, and the rule for a list of edges. Assumes nothing.
--   Path Before es u v      from u to v by precedence and edges
--   Proper .. earlier e     edge e may come behind the earlier ones
--   Answer .. es r          r is the right answer about the edges
--   Acyclic, Ranked         no path returns; some ranks rise along every path
-- Joins and Before are what may be joined, and precedence.
use Rattle.std.specs.Prelude.{◌≡◌, ℕ, ◌+◌, ◌<◌, ◌⊎◌, List, [], ◌∷◌, ◌++◌, Ok, Err, Result}
use Rattle.model.specs.declared.Edge.{Edge}

-- The edge leads from u to v.
abbrev pub Leads : ℕ → ℕ → Edge → Type 0
Leads u v e = (u ≡ e.source) × (v ≡ e.target)

-- An edge of the list does.
abbrev pub Listed : ℕ → ℕ → List Edge → Type 0
Listed u v [] = ⊥
Listed u v (e ∷ es) = Leads u v e ⊎ Listed u v es

-- One step or more, each by precedence or by an edge of the list.
pub data Path (Before : ℕ → ℕ → Type 0) (es : List Edge) : ℕ → ℕ → Type 0 where
  by_order : {u v : ℕ} → Before u v → Path Before es u v
  by_edge : {u v : ℕ} → Listed u v es → Path Before es u v
  then_order : {u v w : ℕ} → Before u v → Path Before es v w → Path Before es u w
  then_edge : {u v w : ℕ} → Listed u v es → Path Before es v w → Path Before es u w

-- Its ends may be joined, it is not listed, and no path leads back from its target to its source.
pub record Proper (Joins : ℕ → ℕ → Type 0) (Before : ℕ → ℕ → Type 0) (earlier : List Edge) (e : Edge) : Type 0 where
  pub joins : Joins e.source e.target
  pub fresh : Listed e.source e.target earlier → ⊥
  pub open_path : Path Before earlier e.target e.source → ⊥

-- The place and the source of the first edge that is not proper behind those before it; `Ok` if all are. The edges
-- stand from place p on, behind the earlier ones.
abbrev pub Answer : (ℕ → ℕ → Type 0) → (ℕ → ℕ → Type 0) → List Edge → ℕ → List Edge → Result (Unit {0}) (ℕ × ℕ) → Type 0
Answer Joins Before earlier p [] r = r ≡ Ok tt
Answer Joins Before earlier p (e ∷ es) r =
    (Proper Joins Before earlier e × Answer Joins Before (earlier ++ e ∷ []) (p + 1) es r)
    ⊎ ((Proper Joins Before earlier e → ⊥) × (r ≡ Err (p, e.source)))

-- No path leads from a node to itself.
abbrev pub Acyclic : (ℕ → ℕ → Type 0) → List Edge → Type 0
Acyclic Before es = (u : ℕ) → Path Before es u u → ⊥

-- The nodes have ranks, and every path leads to a higher one.
abbrev pub Ranked : (ℕ → ℕ → Type 0) → List Edge → Type 0
Ranked Before es = (rank : ℕ → ℕ) × ((u v : ℕ) → Path Before es u v → rank u < rank v)
