-- What the check of a list of sync edges tells of a row's tree. Assumes nothing.
use Rattle.std.specs.Prelude.{◌≡◌, ℕ, ◌<◌, Bool, List, [], ◌∷◌, Ok, Err, Decides, Result}
use Rattle.model.specs.declared.Element.{Element}
use Rattle.model.specs.declared.Edge.{Edge}
use Rattle.model.specs.Trees.{Seq, flatten}
use Rattle.edges.specs.declared.order.Order.{Order}
use Rattle.edges.specs.Places.{befores, partners}
use Rattle.edges.specs.Edges.{judged, proper, closed}
use Rattle.model.specs.Relations.{Joins}
use Rattle.model.specs.Rows.{Unique, Low, Precedes}
use Rattle.model.specs.Paths.{Answer, Acyclic, Proper, Ranked}

-- The place of the first edge that breaks a rule, and its source.
abbrev pub edges_checked : Order → List Edge → Result (Unit {0}) (ℕ × ℕ)
edges_checked o es = judged o.partners o.before [] 0 es

abbrev pub edges_verdict : List Element → List Edge → Result (Unit {0}) (ℕ × ℕ)
edges_verdict xs es = judged (partners xs) (befores xs) [] 0 es

-- Of the tree of a row whose ids end at 63 and are used once.
abbrev pub OfTree : List Element → (Seq → Type 0) → Type 0
OfTree xs P = (t : Seq) → xs ≡ flatten t → Unique xs → Low xs → P t

-- u precedes v.
abbrev pub Ordered : List Element → ℕ → ℕ → Bool → Type 0
Ordered xs u v r = OfTree xs (λ t. Decides r (Precedes t u v))

-- The answer is that of the rules: it names the first edge that is not proper, if there is one.
abbrev pub Tells : List Element → List Edge → Result (Unit {0}) (ℕ × ℕ) → Type 0
Tells xs es r = OfTree xs (λ t. Answer (Joins t) (Precedes t) [] 0 es r)

-- Edges that passed close no cycle, and the nodes have ranks that precedence and edges raise.
abbrev pub Leaves : List Element → List Edge → Result (Unit {0}) (ℕ × ℕ) → Type 0
Leaves xs es (Ok u) = OfTree xs (λ t. Acyclic (Precedes t) es × Ranked (Precedes t) es)
Leaves xs es (Err e) = Unit {0}

-- Whether an edge may come after these.
abbrev pub edge_admitted : Order → List Edge → Edge → Bool
edge_admitted o es e = proper o.partners (closed o.before es) es e

abbrev pub edge_verdict : List Element → List Edge → Edge → Bool
edge_verdict xs es e = proper (partners xs) (closed (befores xs) es) es e

abbrev pub LowEdges : List Edge → Type 0
LowEdges [] = Unit {0}
LowEdges (e ∷ es) = (e.source < 64) × (e.target < 64) × LowEdges es

abbrev pub Judges : List Element → List Edge → Edge → Bool → Type 0
Judges xs es e r = OfTree xs (λ t. LowEdges es → Decides r (Proper (Joins t) (Precedes t) es e))
