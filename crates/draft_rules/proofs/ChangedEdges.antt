-- The sync edges after a change pass on the tree after it. Assumes nothing.
use Rattle.std.proofs.Common.{◌≡◌, ℕ, Bool, true, not, ◌⊎◌, List, [], ◌∷◌, ◌++◌, Ok, refl, ap, subst, inl, inr}
use Rattle.std.proofs.lemmas.Bool.{not-true, or_parts, eqb-false}
use Rattle.std.specs.Prelude.{filter}
use Rattle.model.specs.declared.Edge.{Edge}
use Rattle.model.specs.Trees.{Seq}
use Rattle.model.specs.Relations.{In, Beside, SameLoop, Joins}
use Rattle.model.specs.Rows.{Precedes}
use Rattle.model.specs.Paths.{Listed, Path, Proper, Answer}
use Rattle.edges.proofs.TreeOrder.{Once}
use Rattle.edges.proofs.NodeRelations.{transitive, beside_in}
use Rattle.edges.proofs.SharedLoops.{beside_left}
use Rattle.edges.proofs.RowOrder.{precedes, before}
use Rattle.changes.specs.Effects.{touches}
use Rattle.draft_rules.proofs.RelationsKept.{Kept}
use Rattle.draft_rules.proofs.EdgesThatStay.{Of, AllJoin, path_over, path_without, kept_pass, one_more_passes}

-- The edges pass on the tree.
abbrev pub Pass : Seq → List Edge → Type 0
Pass t es = Answer (Joins t) (Precedes t) [] 0 es (Ok tt)

precedes_kept : (x y : ℕ) (t u : Seq) → Once u → Kept x y t u → Precedes t x y → Precedes u x y
precedes_kept x y t u o k h = precedes x y u o (k.before (before x y t h))

joins_kept : (x y : ℕ) (t u : Seq) → Kept x y t u → Kept y x t u → Joins t x y → Joins u x y
joins_kept x y t u k l (b, s) = (beside b, loops s)
  where
    beside : Beside t x y ⊎ Beside t y x → Beside u x y ⊎ Beside u y x
    beside (inl h) = inl (k.beside h)
    beside (inr h) = inr (l.beside h)

    loops : SameLoop t x y → SameLoop u x y
    loops (inl (h, i)) = inl (k.first_level h, k.second_level i)
    loops (inr h) = inr (k.looped h)

-- what is joined stands in the tree
pub joined_in : (x y : ℕ) (t : Seq) → Joins t x y → In t x × In t y
joined_in x y t (inl b, s) = (beside_left x y t b, beside_in x y t b)
joined_in x y t (inr b, s) = (beside_in y x t b, beside_left y x t b)

other_than : (a : ℕ) (t : Seq) → (In t a → ⊥) → (x : ℕ) → In t x → x ≡ a → ⊥
other_than a t n x h e = n (subst (In t) e h)

none_joins : (t : Seq) → AllJoin (Joins t) []
none_joins t u v l = elim l [ ]

-- an activity is put in: every edge stays
all_stay : (es : List Edge) → filter (λ _. true) es ≡ es
all_stay [] = refl
all_stay (e ∷ es) = ap (λ ds. e ∷ ds) (all_stay es)

module _ (t u : Seq) (a : ℕ) (once : Once u) (new : In t a → ⊥)
    (more : (x y : ℕ) → Kept x y t u) (less : (x y : ℕ) → (x ≡ a → ⊥) → (y ≡ a → ⊥) → Kept x y u t) (once_before : Once t) where
  pub put_in_pass : (es : List Edge) → Pass t es → Pass u es
  put_in_pass es p =
      subst (Pass u) (all_stay es)
      (kept_pass (Joins t) (Joins u) (Precedes t) (Precedes u) (λ _. true)
      (λ e k j. joins_kept e.source e.target t u (more e.source e.target) (more e.target e.source) j)
      paths es [] [] 0 0 (λ x y l. l) (none_joins t) p)
    where
      trans : (x y z : ℕ) → Precedes u x y → Precedes u y z → Precedes u x z
      trans x y z h k = precedes x z u once (transitive x y z u once (before x y u h) (before y z u k))

      apart : (es : List Edge) → AllJoin (Joins t) es → (x y : ℕ) → Listed x y es → (x ≡ a → ⊥) × (y ≡ a → ⊥)
      apart es j x y l = let i = joined_in x y t (j x y l) in (other_than a t new x i.0, other_than a t new y i.1)

      paths : (ds es : List Edge) → Of ds es → AllJoin (Joins t) es → (x y : ℕ) → Joins t y x → Path (Precedes u) ds x y → Path (Precedes t) es x y
      paths ds es s j x y k p =
          let i = joined_in y x t k in
          path_without (Precedes u) (Precedes t) a trans (λ v w m n h. precedes_kept v w u t once_before (less v w m n) h) es (apart es j)
          x y (other_than a t new x i.1) (other_than a t new y i.0)
          (path_over (Precedes u) (Precedes u) (λ v w h. h) ds es s x y p)

-- an activity is taken out, with the edges that touch it
untouched : (a : ℕ) (e : Edge) → not (touches a e) ≡ true → (e.source ≡ a → ⊥) × (e.target ≡ a → ⊥)
untouched a e h = let k = or_parts _ _ (not-true _ h) in (eqb-false e.source a k.0, eqb-false e.target a k.1)

module _ (t u : Seq) (a : ℕ) (once : Once t)
    (more : (x y : ℕ) → Kept x y u t) (less : (x y : ℕ) → (x ≡ a → ⊥) → (y ≡ a → ⊥) → Kept x y t u) where
  pub taken_out_pass : (es : List Edge) → Pass t es → Pass u (filter (λ e. not (touches a e)) es)
  taken_out_pass es p =
      kept_pass (Joins t) (Joins u) (Precedes t) (Precedes u) (λ e. not (touches a e))
      (λ e k j. let n = untouched a e k in joins_kept e.source e.target t u (less e.source e.target n.0 n.1) (less e.target e.source n.1 n.0) j)
      (λ ds es s j x y k q. path_over (Precedes u) (Precedes t) (λ v w h. precedes_kept v w u t once (more v w) h) ds es s x y q)
      es [] [] 0 0 (λ x y l. l) (none_joins t) p

-- some edges are taken out
pub fewer_pass : (t : Seq) (keep : Edge → Bool) (es : List Edge) → Pass t es → Pass t (filter keep es)
fewer_pass t keep es p =
    kept_pass (Joins t) (Joins t) (Precedes t) (Precedes t) keep (λ e k j. j)
    (λ ds es s j x y k q. path_over (Precedes t) (Precedes t) (λ v w h. h) ds es s x y q)
    es [] [] 0 0 (λ x y l. l) (none_joins t) p

-- one is added
pub one_more : (t : Seq) (es : List Edge) (e : Edge) → Proper (Joins t) (Precedes t) es e → Pass t es → Pass t (es ++ e ∷ [])
one_more t es e ok p = one_more_passes (Joins t) (Precedes t) es [] 0 e ok p
