-- Which paths one edge more opens. Assumes nothing.
use Rattle.std.proofs.Common.{◌≡◌, ℕ, ◌⊎◌, List, [], ◌∷◌, ◌++◌, sym, refl, ◌∙◌, subst, inl, inr, ⊎_elim}
use Rattle.model.specs.declared.Edge.{Edge}
use Rattle.model.specs.Paths.{Leads, Listed, Path, by_order, by_edge, then_order, then_edge, Acyclic}

listed_last : (u v : ℕ) (es : List Edge) (e : Edge) → Listed u v (es ++ e ∷ []) → Listed u v es ⊎ Leads u v e
listed_last u v [] e (inl l) = inr l
listed_last u v [] e (inr l) = elim l [ ]
listed_last u v (d ∷ es) e (inl l) = inl (inl l)
listed_last u v (d ∷ es) e (inr l) = ⊎_elim (λ k. inl (inr k)) inr (listed_last u v es e l)

listed_more : (u v : ℕ) (es : List Edge) (e : Edge) → Listed u v es → Listed u v (es ++ e ∷ [])
listed_more u v [] e l = elim l [ ]
listed_more u v (d ∷ es) e (inl l) = inl l
listed_more u v (d ∷ es) e (inr l) = inr (listed_more u v es e l)

listed_new : (es : List Edge) (e : Edge) → Listed e.source e.target (es ++ e ∷ [])
listed_new [] e = inl (refl, refl)
listed_new (d ∷ es) e = inr (listed_new es e)

module _ (Before : ℕ → ℕ → Type 0) where
  pub joined_path : (es : List Edge) {u v w : ℕ} → Path Before es u v → Path Before es v w → Path Before es u w
  joined_path es (by_order b) q = then_order b q
  joined_path es (by_edge l) q = then_edge l q
  joined_path es (then_order b p) q = then_order b (joined_path es p q)
  joined_path es (then_edge l p) q = then_edge l (joined_path es p q)

  -- what one edge more lets one reach
  abbrev pub Through : List Edge → Edge → ℕ → ℕ → Type 0
  Through es e x y = Path Before es x y
      ⊎ (((x ≡ e.source) ⊎ Path Before es x e.source) × ((y ≡ e.target) ⊎ Path Before es e.target y))

  module _ (es : List Edge) (e : Edge) where
    kept_path : {x y : ℕ} → Path Before es x y → Path Before (es ++ e ∷ []) x y
    kept_path (by_order b) = by_order b
    kept_path (by_edge l) = by_edge (listed_more _ _ es e l)
    kept_path (then_order b p) = then_order b (kept_path p)
    kept_path (then_edge l p) = then_edge (listed_more _ _ es e l) (kept_path p)

    -- one old step in front
    front : {x z y : ℕ} → Path Before es x z → Through es e z y → Through es e x y
    front s (inl p) = inl (joined_path es s p)
    front {x} s (inr (inl q, t)) = inr (inr (subst (λ k. Path Before es x k) q s), t)
    front s (inr (inr q, t)) = inr (inr (joined_path es s q), t)

    -- the new edge in front
    front_new : {x z y : ℕ} → Leads x z e → Through es e z y → Through es e x y
    front_new {y = y} (a, b) (inl p) = inr (inl a, inr (subst (λ k. Path Before es k y) b p))
    front_new (a, b) (inr (q, t)) = inr (inl a, t)

    pub path_through : {x y : ℕ} → Path Before (es ++ e ∷ []) x y → Through es e x y
    path_through (by_order b) = inl (by_order b)
    path_through (by_edge l) = ⊎_elim (λ k. inl (by_edge k)) (λ (k : Leads _ _ e). inr (inl k.0, inl k.1)) (listed_last _ _ es e l)
    path_through (then_order b p) = front (by_order b) (path_through p)
    path_through (then_edge l p) = ⊎_elim (λ k. front (by_edge k) (path_through p)) (λ k. front_new k (path_through p)) (listed_last _ _ es e l)

    new_path : Path Before (es ++ e ∷ []) e.source e.target
    new_path = by_edge (listed_new es e)

    to_target : {x : ℕ} → (x ≡ e.source) ⊎ Path Before es x e.source → Path Before (es ++ e ∷ []) x e.target
    to_target (inl q) = subst (λ k. Path Before (es ++ e ∷ []) k e.target) (sym q) new_path
    to_target (inr p) = joined_path (es ++ e ∷ []) (kept_path p) new_path

    pub through_path : {x y : ℕ} → Through es e x y → Path Before (es ++ e ∷ []) x y
    through_path (inl p) = kept_path p
    through_path {x} (inr (s, inl q)) = subst (λ k. Path Before (es ++ e ∷ []) x k) (sym q) (to_target s)
    through_path (inr (s, inr p)) = joined_path (es ++ e ∷ []) (to_target s) (kept_path p)

    -- an edge that closes no cycle leaves none
    pub stays_acyclic : Acyclic Before es → (e.source ≡ e.target → ⊥) → (Path Before es e.target e.source → ⊥) → Acyclic Before (es ++ e ∷ [])
    stays_acyclic free apart shut u p = loops (path_through p)
      where
        loops : Through es e u u → ⊥
        loops (inl q) = free u q
        loops (inr (inl a, inl b)) = apart (sym a ∙ b)
        loops (inr (inl a, inr q)) = shut (subst (λ k. Path Before es e.target k) a q)
        loops (inr (inr q, inl b)) = shut (subst (λ k. Path Before es k e.source) b q)
        loops (inr (inr q, inr r)) = shut (joined_path es r q)
