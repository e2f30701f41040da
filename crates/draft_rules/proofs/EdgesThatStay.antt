-- Edges that passed pass again where fewer of them, one more, or fewer paths are left. Assumes nothing.
use Rattle.std.proofs.Common.{◌≡◌, ℕ, ◌+◌, Bool, true, false, cond, List, [], ◌∷◌, ◌++◌, Ok, sym, refl, subst, inl, inr}
use Rattle.std.proofs.lemmas.List.{append-nil, append_assoc}
use Rattle.std.specs.Prelude.{filter}
use Rattle.model.specs.declared.Edge.{Edge}
use Rattle.model.specs.Paths.{Listed, Path, by_order, by_edge, then_order, then_edge, Proper, Answer}
use Rattle.changes.specs.declared.Change.TheVariants.{AddEdge}
use Rattle.changes.proofs.Edges.{stay_or_added}

-- every edge of ds is one of es
abbrev pub Of : List Edge → List Edge → Type 0
Of ds es = (u v : ℕ) → Listed u v ds → Listed u v es

-- one more behind both
of_both : (ds es : List Edge) (e : Edge) → Of ds es → Of (ds ++ e ∷ []) (es ++ e ∷ [])
of_both ds es e s u v l = (stay_or_added (AddEdge e) es u v).1 (elim ((stay_or_added (AddEdge e) ds u v).0 l) [
  | inl k ↦ inl (s u v k.0, tt)
  | inr k ↦ inr k
])

-- one more behind the second
of_more : (ds es : List Edge) (e : Edge) → Of ds es → Of ds (es ++ e ∷ [])
of_more ds es e s u v l = (stay_or_added (AddEdge e) es u v).1 (inl (s u v l, tt))

-- paths over more
pub path_over : (Before After : ℕ → ℕ → Type 0) → ((u v : ℕ) → Before u v → After u v) → (ds es : List Edge) → Of ds es
    → (u v : ℕ) → Path Before ds u v → Path After es u v
path_over Before After f ds es s _ _ (by_order {u = u} {v = v} b) = by_order (f u v b)
path_over Before After f ds es s _ _ (by_edge {u = u} {v = v} l) = by_edge (s u v l)
path_over Before After f ds es s _ _ (then_order {u = u} {v = v} {w = w} b p) = then_order (f u v b) (path_over Before After f ds es s v w p)
path_over Before After f ds es s _ _ (then_edge {u = u} {v = v} {w = w} l p) = then_edge (s u v l) (path_over Before After f ds es s v w p)

-- the ends of all of them may be joined
abbrev pub AllJoin : (ℕ → ℕ → Type 0) → List Edge → Type 0
AllJoin Joins es = (u v : ℕ) → Listed u v es → Joins u v

more_join : (Joins : ℕ → ℕ → Type 0) (es : List Edge) (e : Edge) → AllJoin Joins es → Joins e.source e.target → AllJoin Joins (es ++ e ∷ [])
more_join Joins es e a j u v l = elim ((stay_or_added (AddEdge e) es u v).0 l) [
  | inl k ↦ a u v k.0
  | inr k ↦ subst (λ m. Joins m v) (sym k.0) (subst (Joins e.source) (sym k.1) j)
]

-- the ends of edges that passed
pub passed_join : (Joins Before : ℕ → ℕ → Type 0) (es earlier : List Edge) (p : ℕ) → Answer Joins Before earlier p es (Ok tt) → AllJoin Joins es
passed_join Joins Before [] earlier p a u v l = elim l [ ]
passed_join Joins Before (e ∷ es) earlier p (inl (ok, a)) u v (inl l) = subst (λ m. Joins m v) (sym l.0) (subst (Joins e.source) (sym l.1) ok.joins)
passed_join Joins Before (e ∷ es) earlier p (inl (ok, a)) u v (inr l) = passed_join Joins Before es (earlier ++ e ∷ []) (p + 1) a u v l
passed_join Joins Before (e ∷ es) earlier p (inr (bad, a)) u v l = absurd cc

module _ (Joins Joins' Before Before' : ℕ → ℕ → Type 0) (keep : Edge → Bool)
    (joins : (e : Edge) → keep e ≡ true → Joins e.source e.target → Joins' e.source e.target)
    (paths : (ds es : List Edge) → Of ds es → AllJoin Joins es → (u v : ℕ) → Joins v u → Path Before' ds u v → Path Before es u v) where
  -- those that are kept pass behind kept ones
  pub kept_pass : (es earlier ds : List Edge) (p q : ℕ) → Of ds earlier → AllJoin Joins earlier
      → Answer Joins Before earlier p es (Ok tt) → Answer Joins' Before' ds q (filter keep es) (Ok tt)
  kept_pass [] earlier ds p q s j a = refl
  kept_pass (e ∷ es) earlier ds p q s j (inr (bad, a)) = absurd cc
  kept_pass (e ∷ es) earlier ds p q s j (inl (ok, a)) =
      go (keep e) refl (λ (cs : List Edge) (n : ℕ) (t : Of cs (earlier ++ e ∷ [])). kept_pass es (earlier ++ e ∷ []) cs (p + 1) n t (more_join Joins earlier e j ok.joins) a)
    where
      go : (b : Bool) → keep e ≡ b
          → ((cs : List Edge) (n : ℕ) → Of cs (earlier ++ e ∷ []) → Answer Joins' Before' cs n (filter keep es) (Ok tt))
          → Answer Joins' Before' ds q (cond b (e ∷ filter keep es) (filter keep es)) (Ok tt)
      go true k f = inl (
        record {
          joins = joins e k ok.joins;
          fresh = λ l. ok.fresh (s e.source e.target l);
          open_path = λ r. ok.open_path (paths ds earlier s j e.target e.source ok.joins r);
        },
        f (ds ++ e ∷ []) (q + 1) (of_both ds earlier e s),
      )
      go false k f = f ds q (of_more ds earlier e s)

module _ (Joins Before : ℕ → ℕ → Type 0) where
  -- and one more that is proper passes behind them
  pub one_more_passes : (es earlier : List Edge) (p : ℕ) (e : Edge) → Proper Joins Before (earlier ++ es) e
      → Answer Joins Before earlier p es (Ok tt) → Answer Joins Before earlier p (es ++ e ∷ []) (Ok tt)
  one_more_passes [] earlier p e ok a = inl (subst (λ ds. Proper Joins Before ds e) (append-nil earlier) ok, refl)
  one_more_passes (d ∷ es) earlier p e ok (inl (good, a)) =
      inl (good, one_more_passes es (earlier ++ d ∷ []) (p + 1) e (subst (λ ds. Proper Joins Before ds e) (sym (append_assoc earlier (d ∷ []) es)) ok) a)
  one_more_passes (d ∷ es) earlier p e ok (inr (bad, a)) = absurd cc

-- A node that no edge touches can be taken out of every path that does not end there, where precedence is transitive.
module _ (After Before : ℕ → ℕ → Type 0) (a : ℕ) (trans : (u v w : ℕ) → After u v → After v w → After u w)
    (less : (u v : ℕ) → (u ≡ a → ⊥) → (v ≡ a → ⊥) → After u v → Before u v)
    (es : List Edge) (apart : (u v : ℕ) → Listed u v es → (u ≡ a → ⊥) × (v ≡ a → ⊥)) where
  path_around : (u v : ℕ) → (v ≡ a → ⊥) → Path After es u v
      → ((u ≡ a → ⊥) → Path Before es u v) × ((w : ℕ) → (w ≡ a → ⊥) → After w u → Path Before es w v)
  path_around _ _ n (by_order {u = u} {v = v} b) = (λ m. by_order (less u v m n b), λ w m c. by_order (less w v m n (trans w u v c b)))
  path_around _ _ n (by_edge {u = u} {v = v} l) = (λ m. by_edge l, λ w m c. then_order (less w u m (apart u v l).0 c) (by_edge l))
  path_around _ _ n (then_order {u = u} {v = v} {w = z} b p) =
      let r = path_around v z n p in
      (λ m. r.1 u m b, λ w m c. r.1 w m (trans w u v c b))
  path_around _ _ n (then_edge {u = u} {v = v} {w = z} l p) =
      let r = (path_around v z n p).0 (apart u v l).1 in
      (λ m. then_edge l r, λ w m c. then_order (less w u m (apart u v l).0 c) (then_edge l r))

  pub path_without : (u v : ℕ) → (u ≡ a → ⊥) → (v ≡ a → ⊥) → Path After es u v → Path Before es u v
  path_without u v m n p = (path_around u v n p).0 m
