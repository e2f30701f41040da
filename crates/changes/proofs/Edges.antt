-- The sync edges after a change. Assumes nothing.
use Rattle.std.proofs.Common.{◌≡◌, ℕ, ◌⊎◌, ◌↔◌, Bool, true, false, cond, not, List, [], ◌∷◌, ◌++◌, eqb, sym, refl, ◌∙◌, inl, inr, arith}
use Rattle.std.proofs.lemmas.Bool.{eqb-true, or_cases, false≢true}
use Rattle.std.specs.Prelude.{filter}
use Rattle.model.specs.declared.Edge.{Edge}
use Rattle.model.specs.Paths.{Leads, Listed}
use Rattle.changes.specs.declared.Change.TheVariants.{DropEdge, Delete, Insert, InsertBeside, AddEdge}
use Rattle.edges.specs.Edges.{same}
use Rattle.changes.specs.Effects.{touches}
use Rattle.changes.specs.Kept.{EdgesStayOrAreAdded}

module _ (u v : ℕ) (p : Edge → Bool) (S : Type 0) (tells : (e : Edge) → Leads u v e → (b : Bool) → p e ≡ b → (b ≡ true → S) × (S → b ≡ true)) where
  kept : (es : List Edge) → Listed u v (filter p es) → Listed u v es × S
  kept [] h = elim h [ ]
  kept (e ∷ es) h = go (p e) refl (kept es) h
    where
      go : (b : Bool) → p e ≡ b → (Listed u v (filter p es) → Listed u v es × S)
          → Listed u v (cond b (e ∷ filter p es) (filter p es)) → Listed u v (e ∷ es) × S
      go true k f (inl l) = (inl l, (tells e l true k).0 refl)
      go true k f (inr l) = (inr (f l).0, (f l).1)
      go false k f l = (inr (f l).0, (f l).1)

  keeps : S → (es : List Edge) → Listed u v es → Listed u v (filter p es)
  keeps s [] h = elim h [ ]
  keeps s (e ∷ es) h = go (p e) refl (keeps s es) h
    where
      go : (b : Bool) → p e ≡ b → (Listed u v es → Listed u v (filter p es))
          → Listed u v (e ∷ es) → Listed u v (cond b (e ∷ filter p es) (filter p es))
      go true k f (inl l) = inl l
      go true k f (inr l) = inr (f l)
      go false k f (inl l) = absurd (false≢true ((tells e l false k).1 s))
      go false k f (inr l) = f l

with_its_ends : (e f : Edge) (u v : ℕ) → Leads u v f → Leads u v e → same f e ≡ true
with_its_ends e f u v h k = let a : f.source ≡ e.source = sym h.0 ∙ k.0 in let b : f.target ≡ e.target = sym h.1 ∙ k.1 in grind (arith, a, b)

is_same : (e f : Edge) (u v : ℕ) → Leads u v f → same f e ≡ true → Leads u v e
is_same e f u v h k = (h.0 ∙ grind (arith, k), h.1 ∙ grind (arith, k))

-- an edge from u to v goes exactly if those are the ends of the dropped one, or one of them is the deleted activity
drops : (e : Edge) (u v : ℕ) (f : Edge) → Leads u v f → (b : Bool) → not (same f e) ≡ b → (b ≡ true → Leads u v e → ⊥) × ((Leads u v e → ⊥) → b ≡ true)
drops e u v f l true h = (λ _ k. grind (arith, with_its_ends e f u v l k, h), λ _. refl)
drops e u v f l false h = (λ k. absurd (false≢true k), λ k. absurd (k (is_same e f u v l (grind (arith, h)))))

deletes : (a u v : ℕ) (f : Edge) → Leads u v f → (b : Bool) → not (touches a f) ≡ b → (b ≡ true → (u ≡ a) ⊎ (v ≡ a) → ⊥) × (((u ≡ a) ⊎ (v ≡ a) → ⊥) → b ≡ true)
deletes a u v f l true h = (λ _ k. grind (arith, l.0, l.1, h, k), λ _. refl)
deletes a u v f l false h = (
  λ k. absurd (false≢true k),
  λ k. absurd (k (elim (or_cases (eqb f.source a) (eqb f.target a) (grind (arith, h))) [
    | inl m ↦ inl (l.0 ∙ eqb-true f.source a m)
    | inr m ↦ inr (l.1 ∙ eqb-true f.target a m)
  ])),
)

-- with one more at the end
more : (u v : ℕ) (e : Edge) (es : List Edge) → Listed u v (es ++ e ∷ []) → Listed u v es ⊎ Leads u v e
more u v e [] h = elim h [
  | inl k ↦ inr k
  | inr k ↦ absurd k
]
more u v e (f ∷ es) (inl h) = inl (inl h)
more u v e (f ∷ es) (inr h) = elim (more u v e es h) [
  | inl k ↦ inl (inr k)
  | inr k ↦ inr k
]

with_more : (u v : ℕ) (e : Edge) (es : List Edge) → Listed u v es ⊎ Leads u v e → Listed u v (es ++ e ∷ [])
with_more u v e [] h = elim h [
  | inl k ↦ absurd k
  | inr k ↦ inl k
]
with_more u v e (f ∷ es) (inl (inl h)) = inl h
with_more u v e (f ∷ es) (inl (inr h)) = inr (with_more u v e es (inl h))
with_more u v e (f ∷ es) (inr h) = inr (with_more u v e es (inr h))

staying : {A S : Type 0} {B : Type 0} → (A → B × S) → (B × S → A) → A ↔ ((B × S) ⊎ ⊥)
staying f g = (
  λ a. inl (f a),
  λ h. elim h [
    | inl k ↦ g k
    | inr k ↦ absurd k
  ],
)

pub stay_or_added : EdgesStayOrAreAdded
stay_or_added (DropEdge e) es u v =
    staying (kept u v _ (Leads u v e → ⊥) (drops e u v) es) (λ h. keeps u v _ (Leads u v e → ⊥) (drops e u v) h.1 es h.0)
stay_or_added (Delete a) es u v =
    staying (kept u v _ ((u ≡ a) ⊎ (v ≡ a) → ⊥) (deletes a u v) es) (λ h. keeps u v _ ((u ≡ a) ⊎ (v ≡ a) → ⊥) (deletes a u v) h.1 es h.0)
stay_or_added (Insert a g) es u v = staying (λ h. (h, tt)) (λ h. h.0)
stay_or_added (InsertBeside a b c) es u v = staying (λ h. (h, tt)) (λ h. h.0)
stay_or_added (AddEdge e) es u v = (
  λ h. elim (more u v e es h) [
    | inl k ↦ inl (k, tt)
    | inr k ↦ inr k
  ],
  λ h. with_more u v e es (elim h [
    | inl k ↦ inl k.0
    | inr k ↦ inr k
  ]),
)
