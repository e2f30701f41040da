-- A row with distinct, low ids is the row of a tree with such ids. Assumes nothing.
use Rattle.std.proofs.Common.{ℕ, ◌⊎◌, List, [], ◌∷◌, refl, inl, inr, arith}
use Rattle.model.specs.declared.Element.{Element}
use Rattle.model.specs.declared.Element.TheVariants.{Bar, AndJoin, XorJoin, LoopEnd}
use Rattle.model.specs.Trees.{Seq, nil, cons, Item, activity, loop, and, xor, Branches, last, bar, spell, spell_item, spell_branches, flatten}
use Rattle.model.specs.Relations.{In, InItem, InBranches}
use Rattle.edges.proofs.TreeOrder.{Once, OnceItem, OnceBranches, Small}
use Rattle.model.specs.Rows.{Among, Unique, Low}

module _ (u : ℕ) where
  mutual
    pub among : (t : Seq) (ys : List Element) → In t u ⊎ Among ys u → Among (spell t ys) u
    among nil ys (inl h) = elim h [ ]
    among nil ys (inr h) = h
    among (cons x t) ys h = grind (arith, among_item x (spell t ys), among t ys)

    pub among_item : (x : Item) (ys : List Element) → InItem x u ⊎ Among ys u → Among (spell_item x ys) u
    among_item (activity i) ys h = grind arith
    among_item (loop t i) ys h = grind (arith, among t (LoopEnd i ∷ ys))
    among_item (and b) ys h = grind (arith, among_branches b (AndJoin ∷ ys))
    among_item (xor i b) ys h = grind (arith, among_branches b (XorJoin ∷ ys))

    pub among_branches : (b : Branches) (ys : List Element) → InBranches b u ⊎ Among ys u → Among (spell_branches b ys) u
    among_branches (last t) ys h = among t ys h
    among_branches (bar t b) ys h = grind (arith, among t (Bar ∷ spell_branches b ys), among_branches b ys)

  mutual
    pub found : (t : Seq) (ys : List Element) → Among (spell t ys) u → In t u ⊎ Among ys u
    found nil ys h = inr h
    found (cons x t) ys h = grind (arith, found_item x (spell t ys) h, found t ys)

    pub found_item : (x : Item) (ys : List Element) → Among (spell_item x ys) u → InItem x u ⊎ Among ys u
    found_item (activity i) ys h = h
    found_item (loop t i) ys h = grind (arith, found t (LoopEnd i ∷ ys))
    found_item (and b) ys h = grind (arith, found_branches b (AndJoin ∷ ys))
    found_item (xor i b) ys h = grind (arith, found_branches b (XorJoin ∷ ys))

    pub found_branches : (b : Branches) (ys : List Element) → Among (spell_branches b ys) u → InBranches b u ⊎ Among ys u
    found_branches (last t) ys h = found t ys h
    found_branches (bar t b) ys h = grind (arith, found t (Bar ∷ spell_branches b ys) h, found_branches b ys)

-- a part of a row and what comes after it
abbrev Parts : Type 0 → (ℕ → Type 0) → List Element → Type 0
Parts O P ys = O × Unique ys × ((u : ℕ) → P u → Among ys u → ⊥)

mutual
  once : (t : Seq) (ys : List Element) → Unique (spell t ys) → Parts (Once t) (In t) ys
  once nil ys q = (tt, q, λ u h k. h)
  once (cons x t) ys q =
      let a = once_item x (spell t ys) q in
      let b = once t ys a.1 in
      ((a.0, b.0, λ u h k. a.2 u h (among u t ys (inl k))), b.1, λ u h k. grind (arith, a.2 u, b.2 u, among u t ys))

  once_item : (x : Item) (ys : List Element) → Unique (spell_item x ys) → Parts (OnceItem x) (InItem x) ys
  once_item (activity i) ys q = (tt, q.1, q.0)
  once_item (loop t i) ys q =
      let a = once t (LoopEnd i ∷ ys) q.1 in
      ((a.0, λ h. a.2 i h (inl refl)), a.1.1, λ u h k. grind (arith, a.2 u, a.1.0 u))
  once_item (and b) ys q =
      let a = once_branches b (AndJoin ∷ ys) q.1 in
      (a.0, a.1.1, λ u h k. a.2 u h (inr k))
  once_item (xor i b) ys q =
      let a = once_branches b (XorJoin ∷ ys) q.1 in
      ((a.0, λ h. q.0 i refl (among_branches i b (XorJoin ∷ ys) (inl h))), a.1.1, λ u h k. grind (arith, a.2 u, q.0 u, among_branches u b (XorJoin ∷ ys)))

  once_branches : (b : Branches) (ys : List Element) → Unique (spell_branches b ys) → Parts (OnceBranches b) (InBranches b) ys
  once_branches (last t) ys q = once t ys q
  once_branches (bar t b) ys q =
      let a = once t (Bar ∷ spell_branches b ys) q in
      let c = once_branches b ys a.1.1 in
      ((a.0, c.0, λ u h k. a.2 u h (inr (among_branches u b ys (inl k)))), c.1, λ u h k. grind (arith, a.2 u, c.2 u, among_branches u b ys))

pub once_tree : (t : Seq) → Unique (flatten t) → Once t
once_tree t q = (once t [] q).0

pub small_tree : (t : Seq) → Low (flatten t) → Small t
small_tree t low u h = low u (among u t [] (inl h))
