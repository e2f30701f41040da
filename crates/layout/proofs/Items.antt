-- The items of a tree in its row. Assumes nothing.
use Rattle.std.proofs.Common.{◌≡◌, ◌⊎◌, List, [], ◌∷◌, ◌++◌, sym, refl, ap, ◌∙◌, subst, inl, inr, ⊎_elim}
use Rattle.std.proofs.lemmas.List.{append_assoc}
use Rattle.model.specs.declared.Element.{Element}
use Rattle.model.specs.declared.Element.TheVariants.{Activity, AndSplit, Bar, AndJoin, XorSplit, XorJoin, LoopStart, LoopEnd}
use Rattle.model.specs.Trees.{Seq, nil, cons, Item, activity, loop, and, xor, Branches, last, bar, spell, spell_item, spell_branches}
use Rattle.model.specs.Nodes.{Holds, HoldsItem, HoldsBranches}
use Rattle.layout.proofs.Facts.{spell_append, spell_append_item}

-- what an item spells stands in the row of a tree that holds it
pub record Spelt (xs : List Element) (x : Item) : Type 0 where
  pub before : List Element
  pub after : List Element
  pub parted : xs ≡ before ++ spell_item x after

behind : {x : Item} (y : List Element) (zs : List Element) → Spelt zs x → Spelt (y ++ zs) x
behind {x} y zs s = record {
  before = y ++ s.before;
  after = s.after;
  parted = ap (λ l. y ++ l) s.parted ∙ sym (append_assoc y s.before (spell_item x s.after));
}

mutual
  pub spelt : (t : Seq) (x : Item) (ys : List Element) → Holds t x → Spelt (spell t ys) x
  spelt nil x ys h = elim h [ ]
  spelt (cons y t) x ys (inl (inl same)) = record { before = []; after = spell t ys; parted = ap (λ z. spell_item z (spell t ys)) (sym same) }
  spelt (cons y t) x ys (inl (inr h)) = spelt_item y x (spell t ys) h
  spelt (cons y t) x ys (inr h) = subst (λ l. Spelt l x) (sym (spell_append_item y (spell t ys))) (behind (spell_item y []) (spell t ys) (spelt t x ys h))

  spelt_item : (y x : Item) (ys : List Element) → HoldsItem y x → Spelt (spell_item y ys) x
  spelt_item (activity i) x ys h = elim h [ ]
  spelt_item (loop t i) x ys h = behind (LoopStart ∷ []) (spell t (LoopEnd i ∷ ys)) (spelt t x (LoopEnd i ∷ ys) h)
  spelt_item (and b) x ys h = behind (AndSplit ∷ []) (spell_branches b (AndJoin ∷ ys)) (spelt_branches b x (AndJoin ∷ ys) h)
  spelt_item (xor i b) x ys h = behind (XorSplit i ∷ []) (spell_branches b (XorJoin ∷ ys)) (spelt_branches b x (XorJoin ∷ ys) h)

  spelt_branches : (b : Branches) (x : Item) (ys : List Element) → HoldsBranches b x → Spelt (spell_branches b ys) x
  spelt_branches (last t) x ys h = spelt t x ys h
  spelt_branches (bar t b) x ys (inl h) = spelt t x (Bar ∷ spell_branches b ys) h
  spelt_branches (bar t b) x ys (inr h) =
      subst (λ l. Spelt l x) (sym (spell_append t (Bar ∷ spell_branches b ys)))
      (behind (spell t []) (Bar ∷ spell_branches b ys) (behind (Bar ∷ []) (spell_branches b ys) (spelt_branches b x ys h)))

-- an element of a row
abbrev pub Member : Element → List Element → Type 0
Member x [] = ⊥
Member x (y ∷ ys) = (x ≡ y) ⊎ Member x ys

-- the element is the node of the item
abbrev pub NodeOf : Item → Element → Type 0
NodeOf (activity i) x = x ≡ Activity i
NodeOf (loop t i) x = x ≡ LoopEnd i
NodeOf (and b) x = ⊥
NodeOf (xor i b) x = x ≡ XorSplit i

-- the element is a node
abbrev pub Node : Element → Type 0
Node (Activity i) = Unit {0}
Node AndSplit = ⊥
Node Bar = ⊥
Node AndJoin = ⊥
Node (XorSplit i) = Unit {0}
Node XorJoin = ⊥
Node LoopStart = ⊥
Node (LoopEnd i) = Unit {0}

-- a node of a tree's row is that of an item which the tree holds
module _ (x : Element) (node : Node x) where
  pub record Found (H : Item → Type 0) : Type 0 where
    pub item : Item
    pub held : H item
    pub is : NodeOf item x

  within : {H K : Item → Type 0} → ((y : Item) → H y → K y) → Found H → Found K
  within f r = record { item = r.item; held = f r.item r.held; is = r.is }

  abbrev Itself : Item → Item → Type 0
  Itself y z = (z ≡ y) ⊎ HoldsItem y z

  -- past an element that is no node
  past : {P : Type 0} (y : Element) (ys : List Element) → (Node y → ⊥) → P ⊎ Member x (y ∷ ys) → P ⊎ Member x ys
  past y ys none (inl p) = inl p
  past y ys none (inr (inl e)) = absurd (none (subst Node e node))
  past y ys none (inr (inr m)) = inr m

  widen : {P Q R : Type 0} → (P → Q) → P ⊎ R → Q ⊎ R
  widen f (inl p) = inl (f p)
  widen f (inr r) = inr r

  mutual
    pub found : (t : Seq) (ys : List Element) → Member x (spell t ys) → Found (Holds t) ⊎ Member x ys
    found nil ys m = inr m
    found (cons y t) ys m =
        ⊎_elim (λ r. inl (within (λ z h. inl h) r)) (λ k. widen (within (λ z h. inr h)) (found t ys k)) (found_item y (spell t ys) m)

    found_item : (y : Item) (ys : List Element) → Member x (spell_item y ys) → Found (Itself y) ⊎ Member x ys
    found_item (activity i) ys (inl e) = inl (record { item = activity i; held = inl refl; is = e })
    found_item (activity i) ys (inr m) = inr m
    found_item (loop t i) ys (inl e) = absurd (let n : Node LoopStart = subst Node e node in n)
    found_item (loop t i) ys (inr m) = next (found t (LoopEnd i ∷ ys) m)
      where
        next : Found (Holds t) ⊎ Member x (LoopEnd i ∷ ys) → Found (Itself (loop t i)) ⊎ Member x ys
        next (inl r) = inl (within (λ z h. inr h) r)
        next (inr (inl e)) = inl (record { item = loop t i; held = inl refl; is = e })
        next (inr (inr m)) = inr m
    found_item (and b) ys (inl e) = absurd (let n : Node AndSplit = subst Node e node in n)
    found_item (and b) ys (inr m) = past AndJoin ys (λ n. n) (widen (within (λ z h. inr h)) (found_branches b (AndJoin ∷ ys) m))
    found_item (xor i b) ys (inl e) = inl (record { item = xor i b; held = inl refl; is = e })
    found_item (xor i b) ys (inr m) = past XorJoin ys (λ n. n) (widen (within (λ z h. inr h)) (found_branches b (XorJoin ∷ ys) m))

    found_branches : (b : Branches) (ys : List Element) → Member x (spell_branches b ys) → Found (HoldsBranches b) ⊎ Member x ys
    found_branches (last t) ys m = found t ys m
    found_branches (bar t b) ys m =
        ⊎_elim (λ r. inl (within (λ z h. inl h) r)) (λ k. widen (within (λ z h. inr h)) (found_branches b ys k))
        (past Bar (spell_branches b ys) (λ n. n) (found t (Bar ∷ spell_branches b ys) m))
