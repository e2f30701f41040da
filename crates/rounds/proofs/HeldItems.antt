-- The nodes of an item are nodes of the tree that holds it. Assumes nothing.
use Rattle.std.proofs.Common.{◌≡◌, ℕ, ◌⊎◌, sym, subst, inl, inr}
use Rattle.model.specs.Trees.{Seq, nil, cons, Item, activity, loop, and, xor, Branches, last, bar}
use Rattle.model.specs.Nodes.{Holds, HoldsItem, HoldsBranches}
use Rattle.model.specs.Relations.{In, InItem, InBranches}
use Rattle.edges.proofs.TreeOrder.{Once, OnceItem, OnceBranches}

module _ (x : Item) (u : ℕ) (here : InItem x u) where
  mutual
    pub held : (t : Seq) → Holds t x → In t u
    held nil h = elim h [ ]
    held (cons y t) (inl (inl e)) = inl (subst (λ z. InItem z u) e here)
    held (cons y t) (inl (inr h)) = inl (held_item y h)
    held (cons y t) (inr h) = inr (held t h)

    pub held_item : (y : Item) → HoldsItem y x → InItem y u
    held_item (activity j) h = elim h [ ]
    held_item (loop t j) h = inl (held t h)
    held_item (and b) h = held_branches b h
    held_item (xor j b) h = inr (held_branches b h)

    pub held_branches : (b : Branches) → HoldsBranches b x → InBranches b u
    held_branches (last t) h = held t h
    held_branches (bar t b) (inl h) = inl (held t h)
    held_branches (bar t b) (inr h) = inr (held_branches b h)

  -- the item itself, or one in it
  pub held_at : (y : Item) → (x ≡ y) ⊎ HoldsItem y x → InItem y u
  held_at y (inl e) = subst (λ z. InItem z u) e here
  held_at y (inr h) = held_item y h

-- and its ids are used once
module _ (x : Item) where
  mutual
    pub held_once : (t : Seq) → Once t → Holds t x → OnceItem x
    held_once nil o h = elim h [ ]
    held_once (cons y t) o (inl (inl e)) = subst OnceItem (sym e) o.0
    held_once (cons y t) o (inl (inr h)) = held_once_item y o.0 h
    held_once (cons y t) o (inr h) = held_once t o.1 h

    held_once_item : (y : Item) → OnceItem y → HoldsItem y x → OnceItem x
    held_once_item (activity j) o h = elim h [ ]
    held_once_item (loop t j) o h = held_once t o.0 h
    held_once_item (and b) o h = held_once_branches b o h
    held_once_item (xor j b) o h = held_once_branches b o.0 h

    held_once_branches : (b : Branches) → OnceBranches b → HoldsBranches b x → OnceItem x
    held_once_branches (last t) o h = held_once t o h
    held_once_branches (bar t b) o (inl h) = held_once t o.0 h
    held_once_branches (bar t b) o (inr h) = held_once_branches b o.1 h
