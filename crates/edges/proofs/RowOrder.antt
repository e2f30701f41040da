-- Precedence over trees is what the rules say: earlier in the row, and no block between. Assumes nothing.
use Rattle.std.proofs.Common.{ℕ, ◌⊎◌, List, [], ◌∷◌, inl, inr, ⊎_elim, arith}
use Rattle.model.specs.declared.Element.{Element}
use Rattle.model.specs.declared.Element.TheVariants.{Bar, AndJoin, XorJoin, LoopEnd}
use Rattle.model.specs.Trees.{Seq, nil, cons, Item, activity, loop, and, xor, Branches, last, bar, spell, spell_item, spell_branches}
use Rattle.model.specs.Relations.{In, InItem, InBranches, Across}
use Rattle.edges.proofs.TreeOrder.{Before, BeforeItem, BeforeBranches, Once, OnceItem, OnceBranches}
use Rattle.model.specs.Rows.{Among, Earlier, Split, SplitItem, SplitBranches, Precedes}
use Rattle.edges.proofs.NodeRelations.{before_in, before_in_branches, before_left, before_left_item, before_left_branches, across_in}
use Rattle.edges.proofs.SharedLoops.{across_left}
use Rattle.edges.proofs.RowIds.{among, among_branches, found, found_branches}

module _ (u v : ℕ) where
  mutual
    kept : (t : Seq) (ys : List Element) → Earlier ys u v → Earlier (spell t ys) u v
    kept nil ys h = h
    kept (cons x t) ys h = kept_item x (spell t ys) (kept t ys h)

    kept_item : (x : Item) (ys : List Element) → Earlier ys u v → Earlier (spell_item x ys) u v
    kept_item (activity i) ys h = inr h
    kept_item (loop t i) ys h = inr (kept t (LoopEnd i ∷ ys) (inr h))
    kept_item (and b) ys h = inr (kept_branches b (AndJoin ∷ ys) (inr h))
    kept_item (xor i b) ys h = inr (kept_branches b (XorJoin ∷ ys) (inr h))

    kept_branches : (b : Branches) (ys : List Element) → Earlier ys u v → Earlier (spell_branches b ys) u v
    kept_branches (last t) ys h = kept t ys h
    kept_branches (bar t b) ys h = kept t (Bar ∷ spell_branches b ys) (inr (kept_branches b ys h))

  mutual
    later : (t : Seq) (ys : List Element) → In t u → Among ys v → Earlier (spell t ys) u v
    later nil ys h k = elim h [ ]
    later (cons x t) ys h k = grind (arith, later_item x (spell t ys), among v t ys (inr k), kept_item x (spell t ys), later t ys)

    later_item : (x : Item) (ys : List Element) → InItem x u → Among ys v → Earlier (spell_item x ys) u v
    later_item (activity i) ys h k = inl (h, k)
    later_item (loop t i) ys h k = grind (arith, later t (LoopEnd i ∷ ys), kept t (LoopEnd i ∷ ys))
    later_item (and b) ys h k = inr (later_branches b (AndJoin ∷ ys) h (inr k))
    later_item (xor i b) ys h k = grind (arith, among_branches v b (XorJoin ∷ ys) (inr (inr k)), later_branches b (XorJoin ∷ ys))

    later_branches : (b : Branches) (ys : List Element) → InBranches b u → Among ys v → Earlier (spell_branches b ys) u v
    later_branches (last t) ys h k = later t ys h k
    later_branches (bar t b) ys h k = grind (arith, later t (Bar ∷ spell_branches b ys), among_branches v b ys (inr k), kept t (Bar ∷ spell_branches b ys), later_branches b ys)

  mutual
    before_earlier : (t : Seq) (ys : List Element) → Before t u v → Earlier (spell t ys) u v
    before_earlier nil ys h = elim h [ ]
    before_earlier (cons x t) ys h = grind (arith, before_earlier_item x (spell t ys), later_item x (spell t ys), among v t ys, kept_item x (spell t ys), before_earlier t ys)

    before_earlier_item : (x : Item) (ys : List Element) → BeforeItem x u v → Earlier (spell_item x ys) u v
    before_earlier_item (activity i) ys h = elim h [ ]
    before_earlier_item (loop t i) ys h = grind (arith, before_earlier t (LoopEnd i ∷ ys), later t (LoopEnd i ∷ ys))
    before_earlier_item (and b) ys h = inr (before_earlier_branches b (AndJoin ∷ ys) h)
    before_earlier_item (xor i b) ys h = grind (arith, among_branches v b (XorJoin ∷ ys), before_earlier_branches b (XorJoin ∷ ys))

    before_earlier_branches : (b : Branches) (ys : List Element) → BeforeBranches b u v → Earlier (spell_branches b ys) u v
    before_earlier_branches (last t) ys h = before_earlier t ys h
    before_earlier_branches (bar t b) ys h = grind (arith, before_earlier t (Bar ∷ spell_branches b ys), kept t (Bar ∷ spell_branches b ys), before_earlier_branches b ys)

  -- of two that stand one after the other, which part has which
  abbrev Rest : Type 0 → List Element → Type 0
  Rest I ys = (I × Among ys v) ⊎ Earlier ys u v

  mutual
    parted : (t : Seq) (ys : List Element) → Earlier (spell t ys) u v → (Before t u v ⊎ Split t u v) ⊎ Rest (In t u) ys
    parted nil ys h = inr (inr h)
    parted (cons x t) ys h = grind (arith, parted_item x (spell t ys) h, parted t ys, found v t ys)

    parted_item : (x : Item) (ys : List Element) → Earlier (spell_item x ys) u v → (BeforeItem x u v ⊎ SplitItem x u v) ⊎ Rest (InItem x u) ys
    parted_item (activity i) ys h = inr h
    parted_item (loop t i) ys h = grind (arith, parted t (LoopEnd i ∷ ys))
    parted_item (and b) ys h = grind (arith, parted_branches b (AndJoin ∷ ys))
    parted_item (xor i b) ys h = grind (arith, parted_branches b (XorJoin ∷ ys), found_branches v b (XorJoin ∷ ys))

    parted_branches : (b : Branches) (ys : List Element) → Earlier (spell_branches b ys) u v → (BeforeBranches b u v ⊎ (Across b u v ⊎ SplitBranches b u v)) ⊎ Rest (InBranches b u) ys
    parted_branches (last t) ys h = grind (arith, parted t ys h)
    parted_branches (bar t b) ys h = grind (arith, parted t (Bar ∷ spell_branches b ys) h, parted_branches b ys, found_branches v b ys)

  mutual
    split_left : (t : Seq) → Split t u v → In t u
    split_left nil h = h
    split_left (cons x t) h = grind (arith, split_left_item x, split_left t)

    split_left_item : (x : Item) → SplitItem x u v → InItem x u
    split_left_item (activity i) h = elim h [ ]
    split_left_item (loop t i) h = inl (split_left t h)
    split_left_item (and b) h = grind (arith, across_left u v b, split_left_branches b)
    split_left_item (xor i b) h = grind (arith, across_left u v b, split_left_branches b)

    split_left_branches : (b : Branches) → SplitBranches b u v → InBranches b u
    split_left_branches (last t) h = split_left t h
    split_left_branches (bar t b) h = grind (arith, split_left t, split_left_branches b)

  mutual
    split_in : (t : Seq) → Split t u v → In t v
    split_in nil h = h
    split_in (cons x t) h = grind (arith, split_in_item x, split_in t)

    split_in_item : (x : Item) → SplitItem x u v → InItem x v
    split_in_item (activity i) h = elim h [ ]
    split_in_item (loop t i) h = inl (split_in t h)
    split_in_item (and b) h = grind (arith, across_in u v b, split_in_branches b)
    split_in_item (xor i b) h = grind (arith, across_in u v b, split_in_branches b)

    split_in_branches : (b : Branches) → SplitBranches b u v → InBranches b v
    split_in_branches (last t) h = split_in t h
    split_in_branches (bar t b) h = grind (arith, split_in t, split_in_branches b)

module _ (u v : ℕ) where
  mutual
    ahead : (t : Seq) → Once t → Before t u v → Split t u v → ⊥
    ahead nil o h s = h
    ahead (cons x t) o h k = grind (arith, ahead_item x o.0, o.2 u, before_left_item u v x, split_left u v t, o.2 v, split_in_item u v x, split_left_item u v x, before_left u v t, ahead t o.1)

    ahead_item : (x : Item) → OnceItem x → BeforeItem x u v → SplitItem x u v → ⊥
    ahead_item (activity i) o h s = h
    ahead_item (loop t i) o h s = grind (arith, ahead t o.0, o.1, split_in u v t s)
    ahead_item (and b) o h k = grind (arith, ahead_across b o h, ahead_branches b o h)
    ahead_item (xor i b) o h k = grind (arith, o.1, across_left u v b, split_left_branches u v b, ahead_across b o.0, ahead_branches b o.0)

    ahead_branches : (b : Branches) → OnceBranches b → BeforeBranches b u v → SplitBranches b u v → ⊥
    ahead_branches (last t) o h s = ahead t o h s
    ahead_branches (bar t b) o h k = grind (arith, ahead t o.0, o.2 u, before_left u v t, split_left_branches u v b, split_left u v t, before_left_branches u v b, ahead_branches b o.1)

    ahead_across : (b : Branches) → OnceBranches b → BeforeBranches b u v → Across b u v → ⊥
    ahead_across (last t) o h s = s
    ahead_across (bar t b) o h k = grind (arith, o.2 v, before_in u v t, o.2 u, before_left u v t, across_left u v b, before_left_branches u v b, ahead_across b o.1)

  mutual
    aback : (t : Seq) → Once t → Before t u v → Split t v u → ⊥
    aback nil o h s = h
    aback (cons x t) o h k = grind (arith, aback_item x o.0, o.2 u, before_left_item u v x, split_in v u t, o.2 v, split_left_item v u x, split_in_item v u x, before_left u v t, aback t o.1)

    aback_item : (x : Item) → OnceItem x → BeforeItem x u v → SplitItem x v u → ⊥
    aback_item (activity i) o h s = h
    aback_item (loop t i) o h s = grind (arith, aback t o.0, o.1, split_left v u t s)
    aback_item (and b) o h k = grind (arith, aback_across b o h, aback_branches b o h)
    aback_item (xor i b) o h k = grind (arith, o.1, across_in v u b, split_in_branches v u b, aback_across b o.0, aback_branches b o.0)

    aback_branches : (b : Branches) → OnceBranches b → BeforeBranches b u v → SplitBranches b v u → ⊥
    aback_branches (last t) o h s = aback t o h s
    aback_branches (bar t b) o h k = grind (arith, aback t o.0, o.2 u, before_left u v t, split_in_branches v u b, split_in v u t, before_left_branches u v b, aback_branches b o.1)

    aback_across : (b : Branches) → OnceBranches b → BeforeBranches b u v → Across b v u → ⊥
    aback_across (last t) o h s = s
    aback_across (bar t b) o h k = grind (arith, o.2 u, before_left u v t, across_in v u b, o.2 v, before_in_branches u v b, aback_across b o.1)

  pub precedes : (t : Seq) → Once t → Before t u v → Precedes t u v
  precedes t o h = (before_earlier u v t [] h, ⊎_elim (ahead t o h) (aback t o h))

  pub before : (t : Seq) → Precedes t u v → Before t u v
  before t h = grind (arith, parted u v t [])
