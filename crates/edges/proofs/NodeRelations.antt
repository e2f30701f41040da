-- What is related to something is a node; precedence is transitive, and no node precedes itself. Assumes nothing.
use Rattle.std.proofs.Common.{ℕ, ◌⊎◌, inl, inr, arith}
use Rattle.model.specs.Trees.{Seq, nil, cons, Item, activity, loop, and, xor, Branches, last, bar}
use Rattle.model.specs.Relations.{In, InItem, InBranches, Beside, BesideItem, BesideBranches, Across, Level, LevelItem, LevelBranches}
use Rattle.edges.proofs.TreeOrder.{Before, BeforeItem, BeforeBranches, Once, OnceItem, OnceBranches}

module _ (u v : ℕ) where
  mutual
    pub before_left : (t : Seq) → Before t u v → In t u
    before_left nil h = h
    before_left (cons x t) h = grind (arith, before_left_item x, before_left t)

    pub before_left_item : (x : Item) → BeforeItem x u v → InItem x u
    before_left_item (activity i) h = elim h [ ]
    before_left_item (loop t i) h = grind (arith, before_left t)
    before_left_item (and b) h = before_left_branches b h
    before_left_item (xor i b) h = grind (arith, before_left_branches b)

    pub before_left_branches : (b : Branches) → BeforeBranches b u v → InBranches b u
    before_left_branches (last t) h = before_left t h
    before_left_branches (bar t b) h = grind (arith, before_left t, before_left_branches b)

  mutual
    pub before_in : (t : Seq) → Before t u v → In t v
    before_in nil h = h
    before_in (cons x t) h = grind (arith, before_in_item x, before_in t)

    pub before_in_item : (x : Item) → BeforeItem x u v → InItem x v
    before_in_item (activity i) h = elim h [ ]
    before_in_item (loop t i) h = grind (arith, before_in t)
    before_in_item (and b) h = before_in_branches b h
    before_in_item (xor i b) h = grind (arith, before_in_branches b)

    pub before_in_branches : (b : Branches) → BeforeBranches b u v → InBranches b v
    before_in_branches (last t) h = before_in t h
    before_in_branches (bar t b) h = grind (arith, before_in t, before_in_branches b)

  mutual
    pub beside_in : (t : Seq) → Beside t u v → In t v
    beside_in nil h = h
    beside_in (cons x t) h = grind (arith, beside_in_item x, beside_in t)

    pub beside_in_item : (x : Item) → BesideItem x u v → InItem x v
    beside_in_item (activity i) h = elim h [ ]
    beside_in_item (loop t i) h = inl (beside_in t h)
    beside_in_item (and b) h = grind (arith, across_in b, beside_in_branches b)
    beside_in_item (xor i b) h = inr (beside_in_branches b h)

    pub beside_in_branches : (b : Branches) → BesideBranches b u v → InBranches b v
    beside_in_branches (last t) h = beside_in t h
    beside_in_branches (bar t b) h = grind (arith, beside_in t, beside_in_branches b)

    pub across_in : (b : Branches) → Across b u v → InBranches b v
    across_in (last t) h = elim h [ ]
    across_in (bar t b) h = grind (arith, across_in b)

-- u stands before v, with the same innermost loop of the tree or both in none
abbrev mutual
  pub Mate : Seq → ℕ → ℕ → Type 0
  Mate nil u v = ⊥
  Mate (cons x t) u v = MateItem x u v ⊎ ((LevelItem x u × Level t v) ⊎ Mate t u v)

  pub MateItem : Item → ℕ → ℕ → Type 0
  MateItem (activity i) u v = ⊥
  MateItem (loop t i) u v = Mate t u v
  MateItem (and b) u v = MateBranches b u v
  MateItem (xor i b) u v = MateBranches b u v

  pub MateBranches : Branches → ℕ → ℕ → Type 0
  MateBranches (last t) u v = Mate t u v
  MateBranches (bar t b) u v = Mate t u v ⊎ ((Level t u × LevelBranches b v) ⊎ MateBranches b u v)

module _ (v : ℕ) where
  mutual
    pub level_in : (t : Seq) → Level t v → In t v
    level_in nil h = h
    level_in (cons x t) h = grind (arith, level_in_item x, level_in t)

    pub level_in_item : (x : Item) → LevelItem x v → InItem x v
    level_in_item (activity i) h = h
    level_in_item (loop t i) h = elim h [ ]
    level_in_item (and b) h = level_in_branches b h
    level_in_item (xor i b) h = inr (level_in_branches b h)

    pub level_in_branches : (b : Branches) → LevelBranches b v → InBranches b v
    level_in_branches (last t) h = level_in t h
    level_in_branches (bar t b) h = grind (arith, level_in t, level_in_branches b)

module _ (u v : ℕ) where
  mutual
    pub mate_in : (t : Seq) → Mate t u v → In t v
    mate_in nil h = h
    mate_in (cons x t) h = grind (arith, mate_in_item x, level_in v t, mate_in t)

    pub mate_in_item : (x : Item) → MateItem x u v → InItem x v
    mate_in_item (activity i) h = elim h [ ]
    mate_in_item (loop t i) h = inl (mate_in t h)
    mate_in_item (and b) h = mate_in_branches b h
    mate_in_item (xor i b) h = inr (mate_in_branches b h)

    pub mate_in_branches : (b : Branches) → MateBranches b u v → InBranches b v
    mate_in_branches (last t) h = mate_in t h
    mate_in_branches (bar t b) h = grind (arith, mate_in t, level_in_branches v b, mate_in_branches b)

-- precedence is transitive
module _ (u v w : ℕ) where
  mutual
    pub transitive : (t : Seq) → Once t → Before t u v → Before t v w → Before t u w
    transitive nil o h k = elim h [ ]
    transitive (cons x t) o h k = grind (arith, transitive_item x o.0, before_left_item u v x, o.2 v, before_in_item u v x, before_left v w t, before_left_item v w x, before_in v w t, before_in u v t, transitive t o.1)

    transitive_item : (x : Item) → OnceItem x → BeforeItem x u v → BeforeItem x v w → BeforeItem x u w
    transitive_item (activity i) o h k = elim h [ ]
    transitive_item (loop t i) o h k = grind (arith, transitive t o.0, before_left u v t, o.1, before_left v w t)
    transitive_item (and b) o h k = transitive_branches b o h k
    transitive_item (xor i b) o h k = grind (arith, before_in_branches v w b, o.1, before_in_branches u v b, transitive_branches b o.0)

    transitive_branches : (b : Branches) → OnceBranches b → BeforeBranches b u v → BeforeBranches b v w → BeforeBranches b u w
    transitive_branches (last t) o h k = transitive t o h k
    transitive_branches (bar t b) o h k = grind (arith, transitive t o.0, o.2 v, before_in u v t, before_left_branches v w b, before_left v w t, before_in_branches u v b, transitive_branches b o.1)

-- and no node precedes itself
module _ (u : ℕ) where
  mutual
    pub irreflexive : (t : Seq) → Once t → Before t u u → ⊥
    irreflexive nil o h = h
    irreflexive (cons x t) o h = grind (arith, irreflexive_item x o.0, o.2 u, irreflexive t o.1)

    irreflexive_item : (x : Item) → OnceItem x → BeforeItem x u u → ⊥
    irreflexive_item (activity i) o h = h
    irreflexive_item (loop t i) o h = grind (arith, irreflexive t o.0, o.1)
    irreflexive_item (and b) o h = irreflexive_branches b o h
    irreflexive_item (xor i b) o h = grind (arith, o.1, irreflexive_branches b o.0)

    irreflexive_branches : (b : Branches) → OnceBranches b → BeforeBranches b u u → ⊥
    irreflexive_branches (last t) o h = irreflexive t o h
    irreflexive_branches (bar t b) o h = grind (arith, irreflexive t o.0, irreflexive_branches b o.1)

    pub beside_apart : (t : Seq) → Once t → Beside t u u → ⊥
    beside_apart nil o h = h
    beside_apart (cons x t) o h = grind (arith, beside_apart_item x o.0, beside_apart t o.1)

    beside_apart_item : (x : Item) → OnceItem x → BesideItem x u u → ⊥
    beside_apart_item (activity i) o h = h
    beside_apart_item (loop t i) o h = beside_apart t o.0 h
    beside_apart_item (and b) o h = grind (arith, across_apart b o, beside_apart_branches b o)
    beside_apart_item (xor i b) o h = beside_apart_branches b o.0 h

    beside_apart_branches : (b : Branches) → OnceBranches b → BesideBranches b u u → ⊥
    beside_apart_branches (last t) o h = beside_apart t o h
    beside_apart_branches (bar t b) o h = grind (arith, beside_apart t o.0, beside_apart_branches b o.1)

    across_apart : (b : Branches) → OnceBranches b → Across b u u → ⊥
    across_apart (last t) o h = h
    across_apart (bar t b) o h = grind (arith, o.2 u, across_apart b o.1)
