-- Two activities beside each other share their innermost loop exactly if the pass kept the one for the other. Assumes nothing.
use Rattle.std.proofs.Common.{◌≡◌, ℕ, true, ◌⊎◌, refl, inl, inr, arith}
use Rattle.std.proofs.lemmas.Bool.{cases_eq}
use Rattle.model.specs.Trees.{Seq, nil, cons, Item, activity, loop, and, xor, Branches, last, bar}
use Rattle.model.specs.Relations.{In, InItem, InBranches, Beside, BesideItem, BesideBranches, Across, Level, LevelItem, LevelBranches, Looped, LoopedItem, LoopedBranches, SameLoop}
use Rattle.edges.proofs.TreeOrder.{Once, OnceItem, OnceBranches}
use Rattle.edges.proofs.TreeGaps.{acts, acts_item, acts_branches}
use Rattle.edges.proofs.NodeRelations.{Mate, MateItem, MateBranches, beside_in, beside_in_item, beside_in_branches, across_in, level_in, level_in_item, level_in_branches, mate_in, mate_in_item, mate_in_branches}

abbrev SameItem : Item → ℕ → ℕ → Type 0
SameItem x u v = (LevelItem x u × LevelItem x v) ⊎ LoopedItem x u v

abbrev SameBranches : Branches → ℕ → ℕ → Type 0
SameBranches b u v = (LevelBranches b u × LevelBranches b v) ⊎ LoopedBranches b u v

module _ (u v : ℕ) where
  mutual
    pub mate_same : (t : Seq) → Mate t u v → SameLoop t u v
    mate_same nil h = elim h [ ]
    mate_same (cons x t) h = grind (arith, mate_same_item x, mate_same t)

    mate_same_item : (x : Item) → MateItem x u v → SameItem x u v
    mate_same_item (activity i) h = elim h [ ]
    mate_same_item (loop t i) h = inr (mate_same t h)
    mate_same_item (and b) h = mate_same_branches b h
    mate_same_item (xor i b) h = mate_same_branches b h

    mate_same_branches : (b : Branches) → MateBranches b u v → SameBranches b u v
    mate_same_branches (last t) h = mate_same t h
    mate_same_branches (bar t b) h = grind (arith, mate_same t, mate_same_branches b)

  mutual
    pub looped_turn : (t : Seq) → Looped t u v → Looped t v u
    looped_turn nil h = h
    looped_turn (cons x t) h = grind (arith, looped_turn_item x, looped_turn t)

    looped_turn_item : (x : Item) → LoopedItem x u v → LoopedItem x v u
    looped_turn_item (activity i) h = h
    looped_turn_item (loop t i) h = grind (arith, looped_turn t)
    looped_turn_item (and b) h = looped_turn_branches b h
    looped_turn_item (xor i b) h = looped_turn_branches b h

    looped_turn_branches : (b : Branches) → LoopedBranches b u v → LoopedBranches b v u
    looped_turn_branches (last t) h = looped_turn t h
    looped_turn_branches (bar t b) h = grind (arith, looped_turn t, looped_turn_branches b)

  pub same_turn : (t : Seq) → SameLoop t u v → SameLoop t v u
  same_turn t (inl (a, b)) = inl (b, a)
  same_turn t (inr h) = inr (looped_turn t h)

  mutual
    pub looped_in : (t : Seq) → Looped t u v → In t v
    looped_in nil h = h
    looped_in (cons x t) h = grind (arith, looped_in_item x, looped_in t)

    looped_in_item : (x : Item) → LoopedItem x u v → InItem x v
    looped_in_item (activity i) h = elim h [ ]
    looped_in_item (loop t i) h = grind (arith, level_in v t, looped_in t)
    looped_in_item (and b) h = looped_in_branches b h
    looped_in_item (xor i b) h = inr (looped_in_branches b h)

    looped_in_branches : (b : Branches) → LoopedBranches b u v → InBranches b v
    looped_in_branches (last t) h = looped_in t h
    looped_in_branches (bar t b) h = grind (arith, looped_in t, looped_in_branches b)

  mutual
    pub beside_left : (t : Seq) → Beside t u v → In t u
    beside_left nil h = h
    beside_left (cons x t) h = grind (arith, beside_left_item x, beside_left t)

    beside_left_item : (x : Item) → BesideItem x u v → InItem x u
    beside_left_item (activity i) h = elim h [ ]
    beside_left_item (loop t i) h = inl (beside_left t h)
    beside_left_item (and b) h = grind (arith, across_left b, beside_left_branches b)
    beside_left_item (xor i b) h = inr (beside_left_branches b h)

    beside_left_branches : (b : Branches) → BesideBranches b u v → InBranches b u
    beside_left_branches (last t) h = beside_left t h
    beside_left_branches (bar t b) h = grind (arith, beside_left t, beside_left_branches b)

    pub across_left : (b : Branches) → Across b u v → InBranches b u
    across_left (last t) h = elim h [ ]
    across_left (bar t b) h = grind (arith, across_left b)

module _ (u v : ℕ) where
  mutual
    pub same_mate : (t : Seq) → Once t → Beside t u v → SameLoop t u v → Mate t u v
    same_mate nil o h k = elim h [ ]
    same_mate (cons x t) o (inl h) k =
        inl (same_mate_item x o.0 h (grind (arith, o.2 u, o.2 v, beside_in_item u v x, beside_left_item u v x, level_in u t, level_in v t, looped_in u v t)))
    same_mate (cons x t) o (inr h) k =
        inr (inr (same_mate t o.1 h (grind (arith, o.2 u, o.2 v, beside_in u v t, beside_left u v t, level_in_item u x, level_in_item v x, looped_in_item u v x))))

    same_mate_item : (x : Item) → OnceItem x → BesideItem x u v → SameItem x u v → MateItem x u v
    same_mate_item (activity i) o h k = elim h [ ]
    same_mate_item (loop t i) o h k = grind (arith, same_mate t o.0 h)
    same_mate_item (and b) o h k = grind (arith, across_mate b o, same_mate_branches b o)
    same_mate_item (xor i b) o h k = same_mate_branches b o.0 h k

    same_mate_branches : (b : Branches) → OnceBranches b → BesideBranches b u v → SameBranches b u v → MateBranches b u v
    same_mate_branches (last t) o h k = same_mate t o h k
    same_mate_branches (bar t b) o (inl h) k =
        inl (same_mate t o.0 h (grind (arith, o.2 u, o.2 v, beside_in u v t, beside_left u v t, level_in_branches u b, level_in_branches v b, looped_in_branches u v b)))
    same_mate_branches (bar t b) o (inr h) k =
        inr (inr (same_mate_branches b o.1 h (grind (arith, o.2 u, o.2 v, beside_in_branches u v b, beside_left_branches u v b, level_in u t, level_in v t, looped_in u v t))))

    across_mate : (b : Branches) → OnceBranches b → Across b u v → SameBranches b u v → MateBranches b u v
    across_mate (last t) o h k = elim h [ ]
    across_mate (bar t b) o (inl h) k =
        grind (arith, o.2 u, o.2 v, level_in_branches u b, level_in v t, looped_in u v t, looped_turn_branches u v b, looped_in_branches v u b)
    across_mate (bar t b) o (inr h) k =
        inr (inr (across_mate b o.1 h (grind (arith, o.2 u, o.2 v, across_in u v b, across_left u v b, level_in u t, level_in v t, looped_in u v t))))

-- a node of a level is an activity, wherever it is found
module _ (v : ℕ) where
  mutual
    level_acts : (t : Seq) → Once t → Level t v → (h : In t v) → acts v t h ≡ true
    level_acts nil o l h = elim h [ ]
    level_acts (cons x t) o h k = grind (arith, level_acts_item x o.0, o.2 v, level_in_item v x, level_in v t, level_acts t o.1)

    level_acts_item : (x : Item) → OnceItem x → LevelItem x v → (h : InItem x v) → acts_item v x h ≡ true
    level_acts_item (activity i) o l h = refl
    level_acts_item (loop t i) o l h = elim l [ ]
    level_acts_item (and b) o l h = level_acts_branches b o l h
    level_acts_item (xor i b) o l h = grind (arith, o.1, level_in_branches v b l, level_acts_branches b o.0 l)

    level_acts_branches : (b : Branches) → OnceBranches b → LevelBranches b v → (h : InBranches b v) → acts_branches v b h ≡ true
    level_acts_branches (last t) o l h = level_acts t o l h
    level_acts_branches (bar t b) o h k = grind (arith, level_acts t o.0, o.2 v, level_in v t, level_in_branches v b, level_acts_branches b o.1)

  module _ (u : ℕ) where
    mutual
      pub mate_acts : (t : Seq) → Once t → Mate t u v → (h : In t v) → acts v t h ≡ true
      mate_acts nil o l h = elim h [ ]
      mate_acts (cons x t) o h k = grind (arith, mate_acts_item x o.0, o.2 v, mate_in_item u v x, level_in v t, level_acts t o.1, mate_in u v t, mate_acts t o.1)

      mate_acts_item : (x : Item) → OnceItem x → MateItem x u v → (h : InItem x v) → acts_item v x h ≡ true
      mate_acts_item (activity i) o l h = refl
      mate_acts_item (loop t i) o l h = grind (arith, mate_acts t o.0 l, o.1, mate_in u v t l)
      mate_acts_item (and b) o l h = mate_acts_branches b o l h
      mate_acts_item (xor i b) o l h = grind (arith, o.1, mate_in_branches u v b l, mate_acts_branches b o.0 l)

      mate_acts_branches : (b : Branches) → OnceBranches b → MateBranches b u v → (h : InBranches b v) → acts_branches v b h ≡ true
      mate_acts_branches (last t) o l h = mate_acts t o l h
      mate_acts_branches (bar t b) o h k = grind (arith, mate_acts t o.0, o.2 v, mate_in u v t, level_in_branches v b, level_acts_branches b o.1, mate_in_branches u v b, mate_acts_branches b o.1)

  either : {P Q : Type 0} → P ⊎ (P → ⊥) → Q ⊎ (Q → ⊥) → (P ⊎ Q) ⊎ (P ⊎ Q → ⊥)
  either (inl p) q = inl (inl p)
  either (inr p) (inl q) = inl (inr q)
  either (inr p) (inr q) = inr (λ h. grind (arith, p, q))

  mutual
    pub in? : (t : Seq) → In t v ⊎ (In t v → ⊥)
    in? nil = inr (λ h. h)
    in? (cons x t) = either (in_item? x) (in? t)

    in_item? : (x : Item) → InItem x v ⊎ (InItem x v → ⊥)
    in_item? (activity i) = cases_eq v i
    in_item? (loop t i) = either (in? t) (cases_eq v i)
    in_item? (and b) = in_branches? b
    in_item? (xor i b) = either (cases_eq v i) (in_branches? b)

    in_branches? : (b : Branches) → InBranches b v ⊎ (InBranches b v → ⊥)
    in_branches? (last t) = in? t
    in_branches? (bar t b) = either (in? t) (in_branches? b)
