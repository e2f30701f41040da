-- What the sets at the gap before a node say about that node. Assumes nothing.
use Rattle.std.proofs.Common.{◌≡◌, ℕ, Bool, true, false, ◌⊎◌, Decides, refl, subst, inl, inr, arith}
use Rattle.ids.specs.Sets.{has, union}
use Rattle.std.proofs.lemmas.Bool.Decides.{Decides-like}
use Rattle.model.specs.Trees.{Seq, nil, cons, Item, activity, loop, and, xor, Branches, last, bar}
use Rattle.edges.specs.declared.places.Spot.{Spot}
use Rattle.edges.specs.Places.{past_node, enter, enter_loop, turn}
use Rattle.model.specs.Relations.{In, InItem, InBranches, Beside, BesideItem, BesideBranches, Across, Level, LevelItem, LevelBranches}
use Rattle.edges.proofs.TreeOrder.{Before, BeforeItem, BeforeBranches, Once, OnceItem, OnceBranches}
use Rattle.edges.proofs.TreeGaps.{after, after_item, at, at_item, at_branches, acts, acts_item, acts_branches}
use Rattle.edges.proofs.GapMeanings.{has_union, Means, ◌∪◌, None, Turned, Small, enters, enters_loop, passes_node, turns, means, means_item}
use Rattle.edges.proofs.NodeRelations.{before_in, before_in_item, before_in_branches, beside_in, beside_in_item, beside_in_branches, across_in, Mate, MateItem, MateBranches, level_in, level_in_item, level_in_branches, mate_in, mate_in_item, mate_in_branches}

never : {X : Type 0} → false ≡ true → X
never e = absurd cc

module _ (v u : ℕ) where
  -- those ahead of it
  mutual
    pub sees : (t : Seq) (A S B M : ℕ → Type 0) (s : Spot) → Once t → Small (In t) → Means A S B M s → (h : In t v)
        → Decides (has (union (at v t h s).ahead (at v t h s).seen) u) ((A u ⊎ S u) ⊎ Before t u v)
    sees nil A S B M s o small m h = elim h [ ]
    sees (cons x t) A S B M s o small m (inl h) = Decides-like _ (λ a. grind arith) (λ a. grind (arith, o.2 v, before_in u v t)) (sees_item x A S B M s o.0 (λ k i. small k (inl i)) m h)
    sees (cons x t) A S B M s o small m (inr h) =
        Decides-like _ (λ a. grind arith) (λ a. grind (arith, o.2 v, before_in_item u v x))
        (sees t A (S ∪ InItem x) B (M ∪ LevelItem x) (after_item x s) o.1 (λ k i. small k (inr i)) (means_item x A S B M s (λ k i. small k (inl i)) m) h)

    sees_item : (x : Item) (A S B M : ℕ → Type 0) (s : Spot) → OnceItem x → Small (InItem x) → Means A S B M s → (h : InItem x v)
        → Decides (has (union (at_item v x h s).ahead (at_item v x h s).seen) u) ((A u ⊎ S u) ⊎ BeforeItem x u v)
    sees_item (activity i) A S B M s o small m h = Decides-like _ inl (λ a. grind arith) (has_union _ _ A S m.ahead m.seen u)
    sees_item (loop t i) A S B M s o small m (inl h) =
        let no : v ≡ i → ⊥ = λ e. o.1 (subst (In t) e h) in
        Decides-like _ (λ a. grind arith) (λ a. grind (arith, no)) (sees t A S B None (enter_loop s) o.0 (λ k i. small k (inl i)) (enters_loop A S B M s m) h)
    sees_item (loop t i) A S B M s o small m (inr e) =
        let n = means t A S B None (enter_loop s) (λ k i. small k (inl i)) (enters_loop A S B M s m) in
        let no : In t v → ⊥ = λ k. o.1 (subst (In t) e k) in
        Decides-like _ (λ a. grind arith) (λ a. grind (arith, no, before_in u v t)) (has_union _ _ A (S ∪ In t) n.ahead n.seen u)
    sees_item (and b) A S B M s o small m h = sees_branches true b (A ∪ S) B M (enter s) o small (enters A S B M s m) h
    sees_item (xor i b) A S B M s o small m (inl e) =
        let no : InBranches b v → ⊥ = λ k. o.1 (subst (InBranches b) e k) in
        Decides-like _ inl (λ a. grind (arith, no, before_in_branches u v b)) (has_union _ _ A S m.ahead m.seen u)
    sees_item (xor i b) A S B M s o small m (inr h) =
        let k = passes_node A S B M s i (small i (inl refl)) m in
        Decides-like _ (λ a. grind arith) (λ a. grind arith)
        (sees_branches false b (A ∪ (S ∪ (λ u. u ≡ i))) B M (enter (past_node i s)) o.0 (λ k i. small k (inr i)) (enters A (S ∪ (λ u. u ≡ i)) B M (past_node i s) k) h)

    sees_branches : (p : Bool) (b : Branches) (A B M : ℕ → Type 0) (s : Spot) → OnceBranches b → Small (InBranches b) → Means A None B M s → (h : InBranches b v)
        → Decides (has (union (at_branches v p b h s).ahead (at_branches v p b h s).seen) u) (A u ⊎ BeforeBranches b u v)
    sees_branches p (last t) A B M s o small m h = Decides-like _ (λ a. grind arith) (λ a. grind arith) (sees t A None B M s o small m h)
    sees_branches p (bar t b) A B M s o small m (inl h) = Decides-like _ (λ a. grind arith) (λ a. grind (arith, o.2 v, before_in_branches u v b)) (sees t A None B M s o.0 (λ k i. small k (inl i)) m h)
    sees_branches p (bar t b) A B M s o small m (inr h) =
        let n = means t A None B M s (λ k i. small k (inl i)) m in
        Decides-like _ (λ a. grind arith) (λ a. grind (arith, o.2 v, before_in u v t))
        (sees_branches p b A (Turned p B (None ∪ In t)) (M ∪ Level t) (turn p (after t s)) o.1 (λ k i. small k (inr i)) (turns p A (None ∪ In t) B (M ∪ Level t) (after t s) n) h)

  -- those beside it
  mutual
    pub sides : (t : Seq) (A S B M : ℕ → Type 0) (s : Spot) → Once t → Small (In t) → Means A S B M s → (h : In t v) → acts v t h ≡ true
        → Decides (has (at v t h s).beside u) (B u ⊎ Beside t u v)
    sides nil A S B M s o small m h k = elim h [ ]
    sides (cons x t) A S B M s o small m (inl h) k = Decides-like _ (λ a. grind arith) (λ a. grind (arith, o.2 v, beside_in u v t)) (sides_item x A S B M s o.0 (λ k i. small k (inl i)) m h k)
    sides (cons x t) A S B M s o small m (inr h) k =
        Decides-like _ (λ a. grind arith) (λ a. grind (arith, o.2 v, beside_in_item u v x))
        (sides t A (S ∪ InItem x) B (M ∪ LevelItem x) (after_item x s) o.1 (λ k i. small k (inr i)) (means_item x A S B M s (λ k i. small k (inl i)) m) h k)

    sides_item : (x : Item) (A S B M : ℕ → Type 0) (s : Spot) → OnceItem x → Small (InItem x) → Means A S B M s → (h : InItem x v) → acts_item v x h ≡ true
        → Decides (has (at_item v x h s).beside u) (B u ⊎ BesideItem x u v)
    sides_item (activity i) A S B M s o small m h k = Decides-like _ inl (λ a. grind arith) (m.beside u)
    sides_item (loop t i) A S B M s o small m (inl h) k = sides t A S B None (enter_loop s) o.0 (λ k i. small k (inl i)) (enters_loop A S B M s m) h k
    sides_item (loop t i) A S B M s o small m (inr e) k = never k
    sides_item (and b) A S B M s o small m h k = sides_and b (A ∪ S) B M (enter s) o small (enters A S B M s m) h k
    sides_item (xor i b) A S B M s o small m (inl e) k = never k
    sides_item (xor i b) A S B M s o small m (inr h) k =
        sides_xor b (A ∪ (S ∪ (λ u. u ≡ i))) B M (enter (past_node i s)) o.0 (λ k i. small k (inr i))
        (enters A (S ∪ (λ u. u ≡ i)) B M (past_node i s) (passes_node A S B M s i (small i (inl refl)) m)) h k

    sides_and : (b : Branches) (A B M : ℕ → Type 0) (s : Spot) → OnceBranches b → Small (InBranches b) → Means A None B M s → (h : InBranches b v) → acts_branches v b h ≡ true
        → Decides (has (at_branches v true b h s).beside u) (B u ⊎ (Across b u v ⊎ BesideBranches b u v))
    sides_and (last t) A B M s o small m h k = Decides-like _ (λ a. grind arith) (λ a. grind arith) (sides t A None B M s o small m h k)
    sides_and (bar t b) A B M s o small m (inl h) k = Decides-like _ (λ a. grind arith) (λ a. grind (arith, o.2 v, across_in u v b, beside_in_branches u v b)) (sides t A None B M s o.0 (λ k i. small k (inl i)) m h k)
    sides_and (bar t b) A B M s o small m (inr h) k =
        let n = means t A None B M s (λ k i. small k (inl i)) m in
        Decides-like _ (λ a. grind arith) (λ a. grind (arith, o.2 v, beside_in u v t))
        (sides_and b A (B ∪ (None ∪ In t)) (M ∪ Level t) (turn true (after t s)) o.1 (λ k i. small k (inr i)) (turns true A (None ∪ In t) B (M ∪ Level t) (after t s) n) h k)

    sides_xor : (b : Branches) (A B M : ℕ → Type 0) (s : Spot) → OnceBranches b → Small (InBranches b) → Means A None B M s → (h : InBranches b v) → acts_branches v b h ≡ true
        → Decides (has (at_branches v false b h s).beside u) (B u ⊎ BesideBranches b u v)
    sides_xor (last t) A B M s o small m h k = sides t A None B M s o small m h k
    sides_xor (bar t b) A B M s o small m (inl h) k = Decides-like _ (λ a. grind arith) (λ a. grind (arith, o.2 v, beside_in_branches u v b)) (sides t A None B M s o.0 (λ k i. small k (inl i)) m h k)
    sides_xor (bar t b) A B M s o small m (inr h) k =
        let n = means t A None B M s (λ k i. small k (inl i)) m in
        Decides-like _ (λ a. grind arith) (λ a. grind (arith, o.2 v, beside_in u v t))
        (sides_xor b A B (M ∪ Level t) (turn false (after t s)) o.1 (λ k i. small k (inr i)) (turns false A (None ∪ In t) B (M ∪ Level t) (after t s) n) h k)

  -- those with its innermost loop
  mutual
    pub mates : (t : Seq) (A S B M : ℕ → Type 0) (s : Spot) → Once t → Small (In t) → Means A S B M s → (h : In t v) → acts v t h ≡ true
        → Decides (has (at v t h s).mates u) ((M u × Level t v) ⊎ Mate t u v)
    mates nil A S B M s o small m h k = elim h [ ]
    mates (cons x t) A S B M s o small m (inl h) k = Decides-like _ (λ a. grind arith) (λ a. grind (arith, o.2 v, level_in v t, mate_in u v t)) (mates_item x A S B M s o.0 (λ k i. small k (inl i)) m h k)
    mates (cons x t) A S B M s o small m (inr h) k =
        Decides-like _ (λ a. grind arith) (λ a. grind (arith, o.2 v, level_in_item v x, mate_in_item u v x))
        (mates t A (S ∪ InItem x) B (M ∪ LevelItem x) (after_item x s) o.1 (λ k i. small k (inr i)) (means_item x A S B M s (λ k i. small k (inl i)) m) h k)

    mates_item : (x : Item) (A S B M : ℕ → Type 0) (s : Spot) → OnceItem x → Small (InItem x) → Means A S B M s → (h : InItem x v) → acts_item v x h ≡ true
        → Decides (has (at_item v x h s).mates u) ((M u × LevelItem x v) ⊎ MateItem x u v)
    mates_item (activity i) A S B M s o small m h k = Decides-like _ (λ a. inl (a, h)) (λ a. grind arith) (m.mates u)
    mates_item (loop t i) A S B M s o small m (inl h) k =
        Decides-like _ (λ a. grind arith) (λ a. grind arith) (mates t A S B None (enter_loop s) o.0 (λ k i. small k (inl i)) (enters_loop A S B M s m) h k)
    mates_item (loop t i) A S B M s o small m (inr e) k = never k
    mates_item (and b) A S B M s o small m h k = mates_branches true b (A ∪ S) B M (enter s) o small (enters A S B M s m) h k
    mates_item (xor i b) A S B M s o small m (inl e) k = never k
    mates_item (xor i b) A S B M s o small m (inr h) k =
        mates_branches false b (A ∪ (S ∪ (λ u. u ≡ i))) B M (enter (past_node i s)) o.0 (λ k i. small k (inr i))
        (enters A (S ∪ (λ u. u ≡ i)) B M (past_node i s) (passes_node A S B M s i (small i (inl refl)) m)) h k

    mates_branches : (p : Bool) (b : Branches) (A B M : ℕ → Type 0) (s : Spot) → OnceBranches b → Small (InBranches b) → Means A None B M s → (h : InBranches b v) → acts_branches v b h ≡ true
        → Decides (has (at_branches v p b h s).mates u) ((M u × LevelBranches b v) ⊎ MateBranches b u v)
    mates_branches p (last t) A B M s o small m h k = mates t A None B M s o small m h k
    mates_branches p (bar t b) A B M s o small m (inl h) k = Decides-like _ (λ a. grind arith) (λ a. grind (arith, o.2 v, level_in_branches v b, mate_in_branches u v b)) (mates t A None B M s o.0 (λ k i. small k (inl i)) m h k)
    mates_branches p (bar t b) A B M s o small m (inr h) k =
        let n = means t A None B M s (λ k i. small k (inl i)) m in
        Decides-like _ (λ a. grind arith) (λ a. grind (arith, o.2 v, level_in v t, mate_in u v t))
        (mates_branches p b A (Turned p B (None ∪ In t)) (M ∪ Level t) (turn p (after t s)) o.1 (λ k i. small k (inr i)) (turns p A (None ∪ In t) B (M ∪ Level t) (after t s) n) h k)
