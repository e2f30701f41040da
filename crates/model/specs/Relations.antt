-- Which nodes of a tree a sync edge may join. Assumes nothing.
--   In t u           node u is in the tree
--   Beside t u v     an AND block holds u in an earlier branch than v
--   SameLoop t u v   activities with the same innermost loop, or in none
--   Joins t u v      a sync edge may lead between u and v
use Rattle.std.specs.Prelude.{◌≡◌, ℕ, ◌⊎◌}
use Rattle.model.specs.Trees.{Seq, nil, cons, Item, activity, loop, and, xor, Branches, last, bar}

-- An activity, a test or a decision of the tree, however deep.
abbrev mutual
  pub In : Seq → ℕ → Type 0
  In nil u = ⊥
  In (cons x t) u = InItem x u ⊎ In t u

  pub InItem : Item → ℕ → Type 0
  InItem (activity i) u = u ≡ i
  InItem (loop t i) u = In t u ⊎ (u ≡ i)
  InItem (and b) u = InBranches b u
  InItem (xor i b) u = (u ≡ i) ⊎ InBranches b u

  pub InBranches : Branches → ℕ → Type 0
  InBranches (last t) u = In t u
  InBranches (bar t b) u = In t u ⊎ InBranches b u

-- Some AND block of the tree holds u in an earlier branch than v.
abbrev mutual
  pub Beside : Seq → ℕ → ℕ → Type 0
  Beside nil u v = ⊥
  Beside (cons x t) u v = BesideItem x u v ⊎ Beside t u v

  pub BesideItem : Item → ℕ → ℕ → Type 0
  BesideItem (activity i) u v = ⊥
  BesideItem (loop t i) u v = Beside t u v
  BesideItem (and b) u v = Across b u v ⊎ BesideBranches b u v
  BesideItem (xor i b) u v = BesideBranches b u v

  pub BesideBranches : Branches → ℕ → ℕ → Type 0
  BesideBranches (last t) u v = Beside t u v
  BesideBranches (bar t b) u v = Beside t u v ⊎ BesideBranches b u v

  -- u stands in an earlier branch of these than v.
  pub Across : Branches → ℕ → ℕ → Type 0
  Across (last t) u v = ⊥
  Across (bar t b) u v = (In t u × InBranches b v) ⊎ Across b u v

-- u is an activity that no loop of the tree holds.
abbrev mutual
  pub Level : Seq → ℕ → Type 0
  Level nil u = ⊥
  Level (cons x t) u = LevelItem x u ⊎ Level t u

  pub LevelItem : Item → ℕ → Type 0
  LevelItem (activity i) u = u ≡ i
  LevelItem (loop t i) u = ⊥
  LevelItem (and b) u = LevelBranches b u
  LevelItem (xor i b) u = LevelBranches b u

  pub LevelBranches : Branches → ℕ → Type 0
  LevelBranches (last t) u = Level t u
  LevelBranches (bar t b) u = Level t u ⊎ LevelBranches b u

-- Some loop of the tree is the innermost around both activities u and v.
abbrev mutual
  pub Looped : Seq → ℕ → ℕ → Type 0
  Looped nil u v = ⊥
  Looped (cons x t) u v = LoopedItem x u v ⊎ Looped t u v

  pub LoopedItem : Item → ℕ → ℕ → Type 0
  LoopedItem (activity i) u v = ⊥
  LoopedItem (loop t i) u v = (Level t u × Level t v) ⊎ Looped t u v
  LoopedItem (and b) u v = LoopedBranches b u v
  LoopedItem (xor i b) u v = LoopedBranches b u v

  pub LoopedBranches : Branches → ℕ → ℕ → Type 0
  LoopedBranches (last t) u v = Looped t u v
  LoopedBranches (bar t b) u v = Looped t u v ⊎ LoopedBranches b u v

-- Activities with the same innermost loop, or both in none.
abbrev pub SameLoop : Seq → ℕ → ℕ → Type 0
SameLoop t u v = (Level t u × Level t v) ⊎ Looped t u v

-- A sync edge may lead between u and v.
abbrev pub Joins : Seq → ℕ → ℕ → Type 0
Joins t u v = (Beside t u v ⊎ Beside t v u) × SameLoop t u v
