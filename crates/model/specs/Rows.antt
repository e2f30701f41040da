-- The nodes of a row, and which precede which. Assumes nothing.
--   Bears x u       element x is the node u
--   Among xs u      node u is in the row
--   Unique, Low     each id is used once; ids end at 63
--   Earlier xs u v  u stands earlier than v
--   Split t u v     some block holds u in an earlier branch than v
--   Precedes t u v  u precedes v
use Rattle.std.specs.Prelude.{◌≡◌, ℕ, ◌<◌, ◌⊎◌, List, [], ◌∷◌}
use Rattle.model.specs.declared.Element.{Element}
use Rattle.model.specs.declared.Element.TheVariants.{Activity, AndSplit, Bar, AndJoin, XorSplit, XorJoin, LoopStart, LoopEnd}
use Rattle.model.specs.Trees.{Seq, nil, cons, Item, activity, loop, and, xor, Branches, last, bar, flatten}
use Rattle.model.specs.Relations.{Across}

-- Activities, decisions and tests are nodes; other elements are none.
abbrev pub Bears : Element → ℕ → Type 0
Bears (Activity i) u = u ≡ i
Bears AndSplit u = ⊥
Bears Bar u = ⊥
Bears AndJoin u = ⊥
Bears (XorSplit i) u = u ≡ i
Bears XorJoin u = ⊥
Bears LoopStart u = ⊥
Bears (LoopEnd i) u = u ≡ i

-- Some element of the row is node u.
abbrev pub Among : List Element → ℕ → Type 0
Among [] u = ⊥
Among (x ∷ xs) u = Bears x u ⊎ Among xs u

-- Each id is used once.
abbrev pub Unique : List Element → Type 0
Unique [] = Unit {0}
Unique (x ∷ xs) = ((u : ℕ) → Bears x u → Among xs u → ⊥) × Unique xs

-- Ids end at 63.
abbrev pub Low : List Element → Type 0
Low xs = (u : ℕ) → Among xs u → u < 64

-- Some element that is u has one that is v behind it.
abbrev pub Earlier : List Element → ℕ → ℕ → Type 0
Earlier [] u v = ⊥
Earlier (x ∷ xs) u v = (Bears x u × Among xs v) ⊎ Earlier xs u v

-- Some AND or XOR block of the tree, however deep, holds u in an earlier branch than v.
abbrev mutual
  pub Split : Seq → ℕ → ℕ → Type 0
  Split nil u v = ⊥
  Split (cons x t) u v = SplitItem x u v ⊎ Split t u v

  pub SplitItem : Item → ℕ → ℕ → Type 0
  SplitItem (activity i) u v = ⊥
  SplitItem (loop t i) u v = Split t u v
  SplitItem (and b) u v = Across b u v ⊎ SplitBranches b u v
  SplitItem (xor i b) u v = Across b u v ⊎ SplitBranches b u v

  pub SplitBranches : Branches → ℕ → ℕ → Type 0
  SplitBranches (last t) u v = Split t u v
  SplitBranches (bar t b) u v = Split t u v ⊎ SplitBranches b u v

-- u stands earlier than v, and no block holds them in different branches.
abbrev pub Precedes : Seq → ℕ → ℕ → Type 0
Precedes t u v = Earlier (flatten t) u v × (Split t u v ⊎ Split t v u → ⊥)
