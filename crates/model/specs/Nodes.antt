-- The items of a tree, and the steps that have their node in it. Assumes nothing.
--   Holds t x      item x stands in the tree, however deep
--   HasNode t e    the tree has the node that step e is of, and the branch of a choice
use Rattle.std.specs.Prelude.{◌≡◌, ◌<◌, ◌⊎◌}
use Rattle.model.specs.declared.Entry.{Entry}
use Rattle.model.specs.declared.Entry.TheVariants.{Start, End, Choose, Leave}
use Rattle.model.specs.Trees.{Seq, nil, cons, Item, activity, loop, and, xor, Branches, last, bar, count}

-- One of its items, or one in a block of them.
abbrev mutual
  pub Holds : Seq → Item → Type 0
  Holds nil x = ⊥
  Holds (cons y t) x = ((x ≡ y) ⊎ HoldsItem y x) ⊎ Holds t x

  pub HoldsItem : Item → Item → Type 0
  HoldsItem (activity i) x = ⊥
  HoldsItem (loop t i) x = Holds t x
  HoldsItem (and b) x = HoldsBranches b x
  HoldsItem (xor i b) x = HoldsBranches b x

  pub HoldsBranches : Branches → Item → Type 0
  HoldsBranches (last t) x = Holds t x
  HoldsBranches (bar t b) x = Holds t x ⊎ HoldsBranches b x

-- Activities are started and finished, decisions choose one of their branches, tests are left.
abbrev pub HasNode : Seq → Entry → Type 0
HasNode t (Start i) = Holds t (activity i)
HasNode t (End i) = Holds t (activity i)
HasNode t (Choose i n) = (b : Branches) × Holds t (xor i b) × (n < count b)
HasNode t (Leave i) = (u : Seq) × Holds t (loop u i)
