-- Rows whose blocks nest are the rows of trees. Assumes nothing.
--   Seq, Item, Branches   a sequence, its items, and the branches of a block
--   flatten t             the row that a tree spells
--   Wide t                every AND and XOR block has 2 to 8 branches
--   Nested xs             xs is the row of such a tree
--   First xs p            p is the first place that nothing put after it could mend
use Rattle.std.specs.Prelude.{◌≡◌, ℕ, suc, ◌+◌, ◌<◌, ◌≤◌, List, [], ◌∷◌, ◌++◌, length, take, Ok, Err, Result}
use Rattle.model.specs.declared.Element.{Element}
use Rattle.model.specs.declared.Element.TheVariants.{Activity, AndSplit, Bar, AndJoin, XorSplit, XorJoin, LoopStart, LoopEnd}

mutual
  -- Items one after the other, or none.
  pub data Seq : Type 0 where
    nil : Seq
    cons : Item → Seq → Seq

  -- An activity; a loop with its body and the id of its test; an AND block; an XOR block with the id of its decision.
  pub data Item : Type 0 where
    activity : ℕ → Item
    loop : Seq → ℕ → Item
    and : Branches → Item
    xor : ℕ → Branches → Item

  -- The last branch, or one with a bar after it and the branches behind the bar.
  pub data Branches : Type 0 where
    last : Seq → Branches
    bar : Seq → Branches → Branches

-- The elements that a tree spells, followed by ys.
abbrev mutual
  pub spell : Seq → List Element → List Element
  spell nil ys = ys
  spell (cons x t) ys = spell_item x (spell t ys)

  pub spell_item : Item → List Element → List Element
  spell_item (activity i) ys = Activity i ∷ ys
  spell_item (loop t i) ys = LoopStart ∷ spell t (LoopEnd i ∷ ys)
  spell_item (and b) ys = AndSplit ∷ spell_branches b (AndJoin ∷ ys)
  spell_item (xor i b) ys = XorSplit i ∷ spell_branches b (XorJoin ∷ ys)

  pub spell_branches : Branches → List Element → List Element
  spell_branches (last t) ys = spell t ys
  spell_branches (bar t b) ys = spell t (Bar ∷ spell_branches b ys)

-- The row of a tree.
abbrev pub flatten : Seq → List Element
flatten t = spell t []

-- How many branches there are.
abbrev pub count : Branches → ℕ
count (last t) = 1
count (bar t b) = 1 + count b

-- A block may have so many branches.
abbrev pub Width : ℕ → Type 0
Width n = (2 ≤ n) × (n ≤ 8)

-- Every AND and XOR block of the tree, however deep, has a number of branches that it may have.
abbrev mutual
  pub Wide : Seq → Type 0
  Wide nil = Unit {0}
  Wide (cons x t) = WideItem x × Wide t

  pub WideItem : Item → Type 0
  WideItem (activity i) = Unit {0}
  WideItem (loop t i) = Wide t
  WideItem (and b) = Width (count b) × WideBranches b
  WideItem (xor i b) = Width (count b) × WideBranches b

  pub WideBranches : Branches → Type 0
  WideBranches (last t) = Wide t
  WideBranches (bar t b) = Wide t × WideBranches b

-- The blocks of the row nest.
abbrev pub Nested : List Element → Type 0
Nested xs = (t : Seq) × Wide t × (xs ≡ flatten t)

-- Something put behind these elements makes a row whose blocks nest.
abbrev pub Extends : List Element → Type 0
Extends xs = (ys : List Element) × Nested (xs ++ ys)

-- What stands before place p can be continued, and with the element at p it cannot; or p is the row's end,
-- and a block is still open.
pub record First (xs : List Element) (p : ℕ) : Type 0 where
  pub within : p ≤ length xs
  pub good : Extends (take p xs)
  pub bad : p < length xs → Extends (take (suc p) xs) → ⊥
  pub open_end : Nested xs → ⊥

-- The right answer about a row: it nests, or this is the first place that nothing mends.
abbrev pub Tells : List Element → Result (Unit {0}) ℕ → Type 0
Tells xs (Ok u) = Nested xs
Tells xs (Err p) = First xs p
