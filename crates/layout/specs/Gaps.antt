-- What stands around a gap of a row, and where a block ends. Assumes nothing.
use Rattle.std.specs.Prelude.{◌≡◌, ℕ, ◌+◌, ◌<◌, ◌≤◌, List, ◌∷◌, ◌++◌, length, Some, None, Option, slice_index_or}
use Rattle.model.specs.declared.Element.{Element}
use Rattle.model.specs.declared.Element.TheVariants.{Activity, AndSplit, Bar, AndJoin, XorSplit, XorJoin, LoopStart, LoopEnd}
use Rattle.model.specs.Trees.{Seq, Item, Branches, spell, spell_item, spell_branches, flatten, count}
use Rattle.layout.specs.declared.Position.{Position}
use Rattle.layout.specs.Pass.{position, outside}

-- An element that begins a block.
abbrev pub Begins : Element → Type 0
Begins (Activity i) = ⊥
Begins AndSplit = Unit {0}
Begins Bar = ⊥
Begins AndJoin = ⊥
Begins (XorSplit i) = Unit {0}
Begins XorJoin = ⊥
Begins LoopStart = Unit {0}
Begins (LoopEnd i) = ⊥

-- An element that closes a block.
abbrev pub Closes : Element → Type 0
Closes (Activity i) = ⊥
Closes AndSplit = ⊥
Closes Bar = ⊥
Closes AndJoin = Unit {0}
Closes (XorSplit i) = ⊥
Closes XorJoin = Unit {0}
Closes LoopStart = ⊥
Closes (LoopEnd i) = Unit {0}

-- From place n on the row is ys.
pub record Rest (xs : List Element) (n : ℕ) (ys : List Element) : Type 0 where
  pub before : List Element
  pub parted : xs ≡ before ++ ys
  pub at_place : length before ≡ n

-- The elements before the gap p are whole items.
pub record Whole (xs : List Element) (p : ℕ) : Type 0 where
  pub items : Seq
  pub after : List Element
  pub parted : xs ≡ spell items after
  pub at_place : p + length after ≡ length xs

-- A block begins at s, and from there to the gap p stand its branches so far, of which that numbered n is
-- the last: whole items, with bars between branches.
pub record Within (xs : List Element) (s p n : ℕ) : Type 0 where
  pub before : List Element
  pub opener : Element
  pub branches : Branches
  pub after : List Element
  pub begins : Begins opener
  pub parted : xs ≡ before ++ (opener ∷ spell_branches branches after)
  pub at_start : length before ≡ s
  pub at_place : p + length after ≡ length xs
  pub number : count branches ≡ n + 1

-- The innermost block around the gap p, if there is one.
abbrev pub Inside : List Element → ℕ → Position → Option ℕ → Type 0
Inside xs p h None = Whole xs p
Inside xs p h (Some s) = Within xs s p h.branch

-- The innermost loop in a block that begins with this element at s.
abbrev pub loop_from : Element → ℕ → Option ℕ → Option ℕ
loop_from (Activity i) s l = l
loop_from AndSplit s l = l
loop_from Bar s l = l
loop_from AndJoin s l = l
loop_from (XorSplit i) s l = l
loop_from XorJoin s l = l
loop_from LoopStart s l = Some s
loop_from (LoopEnd i) s l = l

-- The position of the gap from which on the row is ys, by the blocks around it: one block more than
-- around the element that begins the innermost.
pub data Gap (xs : List Element) : List Element → Position → Type 0 where
  free : {ys : List Element} (u : Seq) → xs ≡ spell u ys → Gap xs ys outside
  block : {ys : List Element} {o : Position} (x : Element) (b : Branches) (n s : ℕ)
      → Begins x → Rest xs s (x ∷ spell_branches b ys) → count b ≡ n + 1 → Gap xs (x ∷ spell_branches b ys) o
      → Gap xs ys (position (Some s) (loop_from x s o.loop_start) n (o.depth + 1))

-- The gap that tells where an element at p stands: that after a bar, that before any other.
abbrev pub gap_of : Element → ℕ → ℕ
gap_of (Activity i) p = p
gap_of AndSplit p = p
gap_of Bar p = p + 1
gap_of AndJoin p = p
gap_of (XorSplit i) p = p
gap_of XorJoin p = p
gap_of LoopStart p = p
gap_of (LoopEnd i) p = p

-- The element at p stands at this position; a bar begins no first branch.
pub record Stands (xs : List Element) (p : ℕ) (h : Position) : Type 0 where
  pub rest : List Element
  pub left : Rest xs (gap_of (slice_index_or xs p AndSplit) p) rest
  pub gap : Gap xs rest h
  pub inside : Inside xs (gap_of (slice_index_or xs p AndSplit) p) h h.block
  pub later : slice_index_or xs p AndSplit ≡ Bar → 0 < h.branch

-- The elements from s to e are one item.
pub record ItemAt (xs : List Element) (s e : ℕ) : Type 0 where
  pub before : List Element
  pub item : Item
  pub after : List Element
  pub parted : xs ≡ before ++ spell_item item after
  pub at_start : length before ≡ s
  pub at_end : e + 1 + length after ≡ length xs

-- The element at e closes the block that begins at s.
pub record Ends (xs : List Element) (s e : ℕ) : Type 0 where
  pub later : s < e
  pub below : e < length xs
  pub branch : ℕ
  pub within : Within xs s e branch
  pub closes : Closes (slice_index_or xs e Bar)
  pub item : ItemAt xs s e

-- The block that begins here, if there is one, ends.
abbrev pub Closed : List Element → Option ℕ → Type 0
Closed xs None = Unit {0}
Closed xs (Some s) = (e : ℕ) × Ends xs s e

-- The answer about place p: a position exactly within the row, and the block around it ends.
abbrev pub Positioned : List Element → ℕ → Option Position → Type 0
Positioned xs p None = length xs ≤ p
Positioned xs p (Some h) = (p < length xs) × Stands xs p h × Closed xs h.block

-- Each block ends; what begins none does not.
abbrev pub Ended : List Element → ℕ → Option ℕ → Type 0
Ended xs s None = s < length xs → Begins (slice_index_or xs s Bar) → ⊥
Ended xs s (Some e) = Ends xs s e

-- Of the row of a tree.
abbrev pub OfTree : List Element → Type 0 → Type 0
OfTree xs P = (t : Seq) → xs ≡ flatten t → P
