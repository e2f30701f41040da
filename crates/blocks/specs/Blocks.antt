-- How blocks are checked from left to right, with a stack of those that are open. Assumes nothing.
--   starts x        the item that an element begins
--   meets f x       what an element that begins none does to the innermost open block
--   fault s p xs    the place where the rest of a row is refused, if it is
-- `Tells` (model, Trees) says what this means for the row's tree.
use Rattle.std.specs.Prelude.{◌≡◌, ℕ, ◌+◌, ◌<◌, ◌≤◌, cond, List, [], ◌∷◌, length, drop, Some, None, Ok, Err, Option, Result, nat_lt}
use Rattle.model.specs.declared.Element.{Element}
use Rattle.model.specs.declared.Element.TheVariants.{Activity, AndSplit, Bar, AndJoin, XorSplit, XorJoin, LoopStart, LoopEnd}
use Rattle.blocks.specs.declared.Frame.{Frame}
use Rattle.blocks.specs.declared.Frame.TheVariants.{And, Xor, Loop}
use Rattle.blocks.specs.declared.Start.{Start}
use Rattle.blocks.specs.declared.Start.TheVariants.{Block}
use Rattle.blocks.specs.declared.Next.{Next}
use Rattle.blocks.specs.declared.Next.TheVariants.{Branch, Closed}

-- After seven bars the eighth branch is the last that a block may have.
abbrev pub meets_bar : Frame → Option Next
meets_bar (And k) = cond (nat_lt k 7) (Some (Branch (And (k + 1)))) None
meets_bar (Xor k) = cond (nat_lt k 7) (Some (Branch (Xor (k + 1)))) None
meets_bar Loop = None

-- A join closes a block of its own kind, once that has a second branch.
abbrev pub meets_and_join : Frame → Option Next
meets_and_join (And k) = cond (nat_lt 0 k) (Some Closed) None
meets_and_join (Xor k) = None
meets_and_join Loop = None

abbrev pub meets_xor_join : Frame → Option Next
meets_xor_join (And k) = None
meets_xor_join (Xor k) = cond (nat_lt 0 k) (Some Closed) None
meets_xor_join Loop = None

abbrev pub meets_loop_end : Frame → Option Next
meets_loop_end (And k) = None
meets_loop_end (Xor k) = None
meets_loop_end Loop = Some Closed

-- `None` where the block refuses the element. One that begins an item does nothing to the block.
abbrev pub meets : Frame → Element → Option Next
meets f (Activity i) = None
meets f AndSplit = None
meets f Bar = meets_bar f
meets f AndJoin = meets_and_join f
meets f (XorSplit i) = None
meets f XorJoin = meets_xor_join f
meets f LoopStart = None
meets f (LoopEnd i) = meets_loop_end f

-- The open blocks after that; `None` where it is refused.
abbrev pub moved : Option Next → List Frame → Option (List Frame)
moved (Some (Branch f)) s = Some (f ∷ s)
moved (Some Closed) s = Some s
moved None s = None

-- An element that begins no item, with these blocks open, the innermost first.
abbrev pub closes : Element → List Frame → Option (List Frame)
closes x [] = None
closes x (f ∷ s) = moved (meets f x) s

-- A split and a loop start begin a block, which has no bar yet; `None` where no item begins.
abbrev pub starts : Element → Option Start
starts (Activity i) = Some Start.Activity
starts AndSplit = Some (Block (And 0))
starts Bar = None
starts AndJoin = None
starts (XorSplit i) = Some (Block (Xor 0))
starts XorJoin = None
starts LoopStart = Some (Block Loop)
starts (LoopEnd i) = None

abbrev pub started : Option Start → Element → List Frame → Option (List Frame)
started (Some Start.Activity) x s = Some s
started (Some (Block f)) x s = Some (f ∷ s)
started None x s = closes x s

-- The blocks that are open after any element; `None` where it is refused.
abbrev pub opens : Element → List Frame → Option (List Frame)
opens x s = started (starts x) x s

-- A row may not end while a block is open.
abbrev pub at_end : List Frame → ℕ → Option ℕ
at_end [] p = None
at_end (f ∷ s) p = Some p

abbrev pub else_at : ℕ → Option (List Frame) → (List Frame → Option ℕ) → Option ℕ
else_at p None k = Some p
else_at p (Some s) k = k s

-- The rest xs of a row stands from place p on, and these blocks are open there.
abbrev pub fault : List Frame → ℕ → List Element → Option ℕ
fault s p [] = at_end s p
fault s p (x ∷ xs) = else_at p (opens x s) (λ t. fault t (p + 1) xs)

-- The answer of the check.
abbrev pub verdict : Option ℕ → Result (Unit {0}) ℕ
verdict None = Ok tt
verdict (Some p) = Err p

-- No item begins at the front of these elements.
abbrev pub Ends : List Element → Type 0
Ends [] = Unit {0}
Ends (x ∷ xs) = starts x ≡ None

-- From p to q stand whole items: whatever blocks are open around them, the rest decides.
abbrev pub Passes : List Element → ℕ → ℕ → Type 0
Passes xs p q = (s : List Frame) → fault s p (drop p xs) ≡ fault s q (drop q xs)

-- Whatever blocks are open at p, the row is refused at q.
abbrev pub Faults : List Element → ℕ → ℕ → Type 0
Faults xs p q = (s : List Frame) → fault s p (drop p xs) ≡ Some q

-- What reading a sequence from p on answers: the place where it ends, or the fault.
abbrev pub Sequence : List Element → ℕ → Result ℕ ℕ → Type 0
Sequence xs p (Ok q) = (p ≤ q) × (q ≤ length xs) × Ends (drop q xs) × Passes xs p q
Sequence xs p (Err q) = Faults xs p q

-- What reading an item at p answers: the place after it, that none begins there, or the fault.
abbrev pub Item : List Element → ℕ → Result (Option ℕ) ℕ → Type 0
Item xs p (Ok None) = Ends (drop p xs)
Item xs p (Ok (Some q)) = (p < q) × (q ≤ length xs) × Passes xs p q
Item xs p (Err q) = Faults xs p q
