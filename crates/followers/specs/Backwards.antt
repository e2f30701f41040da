-- How followers are computed from the row's end on, with a stack of the AND and XOR blocks around the gap. Assumes nothing.
--   step x p       the gap before element x, from the gap behind it
--   passed xs      the gap before these elements, the last of the row
--   followers xs   its followers
-- `FollowersAt` (Followers) says what these mean for the row's tree.
use Rattle.std.specs.Prelude.{List, [], ◌∷◌, Some, None, Option}
use Rattle.ids.specs.declared.IdSet.{IdSet}
use Rattle.ids.specs.Sets.{empty, only, union}
use Rattle.stack.specs.declared.moves.Move.{Move}
use Rattle.stack.specs.declared.moves.Move.TheVariants.{Stay, Open, Turn, Close}
use Rattle.stack.specs.Items.{head}
use Rattle.stack.specs.Moves.{reached, followed}
use Rattle.model.specs.declared.Element.{Element}
use Rattle.model.specs.declared.Element.TheVariants.{Activity, AndSplit, Bar, AndJoin, XorSplit, XorJoin, LoopStart, LoopEnd}
use Rattle.followers.specs.declared.blocks.Block.{Block}

abbrev pub block : IdSet → IdSet → Block
block a h = record { after = a; heads = h }

-- Before a join, in the last branch, the followers are those behind it.
abbrev pub at_join : IdSet → Move IdSet Block
at_join s = Open s (block s empty)

-- A bar stands before the first gap of a branch and ends the branch before it; an AND split stands before that of its first
-- branch. Either does nothing where no block is open.
abbrev pub at_bar : IdSet → Option Block → Move IdSet Block
at_bar s None = Stay s
at_bar s (Some b) = Turn b.after (block b.after (union s b.heads))

abbrev pub at_and_split : IdSet → Option Block → Move IdSet Block
at_and_split s None = Stay s
at_and_split s (Some b) = Close (union s b.heads)

-- What an element does to the followers of the gap behind it, within the innermost block there. Read from the row's end,
-- a join opens a block and a split closes it.
abbrev pub moves : Element → IdSet → Option Block → Move IdSet Block
moves (Activity i) s top = Stay (only i)
moves AndSplit s top = at_and_split s top
moves Bar s top = at_bar s top
moves AndJoin s top = at_join s
moves (XorSplit i) s top = Close (only i)
moves XorJoin s top = at_join s
moves LoopStart s top = Stay s
moves (LoopEnd i) s top = Stay (only i)

-- A gap: its followers, and the blocks around it, the innermost first.
pub record Gap : Type 0 where
  pub here : IdSet
  pub around : List Block

abbrev pub gap : IdSet → List Block → Gap
gap s bs = record { here = s; around = bs }

abbrev pub moved : Move IdSet Block → List Block → Gap
moved m bs = gap (reached m) (followed m bs)

abbrev pub step : Element → Gap → Gap
step x p = moved (moves x p.here (head p.around)) p.around

-- The row's end has no followers, and no block is around it.
abbrev pub passed : List Element → Gap
passed [] = gap empty []
passed (x ∷ xs) = step x (passed xs)

abbrev pub followers : List Element → IdSet
followers xs = (passed xs).here
