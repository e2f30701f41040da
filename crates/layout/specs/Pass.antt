-- The tables of a layout, from left to right. Assumes nothing.
use Rattle.std.specs.Prelude.{◌≡◌, ℕ, ◌+◌, cond, List, [], ◌∷◌, length, replicate, Some, None, Option, nat_lt, slice_index_or, slice_set}
use Rattle.model.specs.declared.Element.{Element}
use Rattle.model.specs.declared.Element.TheVariants.{Activity, AndSplit, Bar, AndJoin, XorSplit, XorJoin, LoopStart, LoopEnd}
use Rattle.model.specs.Elements.{node_id}
use Rattle.stack.specs.declared.moves.Move.{Move}
use Rattle.stack.specs.declared.moves.Move.TheVariants.{Stay, Open, Turn, Close}
use Rattle.stack.specs.Items.{head}
use Rattle.stack.specs.Moves.{reached, blocks_after}
use Rattle.layout.specs.declared.Position.{Position}
use Rattle.layout.specs.declared.Layout.{Layout}

-- by its block, its loop, its branch and its depth
abbrev pub position : Option ℕ → Option ℕ → ℕ → ℕ → Position
position b l n d = record { block = b; loop_start = l; branch = n; depth = d }

-- outside every block
abbrev pub outside : Position
outside = position None None 0 0

-- at the head of the first branch of a block that begins at p
abbrev pub entered : ℕ → Position → Position
entered p o = position (Some p) o.loop_start 0 (o.depth + 1)

-- the same of a loop
abbrev pub entered_loop : ℕ → Position → Position
entered_loop p o = position (Some p) (Some p) 0 (o.depth + 1)

-- at the head of the next branch
abbrev pub turned : Position → Position
turned h = position h.block h.loop_start (h.branch + 1) h.depth

-- A bar turns to the next branch of the innermost block, if there is one. Of a block the position around it is kept.
abbrev pub at_bar : Position → Option Position → Move Position Position
at_bar h None = Stay h
at_bar h (Some o) = Turn (turned h) o

-- An end leaves the innermost block, if there is one.
abbrev pub at_end : Position → Option Position → Move Position Position
at_end h None = Stay h
at_end h (Some o) = Close o

-- What an element at place p does at a position, within the position around the innermost block.
abbrev pub moves : Element → ℕ → Position → Option Position → Move Position Position
moves (Activity i) p h o = Stay h
moves AndSplit p h o = Open (entered p h) h
moves Bar p h o = at_bar h o
moves AndJoin p h o = at_end h o
moves (XorSplit i) p h o = Open (entered p h) h
moves XorJoin p h o = at_end h o
moves LoopStart p h o = Open (entered_loop p h) h
moves (LoopEnd i) p h o = at_end h o

-- A gap: its position, and those around its blocks, the innermost first.
pub record State : Type 0 where
  pub here : Position
  pub outer : List Position

-- a gap by these
abbrev pub state : Position → List Position → State
state h os = record { here = h; outer = os }

-- The gap after a move.
abbrev pub moved : Move Position Position → List Position → State
moved m os = state (reached m) (blocks_after m os)

-- Before the row.
abbrev pub start : State
start = state outside []

-- A bar stands at the position after it, every other element at the one before it.
abbrev pub stand : Move Position Position → Position → Position
stand (Stay n) h = h
stand (Open n o) h = h
stand (Turn n o) h = n
stand (Close n) h = h

-- The block that a move ends.
abbrev pub ending : Move Position Position → Position → Option ℕ
ending (Stay n) h = None
ending (Open n o) h = None
ending (Turn n o) h = None
ending (Close n) h = h.block

-- A place, written under a key.
abbrev pub written : Option ℕ → ℕ → List (Option ℕ) → List (Option ℕ)
written None p table = table
written (Some k) p table = slice_set table k (Some p)

-- The places by id, the positions by place, and the ends by the place where a block begins.
pub record Tables : Type 0 where
  pub places : List (Option ℕ)
  pub positions : List Position
  pub ends : List (Option ℕ)

-- tables by these
abbrev pub tables : List (Option ℕ) → List Position → List (Option ℕ) → Tables
tables ps qs es = record { places = ps; positions = qs; ends = es }

-- The tables with an element at p more, that makes this move.
abbrev pub noted : Element → ℕ → Move Position Position → Position → Tables → Tables
noted x p m h t = tables (written (node_id x) p t.places) (slice_set t.positions p (stand m h)) (written (ending m h) p t.ends)

-- The move of an element at a gap.
abbrev pub move : Element → ℕ → State → Move Position Position
move x p s = moves x p s.here (head s.outer)

-- The gap after an element at p.
abbrev pub step : Element → ℕ → State → State
step x p s = moved (move x p s) s.outer

-- The tables after the elements from place p on.
abbrev pub read : ℕ → State → Tables → List Element → Tables
read p s t [] = t
read p s t (x ∷ xs) = read (p + 1) (step x p s) (noted x p (move x p s) s.here t) xs

-- Before the row nothing is noted.
abbrev pub no_tables : Tables
no_tables = tables (replicate 64 None) (replicate 128 outside) (replicate 128 None)

-- The tables of a row.
abbrev pub tables_of : List Element → Tables
tables_of xs = read 0 start no_tables xs

-- A layout is that of a row: its length and its tables.
pub record LayoutOf (xs : List Element) (l : Layout) : Type 0 where
  pub len : l.len ≡ length xs
  pub places : l.places ≡ (tables_of xs).places
  pub positions : l.positions ≡ (tables_of xs).positions
  pub ends : l.ends ≡ (tables_of xs).ends

-- The position at a place of the row.
abbrev pub position_at : Layout → ℕ → Option Position
position_at l p = cond (nat_lt p l.len) (Some (slice_index_or l.positions p outside)) None
