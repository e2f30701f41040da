-- What a pass from left to right gathers about the nodes of a row. Assumes nothing.
--   Spot            the sets of nodes that are kept at a gap
--   step x st       the gap behind element x, and the blocks open there
--   befores xs      for each id the nodes that precede it
--   partners xs     for each id the earlier activities that a sync edge may join it with
-- `Ordered`, `Tells` and `Judges` (Verdicts) say what these mean for the row's tree.
use Rattle.std.specs.Prelude.{◌≡◌, ℕ, Bool, true, false, cond, List, [], ◌∷◌, replicate, Some, None, Option, slice_set}
use Rattle.ids.specs.declared.IdSet.{IdSet}
use Rattle.ids.specs.Sets.{only, empty, union, intersection}
use Rattle.model.specs.declared.Element.{Element}
use Rattle.model.specs.declared.Element.TheVariants.{Activity, AndSplit, Bar, AndJoin, XorSplit, XorJoin, LoopStart, LoopEnd}
use Rattle.edges.specs.declared.order.Order.{Order}
use Rattle.edges.specs.declared.places.Spot.{Spot}
use Rattle.edges.specs.declared.places.Opened.{Opened}
use Rattle.stack.specs.declared.moves.Move.{Move}
use Rattle.stack.specs.declared.moves.Move.TheVariants.{Stay, Open, Turn, Close}
use Rattle.stack.specs.Items.{head}
use Rattle.stack.specs.Moves.{reached, blocks_after}

abbrev pub spot : IdSet → IdSet → IdSet → IdSet → Spot
spot a s b m = record { ahead = a; seen = s; beside = b; mates = m }

abbrev pub opened : Spot → IdSet → Bool → Opened
opened s g p = record { origin = s; gathered = g; parallel = p }

-- Past a decision or a test.
abbrev pub past_node : ℕ → Spot → Spot
past_node i s = spot s.ahead (union s.seen (only i)) s.beside s.mates

-- Past an activity, which later ones with the same innermost loop may be joined with.
abbrev pub past_activity : ℕ → Spot → Spot
past_activity i s = spot s.ahead (union s.seen (only i)) s.beside (union s.mates (only i))

-- At the head of a block's first branch.
abbrev pub enter : Spot → Spot
enter s = spot (union s.ahead s.seen) empty s.beside s.mates

-- In a loop no activity from outside has the same innermost loop.
abbrev pub enter_loop : Spot → Spot
enter_loop s = spot s.ahead s.seen s.beside empty

-- At the head of the next branch. In an AND block the branch before stands beside it.
abbrev pub turn : Bool → Spot → Spot
turn p s = spot s.ahead empty (cond p (union s.beside s.seen) s.beside) s.mates

-- Behind a join: all nodes of the block have been seen.
abbrev pub leave : Spot → IdSet → Spot → Spot
leave o g s = spot o.ahead (union o.seen (union g s.seen)) o.beside s.mates

-- Behind a loop end, with the activities of before the loop to be joined with again.
abbrev pub leave_loop : ℕ → Spot → Spot → Spot
leave_loop i o s = spot s.ahead (union s.seen (only i)) s.beside o.mates

-- Bars and ends with no block open do nothing.
abbrev pub at_bar : Spot → Option Opened → Move Spot Opened
at_bar s None = Stay s
at_bar s (Some o) = Turn (turn o.parallel s) (opened o.origin (union o.gathered s.seen) o.parallel)

abbrev pub at_join : Spot → Option Opened → Move Spot Opened
at_join s None = Stay s
at_join s (Some o) = Close (leave o.origin o.gathered s)

abbrev pub at_loop_end : ℕ → Spot → Option Opened → Move Spot Opened
at_loop_end i s None = Stay s
at_loop_end i s (Some o) = Close (leave_loop i o.origin s)

-- What an element does at a gap, within the innermost open block.
abbrev pub moves : Element → Spot → Option Opened → Move Spot Opened
moves (Activity i) s top = Stay (past_activity i s)
moves AndSplit s top = Open (enter s) (opened s empty true)
moves Bar s top = at_bar s top
moves AndJoin s top = at_join s top
moves (XorSplit i) s top = Open (enter (past_node i s)) (opened (past_node i s) empty false)
moves XorJoin s top = at_join s top
moves LoopStart s top = Open (enter_loop s) (opened s empty false)
moves (LoopEnd i) s top = at_loop_end i s top

-- A gap, with the blocks that are open there, the innermost first.
pub record State : Type 0 where
  pub here : Spot
  pub blocks : List Opened

abbrev pub state : Spot → List Opened → State
state s os = record { here = s; blocks = os }

abbrev pub moved : Move Spot Opened → List Opened → State
moved m os = state (reached m) (blocks_after m os)

abbrev pub step : Element → State → State
step x st = moved (moves x st.here (head st.blocks)) st.blocks

-- Before the row.
abbrev pub nowhere : Spot
nowhere = spot empty empty empty empty

abbrev pub start : State
start = state nowhere []

-- What is noted of a node, by whether it is an activity.
abbrev pub note : (Bool → Spot → IdSet) → Element → Spot → List IdSet → List IdSet
note f (Activity i) s sets = slice_set sets i (f true s)
note f AndSplit s sets = sets
note f Bar s sets = sets
note f AndJoin s sets = sets
note f (XorSplit i) s sets = slice_set sets i (f false s)
note f XorJoin s sets = sets
note f LoopStart s sets = sets
note f (LoopEnd i) s sets = slice_set sets i (f false s)

abbrev pub noted : (Bool → Spot → IdSet) → List IdSet → State → List Element → List IdSet
noted f sets st [] = sets
noted f sets st (x ∷ xs) = noted f (note f x st.here sets) (step x st) xs

-- The nodes that precede it.
abbrev pub preceding : Bool → Spot → IdSet
preceding k s = union s.ahead s.seen

-- The earlier activities that a sync edge may join it with.
abbrev pub joinable : Bool → Spot → IdSet
joinable k s = cond k (intersection s.beside s.mates) empty

-- A set for each id.
abbrev pub no_sets : List IdSet
no_sets = replicate 64 empty

abbrev pub befores : List Element → List IdSet
befores xs = noted preceding no_sets start xs

abbrev pub partners : List Element → List IdSet
partners xs = noted joinable no_sets start xs

-- How the nodes of a row stand to one another.
pub record OrderOf (xs : List Element) (o : Order) : Type 0 where
  pub before : o.before ≡ befores xs
  pub partners : o.partners ≡ partners xs
