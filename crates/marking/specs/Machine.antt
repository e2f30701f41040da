-- How signals are computed from left to right, with a stack of open AND and XOR blocks. Assumes nothing.
--   step fs x st       behind element x: the signal, and the blocks open there
--   signals fs st xs   the signals of the gaps from here on
--   reach fs st xs     the gap behind these elements
-- `OfTree` says that on the row of a tree these are the tree's signals.
use Rattle.std.specs.Prelude.{◌≡◌, ◌-◌, Bool, true, cond, ◌&&◌, List, [], ◌∷◌, Some, Option, ◌==◌}
use Rattle.stack.specs.Items.{head}
use Rattle.stack.specs.Moves.{reached, blocks_after}
use Rattle.model.specs.declared.Element.{Element}
use Rattle.model.specs.declared.Element.TheVariants.{Activity, AndSplit, Bar, AndJoin, XorSplit, XorJoin, LoopStart, LoopEnd}
use Rattle.model.specs.declared.Fact.{Fact}
use Rattle.model.specs.declared.Fact.TheVariants.{Nothing, Begun, Ended, Decided, Left}
use Rattle.model.specs.declared.Signal.{Signal}
use Rattle.model.specs.declared.Signal.TheVariants.{True, False, None}
use Rattle.model.specs.Trees.{Seq, flatten}
use Rattle.model.specs.Signals.{fact_of, after_node, is_true, is_false, and_joined, tree_signals}
use Rattle.marking.specs.declared.signals.Choice.{Choice}
use Rattle.marking.specs.declared.signals.Choice.TheVariants.{Undecided, Ahead, Behind}
use Rattle.marking.specs.declared.signals.Opened.{Opened}
use Rattle.marking.specs.declared.signals.Opened.TheVariants.{And, Xor}
use Rattle.stack.specs.declared.moves.Move.{Move}
use Rattle.stack.specs.declared.moves.Move.TheVariants.{Stay, Open, Turn, Close}

abbrev pub choice_of : Fact → Choice
choice_of Nothing = Undecided
choice_of Begun = Undecided
choice_of Ended = Undecided
choice_of (Decided b) = Ahead b
choice_of Left = Undecided

-- The signal at the head of the branch that is read.
abbrev pub chosen : Bool → Choice → Signal
chosen k Undecided = cond k False None
chosen k (Ahead n) = cond (n == 0) True False
chosen k (Behind g) = False

-- The choice seen from the next branch, where this one ends with g.
abbrev pub turned : Choice → Signal → Choice
turned Undecided g = Undecided
turned (Ahead n) g = cond (n == 0) (Behind g) (Ahead (n - 1))
turned (Behind e) g = Behind e

abbrev pub ending : Choice → Signal
ending Undecided = None
ending (Ahead n) = None
ending (Behind g) = g

-- Behind an XOR join, where the last branch ends with g.
abbrev pub xor_joined : Bool → Choice → Signal → Signal
xor_joined k c g = cond k False (ending (turned c g))

-- Bars and joins with no block of their kind open do nothing.
abbrev pub at_bar : Signal → Option Opened → Move Signal Opened
at_bar g Option.None = Stay g
at_bar g (Some (And before all)) = Turn before (And before (all && is_true g))
at_bar g (Some (Xor k c)) = Turn (chosen k (turned c g)) (Xor k (turned c g))

abbrev pub at_and_join : Signal → Option Opened → Move Signal Opened
at_and_join g Option.None = Stay g
at_and_join g (Some (And before all)) = Close (and_joined before (all && is_true g))
at_and_join g (Some (Xor k c)) = Stay g

abbrev pub at_xor_join : Signal → Option Opened → Move Signal Opened
at_xor_join g Option.None = Stay g
at_xor_join g (Some (And before all)) = Stay g
at_xor_join g (Some (Xor k c)) = Close (xor_joined k c g)

-- What an element does behind a signal, within the innermost open block.
abbrev pub moves : List Fact → Element → Signal → Option Opened → Move Signal Opened
moves fs (Activity i) g top = Stay (after_node g (fact_of fs i))
moves fs AndSplit g top = Open g (And g true)
moves fs Bar g top = at_bar g top
moves fs AndJoin g top = at_and_join g top
moves fs (XorSplit i) g top = Open (chosen (is_false g) (choice_of (fact_of fs i))) (Xor (is_false g) (choice_of (fact_of fs i)))
moves fs XorJoin g top = at_xor_join g top
moves fs LoopStart g top = Stay g
moves fs (LoopEnd i) g top = Stay (after_node g (fact_of fs i))

-- A gap: its signal, and the open AND and XOR blocks, the innermost first.
pub record Gap : Type 0 where
  pub signal : Signal
  pub blocks : List Opened

abbrev pub gap : Signal → List Opened → Gap
gap g s = record { signal = g; blocks = s }

abbrev pub moved : Move Signal Opened → List Opened → Gap
moved m s = gap (reached m) (blocks_after m s)

abbrev pub step : List Fact → Element → Gap → Gap
step fs x st = moved (moves fs x st.signal (head st.blocks)) st.blocks

-- Gap 0 is true.
abbrev pub start : Gap
start = gap True []

abbrev pub signals : List Fact → Gap → List Element → List Signal
signals fs st [] = st.signal ∷ []
signals fs st (x ∷ xs) = st.signal ∷ signals fs (step fs x st) xs

abbrev pub reach : List Fact → Gap → List Element → Gap
reach fs st [] = st
reach fs st (x ∷ xs) = reach fs (step fs x st) xs

abbrev pub OfTree : List Fact → List Element → List Signal → Type 0
OfTree fs xs gs = (t : Seq) → xs ≡ flatten t → gs ≡ tree_signals fs t
