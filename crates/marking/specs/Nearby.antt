-- What is asked about one gap of a row. Assumes nothing.
--   signal_in xs fs p   the signal of gap p; past the row's end there is none
--   dead xs fs p        whether the signal where the element at p stands is false: behind a bar, before any other
--   decision x          the decision of the block that x begins
--   branch_of fs d      the branch that this decision decided
--   fell_against o n    whether it fell against branch n, if it decided
--   before x p h        what stands before the gap behind element x at p, which stands at position h
--   telling g f         the own signal g of a node with the fact f, as far as its state hangs on it
--   alone fs ys g       the signal behind a whole block, from that before it
use Rattle.std.specs.Prelude.{ℕ, Bool, not, List, [], Option, ◌==◌, slice_index_or}
use Rattle.std.specs.declared.option.Option.TheVariants as option
use Rattle.model.specs.declared.Element.{Element}
use Rattle.model.specs.declared.Element.TheVariants.{Activity, AndSplit, Bar, AndJoin, XorSplit, XorJoin, LoopStart, LoopEnd}
use Rattle.model.specs.declared.Fact.{Fact}
use Rattle.model.specs.declared.Fact.TheVariants.{Nothing, Begun, Ended, Decided, Left}
use Rattle.model.specs.declared.Signal.{Signal}
use Rattle.model.specs.declared.Signal.TheVariants.{None}
use Rattle.model.specs.Signals.{fact_of, is_false, unless_false, decided}
use Rattle.layout.specs.declared.Position.{Position}
use Rattle.layout.specs.Gaps.{gap_of}
use Rattle.marking.specs.declared.nearby.Before.{Before}
use Rattle.marking.specs.declared.nearby.Before.TheVariants.{Node, Head, Block, Astray}
use Rattle.marking.specs.Machine.{gap, signals, start, reach}

abbrev pub signal_in : List Element → List Fact → ℕ → Signal
signal_in xs fs p = slice_index_or (signals fs start xs) p None

abbrev pub dead : List Element → List Fact → ℕ → Bool
dead xs fs p = is_false (signal_in xs fs (gap_of (slice_index_or xs p AndSplit) p))

abbrev pub decision : Element → Option ℕ
decision (Activity i) = option.None
decision AndSplit = option.None
decision Bar = option.None
decision AndJoin = option.None
decision (XorSplit i) = option.Some i
decision XorJoin = option.None
decision LoopStart = option.None
decision (LoopEnd i) = option.None

abbrev pub branch_of : List Fact → Option ℕ → Option ℕ
branch_of fs option.None = option.None
branch_of fs (option.Some i) = decided (fact_of fs i)

abbrev pub fell_against : Option ℕ → ℕ → Option Bool
fell_against option.None n = option.None
fell_against (option.Some d) n = option.Some (not (d == n))

-- A bar turns, and an end ends, the block around it.
abbrev pub turned : Option ℕ → ℕ → Before
turned option.None n = Astray
turned (option.Some s) n = Head s n

abbrev pub ended : Option ℕ → Before
ended option.None = Astray
ended (option.Some s) = Block s

abbrev pub before : Element → ℕ → Position → Before
before (Activity i) p h = Node i
before AndSplit p h = Head p 0
before Bar p h = turned h.block h.branch
before AndJoin p h = ended h.block
before (XorSplit i) p h = Head p 0
before XorJoin p h = ended h.block
before LoopStart p h = Head p 0
before (LoopEnd i) p h = Node i

abbrev pub alone : List Fact → List Element → Signal → Signal
alone fs ys g = (reach fs (gap g []) ys).signal

abbrev pub telling : Signal → Fact → Signal
telling g Nothing = g
telling g Begun = unless_false g None
telling g Ended = unless_false g None
telling g (Decided b) = unless_false g None
telling g Left = unless_false g None
