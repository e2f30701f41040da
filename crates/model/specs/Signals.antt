-- What passes each gap of a row, sentence by sentence, over the row's tree. Assumes nothing.
--   fact_of fs i        the fact of node i
--   after_node g f      behind a node, from its own signal and its fact
--   and_joined, head_of behind an AND join; at the head of an XOR block's branch
--   ends fs t g         behind a sequence that begins with g;  after fs x g  behind an item
--   tree_signals fs t   the signals of all gaps of a tree's row
use Rattle.std.specs.Prelude.{ℕ, ◌+◌, Bool, true, false, cond, ◌&&◌, List, [], ◌∷◌, Some, Option, ◌==◌, slice_index_or}
use Rattle.model.specs.declared.Fact.{Fact}
use Rattle.model.specs.declared.Fact.TheVariants.{Nothing, Begun, Ended, Decided, Left}
use Rattle.model.specs.declared.Signal.{Signal}
use Rattle.model.specs.declared.Signal.TheVariants.{True, False, None}
use Rattle.model.specs.Trees.{Seq, nil, cons, Item, activity, loop, and, xor, Branches, last, bar}

-- Facts are kept by id; an id past the list's end has none.
abbrev pub fact_of : List Fact → ℕ → Fact
fact_of fs i = slice_index_or fs i Nothing

-- Ended, decided and left are what completes a node.
abbrev pub is_done : Fact → Bool
is_done Nothing = false
is_done Begun = false
is_done Ended = true
is_done (Decided b) = true
is_done Left = true

abbrev pub is_true : Signal → Bool
is_true True = true
is_true False = false
is_true None = false

abbrev pub is_false : Signal → Bool
is_false True = false
is_false False = true
is_false None = false

-- Every rule has this shape: false if the signal it starts from is false, else as said.
abbrev pub unless_false : Signal → Signal → Signal
unless_false g v = cond (is_false g) False v

-- Behind an activity or a loop end: false if the node is Skipped, true if it is Completed, else none.
abbrev pub after_node : Signal → Fact → Signal
after_node g f = unless_false g (cond (is_done f) True None)

-- Behind an AND join: false if the signal before the split is, true if every branch ends true, else none.
abbrev pub and_joined : Signal → Bool → Signal
and_joined g all = unless_false g (cond all True None)

-- The branch that a decision decided.
abbrev pub decided : Fact → Option ℕ
decided Nothing = Option.None
decided Begun = Option.None
decided Ended = Option.None
decided (Decided d) = Some d
decided Left = Option.None

abbrev pub is_branch : Option ℕ → ℕ → Bool
is_branch Option.None i = false
is_branch (Some d) i = d == i

-- At the head of branch i: true if that branch was decided, false if another was or the decision is Skipped (k),
-- else none.
abbrev pub head_of : Bool → Option ℕ → ℕ → Signal
head_of k Option.None i = cond k False None
head_of k (Some d) i = cond (d == i) True False

module _ (fs : List Fact) where
  abbrev mutual
    pub ends : Seq → Signal → Signal
    ends nil g = g
    ends (cons x t) g = ends t (after x g)

    pub after : Item → Signal → Signal
    after (activity i) g = after_node g (fact_of fs i)
    after (loop t i) g = after_node (ends t g) (fact_of fs i)
    after (and b) g = and_joined g (all_true b g)
    after (xor i b) g = unless_false g (decided_end b (is_false g) (decided (fact_of fs i)) 0)

    -- Whether every branch ends true.
    pub all_true : Branches → Signal → Bool
    all_true (last t) g = is_true (ends t g)
    all_true (bar t b) g = is_true (ends t g) && all_true b g

    -- The signal that ends the decided branch, of the branches from number i on; none if there is none.
    pub decided_end : Branches → Bool → Option ℕ → ℕ → Signal
    decided_end (last t) k d i = cond (is_branch d i) (ends t (head_of k d i)) None
    decided_end (bar t b) k d i = cond (is_branch d i) (ends t (head_of k d i)) (decided_end b k d (i + 1))

  -- The signals of the gaps before each element of a tree, and then `rest`.
  abbrev mutual
    pub gaps : Seq → Signal → List Signal → List Signal
    gaps nil g rest = rest
    gaps (cons x t) g rest = gaps_item x g (gaps t (after x g) rest)

    -- Behind a loop start: the signal before it.
    pub gaps_item : Item → Signal → List Signal → List Signal
    gaps_item (activity i) g rest = g ∷ rest
    gaps_item (loop t i) g rest = g ∷ gaps t g (ends t g ∷ rest)
    gaps_item (and b) g rest = g ∷ gaps_and b g rest
    gaps_item (xor i b) g rest = g ∷ gaps_xor b (is_false g) (decided (fact_of fs i)) 0 rest

    -- Behind an AND split and each of its bars: the signal before the split.
    pub gaps_and : Branches → Signal → List Signal → List Signal
    gaps_and (last t) g rest = gaps t g (ends t g ∷ rest)
    gaps_and (bar t b) g rest = gaps t g (ends t g ∷ gaps_and b g rest)

    pub gaps_xor : Branches → Bool → Option ℕ → ℕ → List Signal → List Signal
    gaps_xor (last t) k d i rest = gaps t (head_of k d i) (ends t (head_of k d i) ∷ rest)
    gaps_xor (bar t b) k d i rest = gaps t (head_of k d i) (ends t (head_of k d i) ∷ gaps_xor b k d (i + 1) rest)

-- Gap 0 is true.
abbrev pub tree_signals : List Fact → Seq → List Signal
tree_signals fs t = gaps fs t True (ends fs t True ∷ [])
