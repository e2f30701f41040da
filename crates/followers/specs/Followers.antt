-- The followers of the gaps of a row, sentence by sentence, over the row's tree: the nodes that come next there. Assumes nothing.
--   none, just i, either      no node, one node, and the nodes of either of two sets
--   follows t rest            the followers of the gap before t, where `rest` are those of the gap behind it
--   seq_followers t rest fs   those of the gaps before each element of t, and then fs
--   follower t g u            whether node u is a follower of gap g of the row
--   FollowersAt t g s         the set s has the followers of gap g
use Rattle.std.specs.Prelude.{◌≡◌, ℕ, Bool, false, ◌&&◌, ◌||◌, List, [], ◌∷◌, ◌==◌, nat_lt, slice_index_or}
use Rattle.ids.specs.declared.IdSet.{IdSet}
use Rattle.ids.specs.Sets.{has}
use Rattle.model.specs.Trees.{Seq, nil, cons, Item, activity, loop, and, xor, Branches, last, bar}

-- A set of nodes: whether the one with an id is in it.
abbrev pub Nodes : Type 0
Nodes = ℕ → Bool

abbrev pub none : Nodes
none u = false

abbrev pub just : ℕ → Nodes
just i u = u == i

abbrev pub either : Nodes → Nodes → Nodes
either f g u = f u || g u

abbrev mutual
  -- Where no item is left, what comes behind them follows.
  pub follows : Seq → Nodes → Nodes
  follows nil rest = rest
  follows (cons x t) rest = item_follows x (follows t rest)

  -- Before a node it is the node: the decision of an XOR split too. A loop start gives those of the next gap, and behind
  -- the body stands the test. An AND split gives those of every branch's first gap.
  pub item_follows : Item → Nodes → Nodes
  item_follows (activity i) rest = just i
  item_follows (loop t i) rest = follows t (just i)
  item_follows (and b) rest = branches_follow b rest
  item_follows (xor i b) rest = just i

  -- A branch ends before a bar or the join, which give those of the gap behind the join.
  pub branches_follow : Branches → Nodes → Nodes
  branches_follow (last t) rest = follows t rest
  branches_follow (bar t b) rest = either (follows t rest) (branches_follow b rest)

-- The followers of the gaps before each element, from the left, and then `fs`.
abbrev mutual
  pub seq_followers : Seq → Nodes → List Nodes → List Nodes
  seq_followers nil rest fs = fs
  seq_followers (cons x t) rest fs = item_followers x (follows t rest) (seq_followers t rest fs)

  pub item_followers : Item → Nodes → List Nodes → List Nodes
  item_followers (activity i) rest fs = just i ∷ fs
  item_followers (loop t i) rest fs = follows t (just i) ∷ seq_followers t (just i) (just i ∷ fs)
  item_followers (and b) rest fs = branches_follow b rest ∷ branch_followers b rest fs
  item_followers (xor i b) rest fs = just i ∷ branch_followers b rest fs

  pub branch_followers : Branches → Nodes → List Nodes → List Nodes
  branch_followers (last t) rest fs = seq_followers t rest (rest ∷ fs)
  branch_followers (bar t b) rest fs = seq_followers t rest (rest ∷ branch_followers b rest fs)

-- The row's end has none.
abbrev pub tree_followers : Seq → List Nodes
tree_followers t = seq_followers t none (none ∷ [])

-- A gap past the row's end has none.
abbrev pub follower : Seq → ℕ → Nodes
follower t g = slice_index_or (tree_followers t) g none

-- Ids end at 63.
abbrev pub FollowersAt : Seq → ℕ → IdSet → Type 0
FollowersAt t g s = (u : ℕ) → has s u ≡ (nat_lt u 64 && follower t g u)
