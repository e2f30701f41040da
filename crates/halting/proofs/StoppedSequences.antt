-- A sequence that begins with a signal behind a node without a fact: what it ends with, and its nodes' own signals. Assumes
-- nothing.
use Rattle.std.proofs.Common.{◌≡◌, ℕ, Bool, true, false, not, ◌&&◌, ◌||◌, eqb, List, sym, refl, ap, ◌∙◌, ap₂}
use Rattle.model.specs.declared.Fact.{Fact}
use Rattle.model.specs.declared.Signal.{Signal}
use Rattle.model.specs.declared.Signal.TheVariants.{True, False, None}
use Rattle.model.specs.Trees.{Seq, nil, cons, Item, activity, loop, and, xor, Branches, last, bar}
use Rattle.model.specs.Signals.{fact_of, is_true, is_false, unless_false, after_node, and_joined, decided, ends, after, all_true, decided_end}
use Rattle.followers.specs.Followers.{Nodes, just, follows, item_follows, branches_follow}

-- behind a node without a fact
abbrev pub stop : Signal → Signal
stop True = None
stop False = False
stop None = None

abbrev pub stop_if : Bool → Signal → Signal
stop_if true g = stop g
stop_if false g = g

-- some way through meets no node
abbrev mutual
  pub passable : Seq → Bool
  passable nil = true
  passable (cons x t) = passable_item x && passable t

  pub passable_item : Item → Bool
  passable_item (activity i) = false
  passable_item (loop t i) = false
  passable_item (and b) = passable_branches b
  passable_item (xor i b) = false

  pub passable_branches : Branches → Bool
  passable_branches (last t) = passable t
  passable_branches (bar t b) = passable t || passable_branches b

-- the followers of the first gap that lie within
abbrev mutual
  pub within : Seq → Nodes
  within nil i = false
  within (cons x t) i = within_item x i || (passable_item x && within t i)

  pub within_item : Item → Nodes
  within_item (activity j) i = eqb i j
  within_item (loop t j) i = within t i || (passable t && eqb i j)
  within_item (and b) i = within_branches b i
  within_item (xor j b) i = eqb i j

  pub within_branches : Branches → Nodes
  within_branches (last t) i = within t i
  within_branches (bar t b) i = within t i || within_branches b i

pub or_false : (b : Bool) → (b || false) ≡ b
or_false true = refl
or_false false = refl

-- the other followers are those of the gap behind
pub either_rest : (a b c d r : Bool) → (a || (b && (c || (d && r)))) ≡ ((a || (b && c)) || ((b && d) && r))
either_rest true b c d r = refl
either_rest false true c d r = refl
either_rest false false c d r = refl

both_rests : (a b c d r : Bool) → ((a || (b && r)) || (c || (d && r))) ≡ ((a || c) || ((b || d) && r))
both_rests true b c d r = refl
both_rests false false c d r = refl
both_rests false true true d true = refl
both_rests false true false d true = refl
both_rests false true c true false = refl
both_rests false true c false false = refl

mutual
  pub follows_within : (t : Seq) (rest : Nodes) (i : ℕ) → follows t rest i ≡ (within t i || (passable t && rest i))
  follows_within nil rest i = refl
  follows_within (cons x t) rest i =
      item_within x (follows t rest) i
      ∙ ap (λ b. within_item x i || (passable_item x && b)) (follows_within t rest i)
      ∙ either_rest (within_item x i) (passable_item x) (within t i) (passable t) (rest i)

  item_within : (x : Item) (rest : Nodes) (i : ℕ) → item_follows x rest i ≡ (within_item x i || (passable_item x && rest i))
  item_within (activity j) rest i = sym (or_false (eqb i j))
  item_within (loop t j) rest i = follows_within t (just j) i ∙ sym (or_false (within t i || (passable t && eqb i j)))
  item_within (and b) rest i = branches_within b rest i
  item_within (xor j b) rest i = sym (or_false (eqb i j))

  branches_within : (b : Branches) (rest : Nodes) (i : ℕ) → branches_follow b rest i ≡ (within_branches b i || (passable_branches b && rest i))
  branches_within (last t) rest i = follows_within t rest i
  branches_within (bar t b) rest i =
      ap₂ (λ x y. x || y) (follows_within t rest i) (branches_within b rest i)
      ∙ both_rests (within t i) (passable t) (within_branches b i) (passable_branches b) (rest i)

-- what a stopped signal makes of the rules
unless_stop : (g v : Signal) → unless_false (stop g) v ≡ unless_false g v
unless_stop True v = refl
unless_stop False v = refl
unless_stop None v = refl

pub node_stop_if : (b : Bool) (g : Signal) (f : Fact) → after_node (stop_if b g) f ≡ after_node g f
node_stop_if true g f = unless_stop g _
node_stop_if false g f = refl

pub false_stop : (g : Signal) → is_false (stop g) ≡ is_false g
false_stop True = refl
false_stop False = refl
false_stop None = refl

pub true_stop_if : (b : Bool) (g : Signal) → is_true (stop_if b g) ≡ (not b && is_true g)
true_stop_if true True = refl
true_stop_if true False = refl
true_stop_if true None = refl
true_stop_if false g = refl

both_true : (b c x y : Bool) → ((not b && x) && (not c && y)) ≡ (not (b || c) && (x && y))
both_true true c x y = refl
both_true false true true y = refl
both_true false true false y = refl
both_true false false x y = refl

-- an AND block that begins stopped
joined_stop : (g : Signal) (b u v : Bool) → u ≡ (not b && v) → and_joined (stop g) u ≡ stop_if b (and_joined g v)
joined_stop True true u true e = ap (and_joined None) e
joined_stop True true u false e = ap (and_joined None) e
joined_stop True false u v e = ap (and_joined None) e
joined_stop False true u v e = refl
joined_stop False false u v e = refl
joined_stop None true u true e = ap (and_joined None) e
joined_stop None true u false e = ap (and_joined None) e
joined_stop None false u v e = ap (and_joined None) e

module _ (fs : List Fact) where
  if_stopped : (c : Bool) (t : Seq) (g : Signal) → ends fs t (stop g) ≡ stop_if (passable t) (ends fs t g)
      → ends fs t (stop_if c g) ≡ stop_if (c && passable t) (ends fs t g)
  if_stopped true t g e = e
  if_stopped false t g e = refl

  -- a sequence that begins stopped ends stopped if it is passable, and else as it did
  mutual
    pub stopped_ends : (t : Seq) (g : Signal) → ends fs t (stop g) ≡ stop_if (passable t) (ends fs t g)
    stopped_ends nil g = refl
    stopped_ends (cons x t) g = ap (ends fs t) (stopped_after x g) ∙ if_stopped (passable_item x) t (after fs x g) (stopped_ends t (after fs x g))

    pub stopped_after : (x : Item) (g : Signal) → after fs x (stop g) ≡ stop_if (passable_item x) (after fs x g)
    stopped_after (activity i) g = unless_stop g _
    stopped_after (loop t i) g = ap (λ v. after_node v (fact_of fs i)) (stopped_ends t g) ∙ node_stop_if (passable t) (ends fs t g) (fact_of fs i)
    stopped_after (and b) g = joined_stop g (passable_branches b) (all_true fs b (stop g)) (all_true fs b g) (stopped_all b g)
    stopped_after (xor i b) g =
        unless_stop g (decided_end fs b (is_false (stop g)) (decided (fact_of fs i)) 0)
        ∙ ap (λ k. unless_false g (decided_end fs b k (decided (fact_of fs i)) 0)) (false_stop g)

    stopped_all : (b : Branches) (g : Signal) → all_true fs b (stop g) ≡ (not (passable_branches b) && all_true fs b g)
    stopped_all (last t) g = ap is_true (stopped_ends t g) ∙ true_stop_if (passable t) (ends fs t g)
    stopped_all (bar t b) g =
        ap₂ (λ x y. x && y) (ap is_true (stopped_ends t g) ∙ true_stop_if (passable t) (ends fs t g)) (stopped_all b g)
        ∙ both_true (passable t) (passable_branches b) (is_true (ends fs t g)) (all_true fs b g)
