-- Places of a tree, its gaps, and what changes there. Assumes nothing.
--   filled_in C r       the tree that has sequence r at place C
--   number C            how many elements stand before it
--   place_signal fs C g    the signal there, where the tree begins with g
--   behind C rest       the followers behind what stands there, where rest are those behind the tree
--   open_behind C p     some way from there on through the tree meets no node, where p says so of what stands there
--   next_in C p f       the tree's followers of the place, where f are those of what stands there
use Rattle.std.proofs.Common.{◌≡◌, ℕ, ◌+◌, Bool, true, false, ◌&&◌, ◌||◌, List, [], ◌∷◌, length, sym, refl, ap, ◌∙◌, arith}
use Rattle.model.specs.declared.Element.{Element}
use Rattle.model.specs.declared.Element.TheVariants.{Bar, AndJoin, XorJoin, LoopEnd}
use Rattle.model.specs.declared.Fact.{Fact}
use Rattle.model.specs.declared.Signal.{Signal}
use Rattle.model.specs.Trees.{Seq, nil, cons, Item, activity, loop, and, xor, Branches, last, bar, spell, spell_item, spell_branches}
use Rattle.model.specs.Signals.{after}
use Rattle.followers.specs.Followers.{Nodes, just, follows}
use Rattle.changes.specs.Changed.{Changed, here, in_item, later, ChangedItem, in_loop, in_and, in_xor, ChangedBranches, in_last, in_first, in_later}
use Rattle.halting.proofs.StoppedSequences.{passable, within, or_false, follows_within, either_rest}
use Rattle.halting.proofs.OwnSignals.{heads}

mutual
  -- at the front, behind a first item, or in it
  pub data Place : Type 0 where
    front : Place
    skip : Item → Place → Place
    inside : ItemPlace → Seq → Place

  pub data ItemPlace : Type 0 where
    body : Place → ℕ → ItemPlace
    and_branch : BranchPlace → ItemPlace
    xor_branch : ℕ → BranchPlace → ItemPlace

  -- in the last branch, in one with others behind it, or behind a first branch
  pub data BranchPlace : Type 0 where
    final : Place → BranchPlace
    leading : Place → Branches → BranchPlace
    beyond : Seq → BranchPlace → BranchPlace

abbrev mutual
  pub filled_in : Place → Seq → Seq
  filled_in front r = r
  filled_in (skip x C) r = cons x (filled_in C r)
  filled_in (inside X t) r = cons (filled_item X r) t

  pub filled_item : ItemPlace → Seq → Item
  filled_item (body C i) r = loop (filled_in C r) i
  filled_item (and_branch B) r = and (filled_branches B r)
  filled_item (xor_branch i B) r = xor i (filled_branches B r)

  pub filled_branches : BranchPlace → Seq → Branches
  filled_branches (final C) r = last (filled_in C r)
  filled_branches (leading C b) r = bar (filled_in C r) b
  filled_branches (beyond t B) r = bar t (filled_branches B r)

-- how many elements a part has
abbrev mutual
  pub size : Seq → ℕ
  size nil = 0
  size (cons x t) = size_item x + size t

  pub size_item : Item → ℕ
  size_item (activity i) = 1
  size_item (loop t i) = size t + 2
  size_item (and b) = size_branches b + 2
  size_item (xor i b) = size_branches b + 2

  pub size_branches : Branches → ℕ
  size_branches (last t) = size t
  size_branches (bar t b) = size t + (size_branches b + 1)

mutual
  pub spell_long : (t : Seq) (ys : List Element) → length (spell t ys) ≡ size t + length ys
  spell_long nil ys = omega arith
  spell_long (cons x t) ys = let p = item_long x (spell t ys) in let q = spell_long t ys in omega arith

  item_long : (x : Item) (ys : List Element) → length (spell_item x ys) ≡ size_item x + length ys
  item_long (activity i) ys = omega arith
  item_long (loop t i) ys = let p = spell_long t (LoopEnd i ∷ ys) in omega arith
  item_long (and b) ys = let p = branches_long b (AndJoin ∷ ys) in omega arith
  item_long (xor i b) ys = let p = branches_long b (XorJoin ∷ ys) in omega arith

  branches_long : (b : Branches) (ys : List Element) → length (spell_branches b ys) ≡ size_branches b + length ys
  branches_long (last t) ys = spell_long t ys
  branches_long (bar t b) ys = let p = spell_long t (Bar ∷ spell_branches b ys) in let q = branches_long b ys in omega arith

abbrev mutual
  pub number : Place → ℕ
  number front = 0
  number (skip x C) = size_item x + number C
  number (inside X t) = item_number X

  pub item_number : ItemPlace → ℕ
  item_number (body C i) = number C + 1
  item_number (and_branch B) = branch_number B + 1
  item_number (xor_branch i B) = branch_number B + 1

  pub branch_number : BranchPlace → ℕ
  branch_number (final C) = number C
  branch_number (leading C b) = number C
  branch_number (beyond t B) = size t + (branch_number B + 1)

-- what was changed at a gap was changed at a place
module _ (R : Seq → Seq → Type 0) where
  pub record Swapped (g : ℕ) (t u : Seq) : Type 0 where
    pub place : Place
    pub old : Seq
    pub new : Seq
    pub changed : R old new
    pub was : t ≡ filled_in place old
    pub is : u ≡ filled_in place new
    pub at_gap : number place ≡ g

  record SwappedItem (g : ℕ) (x y : Item) : Type 0 where
    place : ItemPlace
    old : Seq
    new : Seq
    changed : R old new
    was : x ≡ filled_item place old
    is : y ≡ filled_item place new
    at_gap : item_number place ≡ g

  record SwappedBranches (g : ℕ) (b c : Branches) : Type 0 where
    place : BranchPlace
    old : Seq
    new : Seq
    changed : R old new
    was : b ≡ filled_branches place old
    is : c ≡ filled_branches place new
    at_gap : branch_number place ≡ g

  mutual
    pub swapped : (g : ℕ) (t u : Seq) → Changed R g t u → Swapped g t u
    swapped _ _ _ (here {t = t} {u = u} h) = record { place = front; old = t; new = u; changed = h; was = refl; is = refl; at_gap = refl }
    swapped _ _ _ (in_item {g = g} {x = x} {y = y} {t = t} h) =
        let s = swapped_item g x y h in
        record { place = inside s.place t; old = s.old; new = s.new; changed = s.changed; was = ap (λ z. cons z t) s.was; is = ap (λ z. cons z t) s.is; at_gap = s.at_gap }
    swapped _ _ _ (later {g = g} {x = x} {t = t} {u = u} h) =
        let s = swapped g t u h in
        let l = item_long x [] in
        let e = s.at_gap in
        record { place = skip x s.place; old = s.old; new = s.new; changed = s.changed; was = ap (cons x) s.was; is = ap (cons x) s.is; at_gap = omega arith }

    swapped_item : (g : ℕ) (x y : Item) → ChangedItem R g x y → SwappedItem g x y
    swapped_item _ _ _ (in_loop {g = g} {i = i} {t = t} {u = u} h) =
        let s = swapped g t u h in
        let e = s.at_gap in
        record { place = body s.place i; old = s.old; new = s.new; changed = s.changed; was = ap (λ z. loop z i) s.was; is = ap (λ z. loop z i) s.is; at_gap = omega arith }
    swapped_item _ _ _ (in_and {g = g} {b = b} {c = c} h) =
        let s = swapped_branches g b c h in
        let e = s.at_gap in
        record { place = and_branch s.place; old = s.old; new = s.new; changed = s.changed; was = ap and s.was; is = ap and s.is; at_gap = omega arith }
    swapped_item _ _ _ (in_xor {g = g} {i = i} {b = b} {c = c} h) =
        let s = swapped_branches g b c h in
        let e = s.at_gap in
        record { place = xor_branch i s.place; old = s.old; new = s.new; changed = s.changed; was = ap (xor i) s.was; is = ap (xor i) s.is; at_gap = omega arith }

    swapped_branches : (g : ℕ) (b c : Branches) → ChangedBranches R g b c → SwappedBranches g b c
    swapped_branches _ _ _ (in_last {g = g} {t = t} {u = u} h) =
        let s = swapped g t u h in
        record { place = final s.place; old = s.old; new = s.new; changed = s.changed; was = ap last s.was; is = ap last s.is; at_gap = s.at_gap }
    swapped_branches _ _ _ (in_first {g = g} {t = t} {u = u} {b = b} h) =
        let s = swapped g t u h in
        record { place = leading s.place b; old = s.old; new = s.new; changed = s.changed; was = ap (λ z. bar z b) s.was; is = ap (λ z. bar z b) s.is; at_gap = s.at_gap }
    swapped_branches _ _ _ (in_later {g = g} {t = t} {b = b} {c = c} h) =
        let s = swapped_branches g b c h in
        let l = spell_long t [] in
        let e = s.at_gap in
        record { place = beyond t s.place; old = s.old; new = s.new; changed = s.changed; was = ap (bar t) s.was; is = ap (bar t) s.is; at_gap = omega arith }

abbrev mutual
  pub place_signal : List Fact → Place → Signal → Signal
  place_signal fs front g = g
  place_signal fs (skip x C) g = place_signal fs C (after fs x g)
  place_signal fs (inside X t) g = item_signal fs X g

  pub item_signal : List Fact → ItemPlace → Signal → Signal
  item_signal fs (body C i) g = place_signal fs C g
  item_signal fs (and_branch B) g = branch_signal fs B (λ n. g) 0
  item_signal fs (xor_branch i B) g = branch_signal fs B (heads fs g i) 0

  -- branch n begins with h n
  pub branch_signal : List Fact → BranchPlace → (ℕ → Signal) → ℕ → Signal
  branch_signal fs (final C) h n = place_signal fs C (h n)
  branch_signal fs (leading C b) h n = place_signal fs C (h n)
  branch_signal fs (beyond t B) h n = branch_signal fs B h (n + 1)

abbrev mutual
  pub behind : Place → Nodes → Nodes
  behind front rest = rest
  behind (skip x C) rest = behind C rest
  behind (inside X t) rest = behind_item X (follows t rest)

  pub behind_item : ItemPlace → Nodes → Nodes
  behind_item (body C i) rest = behind C (just i)
  behind_item (and_branch B) rest = behind_branches B rest
  behind_item (xor_branch i B) rest = behind_branches B rest

  pub behind_branches : BranchPlace → Nodes → Nodes
  behind_branches (final C) rest = behind C rest
  behind_branches (leading C b) rest = behind C rest
  behind_branches (beyond t B) rest = behind_branches B rest

abbrev mutual
  pub open_behind : Place → Bool → Bool
  open_behind front p = p
  open_behind (skip x C) p = open_behind C p
  open_behind (inside X t) p = open_item X p && passable t

  pub open_item : ItemPlace → Bool → Bool
  open_item (body C i) p = false
  open_item (and_branch B) p = open_branches B p
  open_item (xor_branch i B) p = open_branches B p

  pub open_branches : BranchPlace → Bool → Bool
  open_branches (final C) p = open_behind C p
  open_branches (leading C b) p = open_behind C p
  open_branches (beyond t B) p = open_branches B p

abbrev mutual
  pub next_in : Place → Bool → Nodes → Nodes
  next_in front p f i = f i
  next_in (skip x C) p f i = next_in C p f i
  next_in (inside X t) p f i = next_item X p f i || (open_item X p && within t i)

  pub next_item : ItemPlace → Bool → Nodes → Nodes
  next_item (body C j) p f i = next_in C p f i || (open_behind C p && just j i)
  next_item (and_branch B) p f i = next_branches B p f i
  next_item (xor_branch j B) p f i = next_branches B p f i

  pub next_branches : BranchPlace → Bool → Nodes → Nodes
  next_branches (final C) p f i = next_in C p f i
  next_branches (leading C b) p f i = next_in C p f i
  next_branches (beyond t B) p f i = next_branches B p f i

-- the followers of a place lie in what stands there or come behind it
module _ (p : Bool) (f : Nodes) (i : ℕ) where
  mutual
    pub behind_next : (C : Place) (rest : Nodes) → (f i || (p && behind C rest i)) ≡ (next_in C p f i || (open_behind C p && rest i))
    behind_next front rest = refl
    behind_next (skip x C) rest = behind_next C rest
    behind_next (inside X t) rest =
        behind_item_next X (follows t rest)
        ∙ ap (λ b. next_item X p f i || (open_item X p && b)) (follows_within t rest i)
        ∙ either_rest (next_item X p f i) (open_item X p) (within t i) (passable t) (rest i)

    behind_item_next : (X : ItemPlace) (rest : Nodes) → (f i || (p && behind_item X rest i)) ≡ (next_item X p f i || (open_item X p && rest i))
    behind_item_next (body C j) rest = behind_next C (just j) ∙ sym (or_false (next_in C p f i || (open_behind C p && just j i)))
    behind_item_next (and_branch B) rest = behind_branches_next B rest
    behind_item_next (xor_branch j B) rest = behind_branches_next B rest

    behind_branches_next : (B : BranchPlace) (rest : Nodes) → (f i || (p && behind_branches B rest i)) ≡ (next_branches B p f i || (open_branches B p && rest i))
    behind_branches_next (final C) rest = behind_next C rest
    behind_branches_next (leading C b) rest = behind_next C rest
    behind_branches_next (beyond t B) rest = behind_branches_next B rest

-- behind the tree nothing comes
pub next_last : (C : Place) (r : Seq) (i : ℕ) → follows r (behind C (λ u. false)) i ≡ next_in C (passable r) (within r) i
next_last C r i =
    follows_within r (behind C (λ u. false)) i ∙ behind_next (passable r) (within r) i C (λ u. false)
    ∙ nothing (next_in C (passable r) (within r) i) (open_behind C (passable r))
  where
    nothing : (a b : Bool) → (a || (b && false)) ≡ a
    nothing true b = refl
    nothing false true = refl
    nothing false false = refl
