-- The signal and the followers of a place stand in the lists of the tree at the place's gap. Assumes nothing.
use Rattle.std.proofs.Common.{◌≡◌, ℕ, suc, ◌+◌, Bool, List, ◌∷◌, get_or, Option, refl, ap, ◌∙◌, arith}
use Rattle.model.specs.declared.Fact.{Fact}
use Rattle.model.specs.declared.Signal.{Signal}
use Rattle.model.specs.declared.Signal.TheVariants.{None}
use Rattle.model.specs.Trees.{Seq, nil, cons, Item, activity, loop, and, xor, Branches, last, bar}
use Rattle.model.specs.Signals.{fact_of, is_false, decided, head_of, ends, after, gaps, gaps_item, gaps_and, gaps_xor}
use Rattle.followers.specs.Followers.{Nodes, none, just, follows, seq_followers, item_followers, branch_followers}
use Rattle.changes.specs.Changed.{followed_by}
use Rattle.halting.proofs.Places.{Place, front, skip, inside, ItemPlace, body, and_branch, xor_branch, BranchPlace, final, leading, beyond, filled_in, filled_item, filled_branches, size, size_item, size_branches, number, item_number, branch_number, place_signal, item_signal, branch_signal, behind, behind_item, behind_branches}

module _ {A : Type 0} (d : A) where
  at_number : (us : List A) (n m : ℕ) → n ≡ m → get_or us n d ≡ get_or us m d
  at_number us n m e = ap (λ k. get_or us k d) e

module _ (fs : List Fact) where
  abbrev at : List Signal → ℕ → Signal
  at us n = get_or us n None

  -- behind the gaps of a part
  mutual
    past_seq : (t : Seq) (g : Signal) (us : List Signal) (p : ℕ) → at (gaps fs t g us) (size t + p) ≡ at us p
    past_seq nil g us p = at_number None us (0 + p) p (omega arith)
    past_seq (cons x t) g us p =
        at_number None (gaps fs (cons x t) g us) (size_item x + size t + p) (size_item x + (size t + p)) (omega arith)
        ∙ past_item x g (gaps fs t (after fs x g) us) (size t + p)
        ∙ past_seq t (after fs x g) us p

    past_item : (x : Item) (g : Signal) (us : List Signal) (p : ℕ) → at (gaps_item fs x g us) (size_item x + p) ≡ at us p
    past_item (activity i) g us p = at_number None (g ∷ us) (1 + p) (suc p) (omega arith)
    past_item (loop t i) g us p =
        at_number None (gaps_item fs (loop t i) g us) (size t + 2 + p) (suc (size t + suc p)) (omega arith) ∙ past_seq t g (ends fs t g ∷ us) (suc p)
    past_item (and b) g us p =
        at_number None (gaps_item fs (and b) g us) (size_branches b + 2 + p) (suc (size_branches b + suc p)) (omega arith) ∙ past_and b g us p
    past_item (xor i b) g us p =
        at_number None (gaps_item fs (xor i b) g us) (size_branches b + 2 + p) (suc (size_branches b + suc p)) (omega arith)
        ∙ past_xor b (is_false g) (decided (fact_of fs i)) 0 us p

    past_and : (b : Branches) (g : Signal) (us : List Signal) (p : ℕ) → at (gaps_and fs b g us) (size_branches b + suc p) ≡ at us p
    past_and (last t) g us p = past_seq t g (ends fs t g ∷ us) (suc p)
    past_and (bar t b) g us p =
        at_number None (gaps_and fs (bar t b) g us) (size t + (size_branches b + 1) + suc p) (size t + suc (size_branches b + suc p)) (omega arith)
        ∙ past_seq t g (ends fs t g ∷ gaps_and fs b g us) (suc (size_branches b + suc p))
        ∙ past_and b g us p

    past_xor : (b : Branches) (k : Bool) (o : Option ℕ) (n : ℕ) (us : List Signal) (p : ℕ) → at (gaps_xor fs b k o n us) (size_branches b + suc p) ≡ at us p
    past_xor (last t) k o n us p = past_seq t (head_of k o n) (ends fs t (head_of k o n) ∷ us) (suc p)
    past_xor (bar t b) k o n us p =
        at_number None (gaps_xor fs (bar t b) k o n us) (size t + (size_branches b + 1) + suc p) (size t + suc (size_branches b + suc p)) (omega arith)
        ∙ past_seq t (head_of k o n) (ends fs t (head_of k o n) ∷ gaps_xor fs b k o (n + 1) us) (suc (size_branches b + suc p))
        ∙ past_xor b k o (n + 1) us p

  -- a gap of what stands at a place
  module _ (x : Seq) (k : ℕ) (mid : Signal → Signal) (there : (g : Signal) (us : List Signal) → at (gaps fs x g (ends fs x g ∷ us)) k ≡ mid g) where
    mutual
      pub signal_there : (C : Place) (g : Signal) (us : List Signal) → at (gaps fs (filled_in C x) g (ends fs (filled_in C x) g ∷ us)) (number C + k) ≡ mid (place_signal fs C g)
      signal_there front g us = at_number None (gaps fs x g (ends fs x g ∷ us)) (0 + k) k (omega arith) ∙ there g us
      signal_there (skip z C) g us =
          let vs = ends fs (filled_in C x) (after fs z g) ∷ us in
          at_number None (gaps fs (cons z (filled_in C x)) g vs) (size_item z + number C + k) (size_item z + (number C + k)) (omega arith)
          ∙ past_item z g (gaps fs (filled_in C x) (after fs z g) vs) (number C + k)
          ∙ signal_there C (after fs z g) us
      signal_there (inside X t) g us = item_there X g (gaps fs t (after fs (filled_item X x) g) (ends fs t (after fs (filled_item X x) g) ∷ us))

      item_there : (X : ItemPlace) (g : Signal) (us : List Signal) → at (gaps_item fs (filled_item X x) g us) (item_number X + k) ≡ mid (item_signal fs X g)
      item_there (body C i) g us =
          at_number None (gaps_item fs (loop (filled_in C x) i) g us) (number C + 1 + k) (suc (number C + k)) (omega arith) ∙ signal_there C g us
      item_there (and_branch B) g us =
          at_number None (gaps_item fs (and (filled_branches B x)) g us) (branch_number B + 1 + k) (suc (branch_number B + k)) (omega arith) ∙ and_there B g 0 us
      item_there (xor_branch i B) g us =
          at_number None (gaps_item fs (xor i (filled_branches B x)) g us) (branch_number B + 1 + k) (suc (branch_number B + k)) (omega arith)
          ∙ xor_there B (is_false g) (decided (fact_of fs i)) 0 us

      and_there : (B : BranchPlace) (g : Signal) (n : ℕ) (us : List Signal)
          → at (gaps_and fs (filled_branches B x) g us) (branch_number B + k) ≡ mid (branch_signal fs B (λ m. g) n)
      and_there (final C) g n us = signal_there C g us
      and_there (leading C b) g n us = signal_there C g (gaps_and fs b g us)
      and_there (beyond t B) g n us =
          at_number None (gaps_and fs (bar t (filled_branches B x)) g us) (size t + (branch_number B + 1) + k) (size t + suc (branch_number B + k)) (omega arith)
          ∙ past_seq t g (ends fs t g ∷ gaps_and fs (filled_branches B x) g us) (suc (branch_number B + k))
          ∙ and_there B g (n + 1) us

      xor_there : (B : BranchPlace) (c : Bool) (o : Option ℕ) (n : ℕ) (us : List Signal)
          → at (gaps_xor fs (filled_branches B x) c o n us) (branch_number B + k) ≡ mid (branch_signal fs B (head_of c o) n)
      xor_there (final C) c o n us = signal_there C (head_of c o n) us
      xor_there (leading C b) c o n us = signal_there C (head_of c o n) (gaps_xor fs b c o (n + 1) us)
      xor_there (beyond t B) c o n us =
          at_number None (gaps_xor fs (bar t (filled_branches B x)) c o n us) (size t + (branch_number B + 1) + k) (size t + suc (branch_number B + k)) (omega arith)
          ∙ past_seq t (head_of c o n) (ends fs t (head_of c o n) ∷ gaps_xor fs (filled_branches B x) c o (n + 1) us) (suc (branch_number B + k))
          ∙ xor_there B c o (n + 1) us

  -- the first gap of a sequence, and the one behind its first items
  pub first_signal : (r : Seq) (g : Signal) (us : List Signal) → at (gaps fs r g (ends fs r g ∷ us)) 0 ≡ g
  first_signal nil g us = refl
  first_signal (cons (activity i) t) g us = refl
  first_signal (cons (loop b i) t) g us = refl
  first_signal (cons (and b) t) g us = refl
  first_signal (cons (xor i b) t) g us = refl

  pub signal_between : (m r : Seq) (g : Signal) (us : List Signal) → at (gaps fs (followed_by m r) g (ends fs (followed_by m r) g ∷ us)) (size m) ≡ ends fs m g
  signal_between nil r g us = first_signal r g us
  signal_between (cons x m) r g us =
      past_item x g (gaps fs (followed_by m r) (after fs x g) (ends fs (followed_by m r) (after fs x g) ∷ us)) (size m) ∙ signal_between m r (after fs x g) us

-- the same of followers
abbrev seen : List Nodes → ℕ → Nodes
seen fs n = get_or fs n none

mutual
  passed_seq : (t : Seq) (rest : Nodes) (fs : List Nodes) (p : ℕ) → seen (seq_followers t rest fs) (size t + p) ≡ seen fs p
  passed_seq nil rest fs p = at_number none fs (0 + p) p (omega arith)
  passed_seq (cons x t) rest fs p =
      at_number none (seq_followers (cons x t) rest fs) (size_item x + size t + p) (size_item x + (size t + p)) (omega arith)
      ∙ passed_item x (follows t rest) (seq_followers t rest fs) (size t + p)
      ∙ passed_seq t rest fs p

  passed_item : (x : Item) (rest : Nodes) (fs : List Nodes) (p : ℕ) → seen (item_followers x rest fs) (size_item x + p) ≡ seen fs p
  passed_item (activity i) rest fs p = at_number none (just i ∷ fs) (1 + p) (suc p) (omega arith)
  passed_item (loop t i) rest fs p =
      at_number none (item_followers (loop t i) rest fs) (size t + 2 + p) (suc (size t + suc p)) (omega arith) ∙ passed_seq t (just i) (just i ∷ fs) (suc p)
  passed_item (and b) rest fs p =
      at_number none (item_followers (and b) rest fs) (size_branches b + 2 + p) (suc (size_branches b + suc p)) (omega arith) ∙ passed_branches b rest fs p
  passed_item (xor i b) rest fs p =
      at_number none (item_followers (xor i b) rest fs) (size_branches b + 2 + p) (suc (size_branches b + suc p)) (omega arith) ∙ passed_branches b rest fs p

  passed_branches : (b : Branches) (rest : Nodes) (fs : List Nodes) (p : ℕ) → seen (branch_followers b rest fs) (size_branches b + suc p) ≡ seen fs p
  passed_branches (last t) rest fs p = passed_seq t rest (rest ∷ fs) (suc p)
  passed_branches (bar t b) rest fs p =
      at_number none (branch_followers (bar t b) rest fs) (size t + (size_branches b + 1) + suc p) (size t + suc (size_branches b + suc p)) (omega arith)
      ∙ passed_seq t rest (rest ∷ branch_followers b rest fs) (suc (size_branches b + suc p))
      ∙ passed_branches b rest fs p

module _ (x r : Seq) (k : ℕ) (there : (rest : Nodes) (fs : List Nodes) → seen (seq_followers x rest (rest ∷ fs)) k ≡ follows r rest) where
  mutual
    pub followers_there : (C : Place) (rest : Nodes) (fs : List Nodes) → seen (seq_followers (filled_in C x) rest (rest ∷ fs)) (number C + k) ≡ follows r (behind C rest)
    followers_there front rest fs = at_number none (seq_followers x rest (rest ∷ fs)) (0 + k) k (omega arith) ∙ there rest fs
    followers_there (skip z C) rest fs =
        at_number none (seq_followers (cons z (filled_in C x)) rest (rest ∷ fs)) (size_item z + number C + k) (size_item z + (number C + k)) (omega arith)
        ∙ passed_item z (follows (filled_in C x) rest) (seq_followers (filled_in C x) rest (rest ∷ fs)) (number C + k)
        ∙ followers_there C rest fs
    followers_there (inside X t) rest fs = item_followers_there X (follows t rest) (seq_followers t rest (rest ∷ fs))

    item_followers_there : (X : ItemPlace) (rest : Nodes) (fs : List Nodes) → seen (item_followers (filled_item X x) rest fs) (item_number X + k) ≡ follows r (behind_item X rest)
    item_followers_there (body C i) rest fs =
        at_number none (item_followers (loop (filled_in C x) i) rest fs) (number C + 1 + k) (suc (number C + k)) (omega arith) ∙ followers_there C (just i) fs
    item_followers_there (and_branch B) rest fs =
        at_number none (item_followers (and (filled_branches B x)) rest fs) (branch_number B + 1 + k) (suc (branch_number B + k)) (omega arith)
        ∙ branch_followers_there B rest fs
    item_followers_there (xor_branch i B) rest fs =
        at_number none (item_followers (xor i (filled_branches B x)) rest fs) (branch_number B + 1 + k) (suc (branch_number B + k)) (omega arith)
        ∙ branch_followers_there B rest fs

    branch_followers_there : (B : BranchPlace) (rest : Nodes) (fs : List Nodes)
        → seen (branch_followers (filled_branches B x) rest fs) (branch_number B + k) ≡ follows r (behind_branches B rest)
    branch_followers_there (final C) rest fs = followers_there C rest fs
    branch_followers_there (leading C b) rest fs = followers_there C rest (branch_followers b rest fs)
    branch_followers_there (beyond t B) rest fs =
        at_number none (branch_followers (bar t (filled_branches B x)) rest fs) (size t + (branch_number B + 1) + k) (size t + suc (branch_number B + k)) (omega arith)
        ∙ passed_seq t rest (rest ∷ branch_followers (filled_branches B x) rest fs) (suc (branch_number B + k))
        ∙ branch_followers_there B rest fs

pub first_followers : (r : Seq) (rest : Nodes) (fs : List Nodes) → seen (seq_followers r rest (rest ∷ fs)) 0 ≡ follows r rest
first_followers nil rest fs = refl
first_followers (cons (activity i) t) rest fs = refl
first_followers (cons (loop b i) t) rest fs = refl
first_followers (cons (and b) t) rest fs = refl
first_followers (cons (xor i b) t) rest fs = refl

pub followers_between : (m r : Seq) (rest : Nodes) (fs : List Nodes) → seen (seq_followers (followed_by m r) rest (rest ∷ fs)) (size m) ≡ follows r rest
followers_between nil r rest fs = first_followers r rest fs
followers_between (cons x m) r rest fs =
    passed_item x (follows (followed_by m r) rest) (seq_followers (followed_by m r) rest (rest ∷ fs)) (size m) ∙ followers_between m r rest fs
