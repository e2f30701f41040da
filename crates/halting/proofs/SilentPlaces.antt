-- Where what stands at a place is replaced so that the signal there is halted, the followers of the place have none, if the
-- place was not false. Assumes nothing.
use Rattle.std.proofs.Common.{◌≡◌, ℕ, ◌+◌, ◌≤◌, Bool, true, false, cond, ◌&&◌, eqb, List, ◌∷◌, Option, sym, refl, ap, ◌∙◌, subst, inl, inr, arith}
use Rattle.std.specs.declared.option.Option.TheVariants as option
use Rattle.std.proofs.lemmas.Bool.{and_parts, and_right, or_cases, eqb-true, false≢true, true≢false}
use Rattle.model.specs.declared.Element.{Element}
use Rattle.model.specs.declared.Element.TheVariants.{Bar, AndJoin, XorJoin, LoopEnd}
use Rattle.model.specs.declared.Fact.{Fact}
use Rattle.model.specs.declared.Fact.TheVariants.{Nothing, Begun, Ended, Decided, Left}
use Rattle.model.specs.declared.Signal.{Signal}
use Rattle.model.specs.declared.Signal.TheVariants.{True, False, None}
use Rattle.model.specs.Trees.{Seq, Branches, last, bar, spell, spell_item, spell_branches}
use Rattle.model.specs.Signals.{fact_of, is_true, is_false, unless_false, decided, is_branch, head_of, ends, after, all_true, decided_end, gaps, gaps_item, gaps_and, gaps_xor}
use Rattle.agreement.specs.Growth.{has_fact}
use Rattle.marking.proofs.FalseBlocks.{after_false}
use Rattle.agreement.proofs.SoundRows.{Stands, past, past_item}
use Rattle.agreement.proofs.Deciders.{Sure}
use Rattle.halting.proofs.StoppedSequences.{passable, within}
use Rattle.halting.proofs.OwnSignals.{heads}
use Rattle.halting.proofs.SilentFollowers.{quiet_ends, silent}
use Rattle.halting.proofs.Places.{Place, front, skip, inside, ItemPlace, body, and_branch, xor_branch, BranchPlace, final, leading, beyond, filled_in, filled_item, filled_branches, place_signal, item_signal, branch_signal, open_behind, open_item, open_branches, next_in, next_item, next_branches}
use Rattle.halting.proofs.HaltedPlaces.{Halting}

-- the branch that the place is in, where the first one is branch n
abbrev branch_of : BranchPlace → ℕ → ℕ
branch_of (final C) n = n
branch_of (leading C b) n = n
branch_of (beyond t B) n = branch_of B (n + 1)

branch_from : (B : BranchPlace) (n : ℕ) → n ≤ branch_of B n
branch_from (final C) n = omega arith
branch_from (leading C b) n = omega arith
branch_from (beyond t B) n = let h = branch_from B (n + 1) in omega arith

-- no signal on the way to the place is false
module _ (fs : List Fact) where
  abbrev mutual
    pub Live : Place → Signal → Type 0
    Live front g = is_false g ≡ false
    Live (skip x C) g = Live C (after fs x g)
    Live (inside X t) g = (is_false g ≡ false) × LiveItem X g

    LiveItem : ItemPlace → Signal → Type 0
    LiveItem (body C i) g = Live C g
    LiveItem (and_branch B) g = LiveBranches B (λ n. g) 0
    LiveItem (xor_branch i B) g = LiveBranches B (heads fs g i) 0

    LiveBranches : BranchPlace → (ℕ → Signal) → ℕ → Type 0
    LiveBranches (final C) h n = Live C (h n)
    LiveBranches (leading C b) h n = Live C (h n)
    LiveBranches (beyond t B) h n = LiveBranches B h (n + 1)

  mutual
    live_first : (C : Place) (g : Signal) → Live C g → is_false g ≡ false
    live_first front g l = l
    live_first (skip x C) g l = sym (after_false fs x g) ∙ live_first C (after fs x g) l
    live_first (inside X t) g l = l.0

    live_branch : (B : BranchPlace) (h : ℕ → Signal) (n : ℕ) → LiveBranches B h n → is_false (h (branch_of B n)) ≡ false
    live_branch (final C) h n l = live_first C (h n) l
    live_branch (leading C b) h n l = live_first C (h n) l
    live_branch (beyond t B) h n l = live_branch B h (n + 1) l

  -- a decision whose own signal is false has no fact
  xor_live : (g : Signal) (f : Fact) (n : ℕ) → (has_fact f ≡ true → g ≡ True) → is_false (head_of (is_false g) (decided f) n) ≡ false → is_false g ≡ false
  xor_live True f n s e = refl
  xor_live None f n s e = refl
  xor_live False Nothing n s e = e
  xor_live False Begun n s e = e
  xor_live False Ended n s e = e
  xor_live False (Decided d) n s e = let k = s refl in absurd cc
  xor_live False Left n s e = e

  -- where nodes with facts have true signals, the way to a place that is not false is so
  mutual
    pub live : (r : Seq) (C : Place) (g : Signal) (ys : List Element) (us : List Signal) → Sure fs (spell (filled_in C r) ys) (gaps fs (filled_in C r) g us)
        → is_false (place_signal fs C g) ≡ false → Live C g
    live r front g ys us s e = e
    live r (skip x C) g ys us s e = live r C (after fs x g) ys us (λ j v h. s j v (past_item fs j v x g (spell (filled_in C r) ys) _ h)) e
    live r (inside X t) g ys us s e = live_item r X g (spell t ys) (gaps fs t (after fs (filled_item X r) g) us) s e

    live_item : (r : Seq) (X : ItemPlace) (g : Signal) (ys : List Element) (us : List Signal) → Sure fs (spell_item (filled_item X r) ys) (gaps_item fs (filled_item X r) g us)
        → is_false (item_signal fs X g) ≡ false → (is_false g ≡ false) × LiveItem X g
    live_item r (body C i) g ys us s e =
        let l = live r C g (LoopEnd i ∷ ys) (ends fs (filled_in C r) g ∷ us) (λ j v h. s j v (inr h)) e in (live_first C g l, l)
    live_item r (and_branch B) g ys us s e =
        let l = live_and r B g 0 AndJoin ys us (λ j v h. s j v (inr h)) e in (live_branch B (λ n. g) 0 l, l)
    live_item r (xor_branch i B) g ys us s e =
        let l = live_xor r B (is_false g) (decided (fact_of fs i)) 0 XorJoin ys us (λ j v h. s j v (inr h)) e in
        (xor_live g (fact_of fs i) (branch_of B 0) (s i g (inl (refl, refl))) (live_branch B (heads fs g i) 0 l), l)

    live_and : (r : Seq) (B : BranchPlace) (g : Signal) (n : ℕ) (z : Element) (ys : List Element) (us : List Signal)
        → Sure fs (spell_branches (filled_branches B r) (z ∷ ys)) (gaps_and fs (filled_branches B r) g us)
        → is_false (branch_signal fs B (λ m. g) n) ≡ false → LiveBranches B (λ m. g) n
    live_and r (final C) g n z ys us s e = live r C g (z ∷ ys) (ends fs (filled_in C r) g ∷ us) s e
    live_and r (leading C b) g n z ys us s e =
        live r C g (Bar ∷ spell_branches b (z ∷ ys)) (ends fs (filled_in C r) g ∷ gaps_and fs b g us) s e
    live_and r (beyond t B) g n z ys us s e =
        live_and r B g (n + 1) z ys us
        (λ j v h. s j v (past fs j v t g (Bar ∷ spell_branches (filled_branches B r) (z ∷ ys)) (ends fs t g ∷ gaps_and fs (filled_branches B r) g us) (inr h))) e

    live_xor : (r : Seq) (B : BranchPlace) (k : Bool) (o : Option ℕ) (n : ℕ) (z : Element) (ys : List Element) (us : List Signal)
        → Sure fs (spell_branches (filled_branches B r) (z ∷ ys)) (gaps_xor fs (filled_branches B r) k o n us)
        → is_false (branch_signal fs B (head_of k o) n) ≡ false → LiveBranches B (head_of k o) n
    live_xor r (final C) k o n z ys us s e = live r C (head_of k o n) (z ∷ ys) (ends fs (filled_in C r) (head_of k o n) ∷ us) s e
    live_xor r (leading C b) k o n z ys us s e =
        live r C (head_of k o n) (Bar ∷ spell_branches b (z ∷ ys)) (ends fs (filled_in C r) (head_of k o n) ∷ gaps_xor fs b k o (n + 1) us) s e
    live_xor r (beyond t B) k o n z ys us s e =
        live_xor r B k o (n + 1) z ys us
        (λ j v h. s j v (past fs j v t (head_of k o n) (Bar ∷ spell_branches (filled_branches B r) (z ∷ ys))
        (ends fs t (head_of k o n) ∷ gaps_xor fs (filled_branches B r) k o (n + 1) us) (inr h))) e

unless_none : (g v : Signal) → is_false g ≡ false → v ≡ None → unless_false g v ≡ None
unless_none True v e h = h
unless_none False v e h = absurd (true≢false e)
unless_none None v e h = h

-- the decided branch is the only one whose head is not false
not_decided : (k : Bool) (o : Option ℕ) (n m : ℕ) → is_false (head_of k o m) ≡ false → (n ≡ m → ⊥) → is_branch o n ≡ false
not_decided k option.None n m e h = refl
not_decided k (option.Some d) n m e h = go (eqb d n) refl (eqb d m) refl e
  where
    go : (b : Bool) → eqb d n ≡ b → (c : Bool) → eqb d m ≡ c → is_false (cond c True False) ≡ false → b ≡ false
    go false q c r e = refl
    go true q true r e = absurd (h (sym (eqb-true d n q) ∙ eqb-true d m r))
    go true q false r e = absurd (true≢false e)

none_decided : (fs : List Fact) (b : Branches) (k : Bool) (n : ℕ) → decided_end fs b k option.None n ≡ None
none_decided fs (last t) k n = refl
none_decided fs (bar t b) k n = none_decided fs b k (n + 1)

-- an XOR block whose decided branch ends with none, if it is there
branch_none : (k : Bool) (o : Option ℕ) (n : ℕ) (u v : Signal) → is_false (head_of k o n) ≡ false → u ≡ None → (o ≡ option.None → v ≡ None) → cond (is_branch o n) u v ≡ None
branch_none k option.None n u v l e h = h refl
branch_none k (option.Some d) n u v l e h = go (eqb d n) l
  where
    go : (c : Bool) → is_false (cond c True False) ≡ false → cond c u v ≡ None
    go true l = e
    go false l = absurd (true≢false l)

module _ (fs : List Fact) (a : ℕ) (x y rest : Seq) (mid : Signal → Signal) (H : Halting fs a x y rest mid) where
  abbrev p : Bool
  p = passable rest

  -- what no node parts from the place has none
  mutual
    place_silent : (C : Place) (g : Signal) → Live fs C g → open_behind C p ≡ true → ends fs (filled_in C y) g ≡ None
    place_silent front g l e = H.ends_new g ∙ ap (ends fs rest) (H.silent g l) ∙ quiet_ends fs rest e
    place_silent (skip z C) g l e = place_silent C (after fs z g) l e
    place_silent (inside X t) g l e =
        let q = and_parts (open_item X p) (passable t) e in
        ap (ends fs t) (item_silent X g l.0 l.1 q.0) ∙ quiet_ends fs t q.1

    item_silent : (X : ItemPlace) (g : Signal) → is_false g ≡ false → LiveItem fs X g → open_item X p ≡ true → after fs (filled_item X y) g ≡ None
    item_silent (body C i) g l m e = absurd (false≢true e)
    item_silent (and_branch B) g l m e = unless_none g _ l (ap (λ b. cond b True None) (all_silent B g 0 m e))
    item_silent (xor_branch i B) g l m e = unless_none g _ l (decided_silent B (is_false g) (decided (fact_of fs i)) 0 m e)

    all_silent : (B : BranchPlace) (g : Signal) (n : ℕ) → LiveBranches fs B (λ m. g) n → open_branches B p ≡ true → all_true fs (filled_branches B y) g ≡ false
    all_silent (final C) g n l e = ap is_true (place_silent C g l e)
    all_silent (leading C b) g n l e = ap (λ v. is_true v && all_true fs b g) (place_silent C g l e)
    all_silent (beyond t B) g n l e = and_right (is_true (ends fs t g)) _ (all_silent B g (n + 1) l e)

    decided_silent : (B : BranchPlace) (k : Bool) (o : Option ℕ) (n : ℕ) → LiveBranches fs B (head_of k o) n → open_branches B p ≡ true
        → decided_end fs (filled_branches B y) k o n ≡ None
    decided_silent (final C) k o n l e = branch_none k o n _ None (live_first fs C (head_of k o n) l) (place_silent C (head_of k o n) l e) (λ z. refl)
    decided_silent (leading C b) k o n l e =
        branch_none k o n _ (decided_end fs b k o (n + 1)) (live_first fs C (head_of k o n) l) (place_silent C (head_of k o n) l e)
        (λ z. ap (λ w. decided_end fs b k w (n + 1)) z ∙ none_decided fs b k (n + 1))
    decided_silent (beyond t B) k o n l e =
        let h = branch_from B (n + 1) in
        ap (λ c. cond c (ends fs t (head_of k o n)) (decided_end fs (filled_branches B y) k o (n + 1)))
        (not_decided k o n (branch_of B (n + 1)) (live_branch fs B (head_of k o) (n + 1) l) (λ q. omega arith))
        ∙ decided_silent B k o (n + 1) l e

  module _ (i : ℕ) where
    abbrev f : ℕ → Bool
    f = within rest

    mutual
      pub place_stands : (C : Place) (g : Signal) (ys : List Element) (us : List Signal) → Live fs C g → next_in C p f i ≡ true
          → Stands (spell (filled_in C y) ys) (gaps fs (filled_in C y) g us) i None
      place_stands front g ys us l e =
          H.stands_new g i None ys us (subst (λ v. Stands (spell rest ys) (gaps fs rest v us) i None) (sym (H.silent g l)) (silent fs i rest ys us e))
      place_stands (skip z C) g ys us l e =
          past_item fs i None z g (spell (filled_in C y) ys) (gaps fs (filled_in C y) (after fs z g) us) (place_stands C (after fs z g) ys us l e)
      place_stands (inside X t) g ys us l e = elim (or_cases (next_item X p f i) (open_item X p && within t i) e) [
        | inl k ↦ item_stands X g (spell t ys) (gaps fs t (after fs (filled_item X y) g) us) l.0 l.1 k
        | inr k ↦
            let q = and_parts (open_item X p) (within t i) k in
            past_item fs i None (filled_item X y) g (spell t ys) (gaps fs t (after fs (filled_item X y) g) us)
            (subst (λ v. Stands (spell t ys) (gaps fs t v us) i None) (sym (item_silent X g l.0 l.1 q.0)) (silent fs i t ys us q.1))
      ]

      item_stands : (X : ItemPlace) (g : Signal) (ys : List Element) (us : List Signal) → is_false g ≡ false → LiveItem fs X g → next_item X p f i ≡ true
          → Stands (spell_item (filled_item X y) ys) (gaps_item fs (filled_item X y) g us) i None
      item_stands (body C j) g ys us l m e = elim (or_cases (next_in C p f i) (open_behind C p && eqb i j) e) [
        | inl k ↦ inr (place_stands C g (LoopEnd j ∷ ys) (ends fs (filled_in C y) g ∷ us) m k)
        | inr k ↦
            let q = and_parts (open_behind C p) (eqb i j) k in
            inr (past fs i None (filled_in C y) g (LoopEnd j ∷ ys) (ends fs (filled_in C y) g ∷ us) (inl (eqb-true i j q.1, sym (place_silent C g m q.0))))
      ]
      item_stands (and_branch B) g ys us l m e = inr (and_stands B g 0 AndJoin ys us m e)
      item_stands (xor_branch j B) g ys us l m e = inr (xor_stands B (is_false g) (decided (fact_of fs j)) 0 XorJoin ys us m e)

      and_stands : (B : BranchPlace) (g : Signal) (n : ℕ) (z : Element) (ys : List Element) (us : List Signal) → LiveBranches fs B (λ m. g) n → next_branches B p f i ≡ true
          → Stands (spell_branches (filled_branches B y) (z ∷ ys)) (gaps_and fs (filled_branches B y) g us) i None
      and_stands (final C) g n z ys us l e = place_stands C g (z ∷ ys) (ends fs (filled_in C y) g ∷ us) l e
      and_stands (leading C b) g n z ys us l e = place_stands C g (Bar ∷ spell_branches b (z ∷ ys)) (ends fs (filled_in C y) g ∷ gaps_and fs b g us) l e
      and_stands (beyond t B) g n z ys us l e =
          past fs i None t g (Bar ∷ spell_branches (filled_branches B y) (z ∷ ys)) (ends fs t g ∷ gaps_and fs (filled_branches B y) g us)
          (inr (and_stands B g (n + 1) z ys us l e))

      xor_stands : (B : BranchPlace) (k : Bool) (o : Option ℕ) (n : ℕ) (z : Element) (ys : List Element) (us : List Signal) → LiveBranches fs B (head_of k o) n
          → next_branches B p f i ≡ true → Stands (spell_branches (filled_branches B y) (z ∷ ys)) (gaps_xor fs (filled_branches B y) k o n us) i None
      xor_stands (final C) k o n z ys us l e = place_stands C (head_of k o n) (z ∷ ys) (ends fs (filled_in C y) (head_of k o n) ∷ us) l e
      xor_stands (leading C b) k o n z ys us l e =
          place_stands C (head_of k o n) (Bar ∷ spell_branches b (z ∷ ys)) (ends fs (filled_in C y) (head_of k o n) ∷ gaps_xor fs b k o (n + 1) us) l e
      xor_stands (beyond t B) k o n z ys us l e =
          past fs i None t (head_of k o n) (Bar ∷ spell_branches (filled_branches B y) (z ∷ ys))
          (ends fs t (head_of k o n) ∷ gaps_xor fs (filled_branches B y) k o (n + 1) us) (inr (xor_stands B k o (n + 1) z ys us l e))
