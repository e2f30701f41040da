-- Where what stands at a place is replaced so that the signal there is halted, the followers of the place are halted alone.
-- Assumes nothing.
use Rattle.std.proofs.Common.{◌≡◌, ℕ, ◌+◌, Bool, true, false, ◌&&◌, eqb, List, Option, sym, subst, inl}
use Rattle.model.specs.declared.Element.{Element}
use Rattle.model.specs.declared.Fact.{Fact}
use Rattle.model.specs.declared.Signal.{Signal}
use Rattle.model.specs.declared.Signal.TheVariants.{None}
use Rattle.model.specs.Trees.{Seq, spell}
use Rattle.model.specs.Signals.{fact_of, is_true, is_false, decided, is_branch, head_of, ends, after, all_true, decided_end, gaps}
use Rattle.agreement.proofs.SoundRows.{Stands}
use Rattle.halting.proofs.StoppedSequences.{passable, within}
use Rattle.halting.proofs.OwnSignals.{first, at, heads, own_of, own_of_item, own_of_branches}
use Rattle.halting.proofs.HaltedSignals.{Slowed, Halted, halted_first, halted_behind, halted_before, halted_at, slowed_ends, slowed_own, slowed_node, slowed_guarded, Lost, lost_true, lost_left, lost_right, slowed_joined, slowed_cond, slowed_else}
use Rattle.halting.proofs.Places.{Place, front, skip, inside, ItemPlace, body, and_branch, xor_branch, BranchPlace, final, leading, beyond, filled_in, filled_item, filled_branches, place_signal, item_signal, branch_signal, open_behind, open_item, open_branches, next_in, next_item, next_branches}

-- x became y, which both end in `rest`: behind what is kept of x the signal was `mid`, and is `now`. Node a is new.
pub record Halting (fs : List Fact) (a : ℕ) (x y rest : Seq) (mid : Signal → Signal) : Type 0 where
  pub now : Signal → Signal
  pub kept : Signal → ℕ → Option Signal
  pub as_false : (g : Signal) → is_false (mid g) ≡ is_false g
  pub slowed : (g : Signal) → Slowed (is_true (mid g) ≡ true) true (mid g) (now g)
  pub silent : (g : Signal) → is_false g ≡ false → now g ≡ None
  pub ends_old : (g : Signal) → ends fs x g ≡ ends fs rest (mid g)
  pub ends_new : (g : Signal) → ends fs y g ≡ ends fs rest (now g)
  pub own_old : (g : Signal) (i : ℕ) → own_of fs x g i ≡ first (kept g i) (own_of fs rest (mid g) i)
  pub own_new : (g : Signal) (i : ℕ) → (i ≡ a → ⊥) → own_of fs y g i ≡ first (kept g i) (own_of fs rest (now g) i)
  pub stands_new : (g : Signal) (i : ℕ) (v : Signal) (ys : List Element) (us : List Signal)
      → Stands (spell rest ys) (gaps fs rest (now g) us) i v → Stands (spell y ys) (gaps fs y g us) i v

module _ (fs : List Fact) (a : ℕ) (x y rest : Seq) (mid : Signal → Signal) (H : Halting fs a x y rest mid) where
  abbrev p : Bool
  p = passable rest

  -- the signal at the place is true
  abbrev On : Signal → Type 0
  On g = is_true (mid g) ≡ true

  mutual
    place_ends : (C : Place) (g : Signal) → Slowed (On (place_signal fs C g)) (open_behind C p) (ends fs (filled_in C x) g) (ends fs (filled_in C y) g)
    place_ends front g =
        subst (λ v. Slowed (On g) p v (ends fs y g)) (sym (H.ends_old g))
        (subst (λ v. Slowed (On g) p (ends fs rest (mid g)) v) (sym (H.ends_new g)) (slowed_ends (On g) fs rest true (mid g) (H.now g) (H.slowed g)))
    place_ends (skip z C) g = place_ends C (after fs z g)
    place_ends (inside X t) g = slowed_ends (On (item_signal fs X g)) fs t (open_item X p) _ _ (place_after X g)

    place_after : (X : ItemPlace) (g : Signal) → Slowed (On (item_signal fs X g)) (open_item X p) (after fs (filled_item X x) g) (after fs (filled_item X y) g)
    place_after (body C i) g = inl (slowed_node (On (place_signal fs C g)) (open_behind C p) _ _ (fact_of fs i) (place_ends C g))
    place_after (and_branch B) g = slowed_joined (On (branch_signal fs B (λ n. g) 0)) g (open_branches B p) _ _ (place_all B g 0)
    place_after (xor_branch i B) g =
        slowed_guarded (On (branch_signal fs B (heads fs g i) 0)) g (open_branches B p) _ _ (place_decided B (is_false g) (decided (fact_of fs i)) 0)

    place_all : (B : BranchPlace) (g : Signal) (n : ℕ) → Lost (On (branch_signal fs B (λ n. g) n)) (open_branches B p) (all_true fs (filled_branches B x) g) (all_true fs (filled_branches B y) g)
    place_all (final C) g n = lost_true (On (place_signal fs C g)) (open_behind C p) _ _ (place_ends C g)
    place_all (leading C b) g n = lost_left (On (place_signal fs C g)) (open_behind C p) _ _ (all_true fs b g) (lost_true (On (place_signal fs C g)) (open_behind C p) _ _ (place_ends C g))
    place_all (beyond t B) g n = lost_right (On (branch_signal fs B (λ n. g) (n + 1))) (open_branches B p) (is_true (ends fs t g)) _ _ (place_all B g (n + 1))

    place_decided : (B : BranchPlace) (k : Bool) (o : Option ℕ) (n : ℕ)
        → Slowed (On (branch_signal fs B (head_of k o) n)) (open_branches B p) (decided_end fs (filled_branches B x) k o n) (decided_end fs (filled_branches B y) k o n)
    place_decided (final C) k o n = slowed_cond (On (place_signal fs C (head_of k o n))) (is_branch o n) (open_behind C p) _ _ None (place_ends C (head_of k o n))
    place_decided (leading C b) k o n =
        slowed_cond (On (place_signal fs C (head_of k o n))) (is_branch o n) (open_behind C p) _ _ (decided_end fs b k o (n + 1)) (place_ends C (head_of k o n))
    place_decided (beyond t B) k o n =
        slowed_else (On (branch_signal fs B (head_of k o) (n + 1))) (is_branch o n) (open_branches B p) _ _ (ends fs t (head_of k o n)) (place_decided B k o (n + 1))

  module _ (i : ℕ) (old : i ≡ a → ⊥) where
    abbrev f : ℕ → Bool
    f = within rest

    mutual
      pub place_own : (C : Place) (g : Signal) → Halted (On (place_signal fs C g)) (next_in C p f i) (own_of fs (filled_in C x) g i) (own_of fs (filled_in C y) g i)
      place_own front g =
          subst (λ v. Halted (On g) (f i) v (own_of fs y g i)) (sym (H.own_old g i))
          (subst (λ v. Halted (On g) (f i) (first (H.kept g i) (own_of fs rest (mid g) i)) v) (sym (H.own_new g i old))
          (halted_behind (On g) (f i) (H.kept g i) _ _ (slowed_own (On g) fs i rest true (mid g) (H.now g) (H.slowed g))))
      place_own (skip z C) g = halted_behind (On (place_signal fs C (after fs z g))) (next_in C p f i) (own_of_item fs z g i) _ _ (place_own C (after fs z g))
      place_own (inside X t) g =
          halted_first (On (item_signal fs X g)) (next_item X p f i) (open_item X p && within t i) _ _ _ _ (place_own_item X g)
          (slowed_own (On (item_signal fs X g)) fs i t (open_item X p) _ _ (place_after X g))

      place_own_item : (X : ItemPlace) (g : Signal) → Halted (On (item_signal fs X g)) (next_item X p f i) (own_of_item fs (filled_item X x) g i) (own_of_item fs (filled_item X y) g i)
      place_own_item (body C j) g =
          halted_first (On (place_signal fs C g)) (next_in C p f i) (open_behind C p && eqb i j) _ _ _ _ (place_own C g)
          (halted_at (On (place_signal fs C g)) j i (open_behind C p) _ _ (place_ends C g))
      place_own_item (and_branch B) g = place_own_branches B (λ n. g) 0
      place_own_item (xor_branch j B) g =
          halted_behind (On (branch_signal fs B (heads fs g j) 0)) (next_branches B p f i) (at j i g) _ _ (place_own_branches B (heads fs g j) 0)

      place_own_branches : (B : BranchPlace) (h : ℕ → Signal) (n : ℕ)
          → Halted (On (branch_signal fs B h n)) (next_branches B p f i) (own_of_branches fs (filled_branches B x) h n i) (own_of_branches fs (filled_branches B y) h n i)
      place_own_branches (final C) h n = place_own C (h n)
      place_own_branches (leading C b) h n = halted_before (On (place_signal fs C (h n))) (next_in C p f i) _ _ (own_of_branches fs b h (n + 1) i) (place_own C (h n))
      place_own_branches (beyond t B) h n = halted_behind (On (branch_signal fs B h (n + 1))) (next_branches B p f i) (own_of fs t (h n) i) _ _ (place_own_branches B h (n + 1))
