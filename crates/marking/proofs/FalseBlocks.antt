-- A sequence ends false exactly if it begins false. Assumes nothing.
use Rattle.std.proofs.Common.{◌≡◌, ℕ, ◌+◌, Bool, true, false, cond, List, Some, Option, refl, ap, ◌∙◌}
use Rattle.model.specs.declared.Fact.{Fact}
use Rattle.model.specs.declared.Signal.{Signal}
use Rattle.model.specs.declared.Signal.TheVariants.{True, False, None}
use Rattle.model.specs.Trees.{Seq, nil, cons, Item, activity, loop, and, xor, Branches, last, bar}
use Rattle.model.specs.Signals.{fact_of, is_done, is_false, unless_false, decided, is_branch, head_of, ends, after, all_true, decided_end}

-- every rule is: false if the signal it starts from is, else something that is not false
guarded : (g v : Signal) → (is_false g ≡ false → is_false v ≡ false) → is_false (unless_false g v) ≡ is_false g
guarded True v h = h refl
guarded False v h = refl
guarded None v h = h refl

either : (b : Bool) → is_false (cond b True None) ≡ false
either true = refl
either false = refl

head_decided : (k : Bool) (o : Option ℕ) (i : ℕ) → is_branch o i ≡ true → is_false (head_of k o i) ≡ false
head_decided k Option.None i e = absurd cc
head_decided k (Some d) i e = ap (λ b. is_false (cond b True False)) e

-- the decided branch, or what the others give
chosen : (c : Bool) (u v : Signal) → (c ≡ true → is_false u ≡ false) → is_false v ≡ false → is_false (cond c u v) ≡ false
chosen true u v f h = f refl
chosen false u v f h = h

module _ (fs : List Fact) where
  mutual
    pub ends_false : (t : Seq) (g : Signal) → is_false (ends fs t g) ≡ is_false g
    ends_false nil g = refl
    ends_false (cons x t) g = ends_false t (after fs x g) ∙ after_false x g

    pub after_false : (x : Item) (g : Signal) → is_false (after fs x g) ≡ is_false g
    after_false (activity i) g = guarded g _ (λ _. either (is_done (fact_of fs i)))
    after_false (loop t i) g = guarded (ends fs t g) _ (λ _. either (is_done (fact_of fs i))) ∙ ends_false t g
    after_false (and b) g = guarded g _ (λ _. either (all_true fs b g))
    after_false (xor i b) g = guarded g _ (λ _. decided_false b (is_false g) (decided (fact_of fs i)) 0)

    decided_false : (b : Branches) (k : Bool) (o : Option ℕ) (i : ℕ) → is_false (decided_end fs b k o i) ≡ false
    decided_false (last t) k o i = chosen (is_branch o i) (ends fs t (head_of k o i)) None (λ e. ends_false t (head_of k o i) ∙ head_decided k o i e) refl
    decided_false (bar t b) k o i = chosen (is_branch o i) (ends fs t (head_of k o i)) (decided_end fs b k o (i + 1)) (λ e. ends_false t (head_of k o i) ∙ head_decided k o i e) (decided_false b k o (i + 1))
