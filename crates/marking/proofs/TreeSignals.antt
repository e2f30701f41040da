-- On the row of a tree the pass from left to right gives the signals of the tree. Assumes nothing.
use Rattle.std.proofs.Common.{◌≡◌, ℕ, ◌+◌, ◌-◌, Bool, true, false, cond, ◌&&◌, ltb, List, [], ◌∷◌, Some, Option, refl, ap, ◌∙◌, arith}
use Rattle.std.proofs.lemmas.Bool.Decides.{nat_tests}
use Rattle.model.specs.declared.Element.{Element}
use Rattle.model.specs.declared.Element.TheVariants.{Bar, AndJoin, XorJoin, LoopEnd}
use Rattle.model.specs.declared.Fact.{Fact}
use Rattle.model.specs.declared.Fact.TheVariants.{Nothing, Begun, Ended, Decided, Left}
use Rattle.model.specs.declared.Signal.{Signal}
use Rattle.model.specs.declared.Signal.TheVariants.{True, False, None}
use Rattle.marking.specs.declared.signals.Choice.{Choice}
use Rattle.marking.specs.declared.signals.Choice.TheVariants.{Undecided, Ahead, Behind}
use Rattle.marking.specs.declared.signals.Opened.{Opened}
use Rattle.marking.specs.declared.signals.Opened.TheVariants.{And, Xor}
use Rattle.model.specs.Trees.{Seq, nil, cons, Item, activity, loop, and, xor, Branches, last, bar, spell, spell_item, spell_branches}
use Rattle.model.specs.Signals.{fact_of, is_true, is_false, and_joined, decided, is_branch, head_of, ends, after, all_true, decided_end, gaps, gaps_item, gaps_and, gaps_xor}
use Rattle.marking.specs.Machine.{choice_of, chosen, turned, ending, gap, start, signals, OfTree}

pub and_assoc : (a b c : Bool) → ((a && b) && c) ≡ (a && (b && c))
and_assoc true b c = refl
and_assoc false b c = refl

-- The choice of an open XOR block at branch i, where e ended the decided branch if that is behind.
abbrev pub choice_at : Option ℕ → ℕ → Signal → Choice
choice_at Option.None i e = Undecided
choice_at (Some d) i e = cond (ltb d i) (Behind e) (Ahead (d - i))

-- What ended the decided branch, if it was before branch i, else what is found from there on.
abbrev pub found : Option ℕ → ℕ → Signal → Signal → Signal
found Option.None i e later = later
found (Some d) i e later = cond (ltb d i) e later

pub head_at : (k : Bool) (o : Option ℕ) (i : ℕ) (e : Signal) → chosen k (choice_at o i e) ≡ head_of k o i
head_at k Option.None i e = refl
head_at k (Some d) i e = grind (arith, nat_tests)

pub turned_at : (o : Option ℕ) (i : ℕ) (e g : Signal) → turned (choice_at o i e) g ≡ choice_at o (i + 1) (cond (is_branch o i) g e)
turned_at Option.None i e g = refl
turned_at (Some d) i e g = grind (arith, nat_tests)

pub found_more : (o : Option ℕ) (i : ℕ) (e g later : Signal)
    → found o (i + 1) (cond (is_branch o i) g e) later ≡ found o i e (cond (is_branch o i) g later)
found_more Option.None i e g later = refl
found_more (Some d) i e g later = grind (arith, nat_tests)

pub found_last : (o : Option ℕ) (i : ℕ) (e g : Signal) → ending (choice_at o (i + 1) (cond (is_branch o i) g e)) ≡ found o i e (cond (is_branch o i) g None)
found_last Option.None i e g = refl
found_last (Some d) i e g = grind (arith, nat_tests)

pub found_first : (o : Option ℕ) (e later : Signal) → found o 0 e later ≡ later
found_first Option.None e later = refl
found_first (Some d) e later = grind (arith, nat_tests)

pub choice_first : (f : Fact) → choice_of f ≡ choice_at (decided f) 0 None
choice_first Nothing = refl
choice_first Begun = refl
choice_first Ended = refl
choice_first (Decided d) = grind (arith, nat_tests)
choice_first Left = refl

module _ (fs : List Fact) where
  mutual
    on_seq : (t : Seq) (g : Signal) (s : List Opened) (ys : List Element)
        → signals fs (gap g s) (spell t ys) ≡ gaps fs t g (signals fs (gap (ends fs t g) s) ys)
    on_seq nil g s ys = refl
    on_seq (cons x t) g s ys = on_item x g s (spell t ys) ∙ ap (gaps_item fs x g) (on_seq t (after fs x g) s ys)

    on_item : (x : Item) (g : Signal) (s : List Opened) (ys : List Element)
        → signals fs (gap g s) (spell_item x ys) ≡ gaps_item fs x g (signals fs (gap (after fs x g) s) ys)
    on_item (activity i) g s ys = refl
    on_item (loop t i) g s ys = ap (λ r. g ∷ r) (on_seq t g s (LoopEnd i ∷ ys))
    on_item (and b) g s ys = ap (λ r. g ∷ r) (on_and b g true s ys)
    on_item (xor i b) g s ys =
        let k = is_false g in
        let o = decided (fact_of fs i) in
        ap (λ c. g ∷ signals fs (gap (chosen k c) (Xor k c ∷ s)) (spell_branches b (XorJoin ∷ ys))) (choice_first (fact_of fs i))
        ∙ ap (λ v. g ∷ signals fs (gap v (Xor k (choice_at o 0 None) ∷ s)) (spell_branches b (XorJoin ∷ ys))) (head_at k o 0 None)
        ∙ ap (λ r. g ∷ r) (on_xor b k o 0 None s ys)
        ∙ ap (λ v. g ∷ gaps_xor fs b k o 0 (signals fs (gap (cond k False v) s) ys)) (found_first o None (decided_end fs b k o 0))

    on_and : (b : Branches) (g : Signal) (all : Bool) (s : List Opened) (ys : List Element)
        → signals fs (gap g (And g all ∷ s)) (spell_branches b (AndJoin ∷ ys))
        ≡ gaps_and fs b g (signals fs (gap (and_joined g (all && all_true fs b g)) s) ys)
    on_and (last t) g all s ys = on_seq t g (And g all ∷ s) (AndJoin ∷ ys)
    on_and (bar t b) g all s ys =
        on_seq t g (And g all ∷ s) (Bar ∷ spell_branches b (AndJoin ∷ ys))
        ∙ ap (λ r. gaps fs t g (ends fs t g ∷ r)) (on_and b g (all && is_true (ends fs t g)) s ys)
        ∙ ap (λ v. gaps fs t g (ends fs t g ∷ gaps_and fs b g (signals fs (gap (and_joined g v) s) ys))) (and_assoc all (is_true (ends fs t g)) (all_true fs b g))

    on_xor : (b : Branches) (k : Bool) (o : Option ℕ) (i : ℕ) (e : Signal) (s : List Opened) (ys : List Element)
        → signals fs (gap (head_of k o i) (Xor k (choice_at o i e) ∷ s)) (spell_branches b (XorJoin ∷ ys))
        ≡ gaps_xor fs b k o i (signals fs (gap (cond k False (found o i e (decided_end fs b k o i))) s) ys)
    on_xor (last t) k o i e s ys =
        on_seq t (head_of k o i) (Xor k (choice_at o i e) ∷ s) (XorJoin ∷ ys)
        ∙ ap (λ v. gaps fs t (head_of k o i) (ends fs t (head_of k o i) ∷ signals fs (gap (cond k False v) s) ys))
        (ap ending (turned_at o i e (ends fs t (head_of k o i))) ∙ found_last o i e (ends fs t (head_of k o i)))
    on_xor (bar t b) k o i e s ys =
        let g = ends fs t (head_of k o i) in
        let e' = cond (is_branch o i) g e in
        on_seq t (head_of k o i) (Xor k (choice_at o i e) ∷ s) (Bar ∷ spell_branches b (XorJoin ∷ ys))
        ∙ ap (λ v. gaps fs t (head_of k o i) (g ∷ signals fs (gap (chosen k v) (Xor k v ∷ s)) (spell_branches b (XorJoin ∷ ys)))) (turned_at o i e g)
        ∙ ap (λ v. gaps fs t (head_of k o i) (g ∷ signals fs (gap v (Xor k (choice_at o (i + 1) e') ∷ s)) (spell_branches b (XorJoin ∷ ys)))) (head_at k o (i + 1) e')
        ∙ ap (λ r. gaps fs t (head_of k o i) (g ∷ r)) (on_xor b k o (i + 1) e' s ys)
        ∙ ap (λ v. gaps fs t (head_of k o i) (g ∷ gaps_xor fs b k o (i + 1) (signals fs (gap (cond k False v) s) ys))) (found_more o i e g (decided_end fs b k o (i + 1)))

  pub on_tree : (xs : List Element) (gs : List Signal) → gs ≡ signals fs start xs → OfTree fs xs gs
  on_tree xs gs is t e = is ∙ ap (signals fs start) e ∙ on_seq t True [] []
