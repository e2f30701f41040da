-- Where facts grow as signals let them, the signals of a tree's row grow. Assumes nothing.
use Rattle.std.proofs.Common.{◌≡◌, ℕ, zero, suc, ◌+◌, Bool, true, false, cond, ◌&&◌, eqb, List, [], ◌∷◌, Option, sym, refl, ap, ◌∙◌, subst, ap₂, inl, inr}
use Rattle.std.specs.declared.option.Option.TheVariants as option
use Rattle.std.proofs.lemmas.Bool.{and_parts, and_from, false≢true}
use Rattle.model.specs.declared.Element.{Element}
use Rattle.model.specs.declared.Element.TheVariants.{Bar, AndJoin, XorJoin, LoopEnd}
use Rattle.model.specs.declared.Fact.{Fact}
use Rattle.model.specs.declared.Fact.TheVariants.{Nothing, Begun, Ended, Decided, Left}
use Rattle.model.specs.declared.Signal.{Signal}
use Rattle.model.specs.declared.Signal.TheVariants.{True, False, None}
use Rattle.model.specs.Trees.{Seq, nil, cons, Item, activity, loop, and, xor, Branches, last, bar, spell, spell_item, spell_branches, flatten}
use Rattle.model.specs.Signals.{fact_of, is_done, is_true, is_false, after_node, and_joined, decided, head_of, ends, after, all_true, decided_end, gaps, gaps_item, gaps_and, gaps_xor, tree_signals}
use Rattle.agreement.specs.Growth.{Grown, Leq}
use Rattle.agreement.proofs.SoundRows.{Stands, Leqs, past, past_item}

-- how the fact of a node with this own signal may change
abbrev pub Rule : Signal → Fact → Fact → Type 0
Rule True f k = Grown f k
Rule False f k = (f ≡ Nothing) × (k ≡ Nothing)
Rule None f k = f ≡ Nothing

pub leq_refl : (u : Signal) → Leq u u
leq_refl True = refl
leq_refl False = refl
leq_refl None = tt

leqs_cons : (u v : Signal) (us vs : List Signal) → Leq u v → Leqs us vs → Leqs (u ∷ us) (v ∷ vs)
leqs_cons u v us vs l ls zero = l
leqs_cons u v us vs l ls (suc p) = ls p

done_grown : (f k : Fact) → Grown f k → is_done f ≡ true → is_done k ≡ true
done_grown Nothing k h e = absurd (false≢true e)
done_grown Begun k h e = absurd (false≢true e)
done_grown Ended k h e = ap is_done h
done_grown (Decided d) k h e = ap is_done h
done_grown Left k h e = ap is_done h

leq_mark : (b c : Bool) → (b ≡ true → c ≡ true) → Leq (cond b True None) (cond c True None)
leq_mark true c h = ap (λ x. cond x True None) (h refl)
leq_mark false c h = tt

leq_cond : (b : Bool) (u v x y : Signal) → Leq u v → Leq x y → Leq (cond b u x) (cond b v y)
leq_cond true u v x y l m = l
leq_cond false u v x y l m = m

true_leq : (u v : Signal) → Leq u v → is_true u ≡ true → is_true v ≡ true
true_leq True v l e = ap is_true l
true_leq False v l e = absurd (false≢true e)
true_leq None v l e = absurd (false≢true e)

quiet_node : (u : Signal) (f k : Fact) → u ≡ None → Rule u f k → after_node u f ≡ None
quiet_node u f k e r = let n : f ≡ Nothing = subst (λ w. Rule w f k) e r in ap₂ after_node e n

grow_node : (u v : Signal) (f k : Fact) → Leq u v → Rule u f k → Leq (after_node u f) (after_node v k)
grow_node True v f k l r = subst (λ w. Leq (after_node True f) (after_node w k)) (sym l) (leq_mark (is_done f) (is_done k) (done_grown f k r))
grow_node False v f k l r = ap (λ w. after_node w k) l
grow_node None v f k l r = subst (λ x. Leq (after_node None x) (after_node v k)) (sym r) tt

-- the heads of an XOR block's branches
grow_true_head : (f k : Fact) → Grown f k → (n : ℕ) → Leq (head_of false (decided f) n) (head_of false (decided k) n)
grow_true_head Nothing k r n = tt
grow_true_head Begun k r n = tt
grow_true_head Ended k r n = tt
grow_true_head (Decided d) k r n = subst (λ x. Leq (head_of false (option.Some d) n) (head_of false (decided x) n)) (sym r) (leq_refl (head_of false (option.Some d) n))
grow_true_head Left k r n = tt

grow_head : (u v : Signal) (f k : Fact) → Leq u v → Rule u f k → (n : ℕ) → Leq (head_of (is_false u) (decided f) n) (head_of (is_false v) (decided k) n)
grow_head True v f k l r n = subst (λ w. Leq (head_of false (decided f) n) (head_of (is_false w) (decided k) n)) (sym l) (grow_true_head f k r n)
grow_head False v f k l r n =
    subst (λ x. Leq (head_of true (decided x) n) (head_of (is_false v) (decided k) n)) (sym r.0)
    (ap₂ (λ w x. head_of (is_false w) (decided x) n) l r.1)
grow_head None v f k l r n = subst (λ x. Leq (head_of false (decided x) n) (head_of (is_false v) (decided k) n)) (sym r) tt

module _ (fs gs : List Fact) where
  abbrev pub Fit : List Element → List Signal → Type 0
  Fit xs us = (i : ℕ) (v : Signal) → Stands xs us i v → Rule v (fact_of fs i) (fact_of gs i)

  none_decided : (b : Branches) (k : Bool) (n : ℕ) → decided_end fs b k option.None n ≡ None
  none_decided (last t) k n = refl
  none_decided (bar t b) k n = none_decided b k (n + 1)

  -- what begins with none ends with none
  mutual
    quiet : (t : Seq) (ys : List Element) (rest : List Signal) → Fit (spell t ys) (gaps fs t None rest) → ends fs t None ≡ None
    quiet nil ys rest F = refl
    quiet (cons x t) ys rest F =
        let e = quiet_item x (spell t ys) (gaps fs t (after fs x None) rest) F in
        let tail : Fit (spell t ys) (gaps fs t (after fs x None) rest) = λ i v h. F i v (past_item fs i v x None (spell t ys) _ h) in
        ap (ends fs t) e ∙ quiet t ys rest (subst (λ w. Fit (spell t ys) (gaps fs t w rest)) e tail)

    quiet_item : (x : Item) (ys : List Element) (rest : List Signal) → Fit (spell_item x ys) (gaps_item fs x None rest) → after fs x None ≡ None
    quiet_item (activity i) ys rest F = quiet_node None (fact_of fs i) (fact_of gs i) refl (F i None (inl (refl, refl)))
    quiet_item (loop t i) ys rest F =
        let u = ends fs t None in
        let e = quiet t (LoopEnd i ∷ ys) (ends fs t None ∷ rest) (λ j v h. F j v (inr h)) in
        quiet_node u (fact_of fs i) (fact_of gs i) e (F i u (inr (past fs i u t None (LoopEnd i ∷ ys) (u ∷ rest) (inl (refl, refl)))))
    quiet_item (and b) ys rest F = ap (λ c. cond c True None) (quiet_and b AndJoin ys rest (λ j v h. F j v (inr h)))
    quiet_item (xor i b) ys rest F =
        ap (λ f. decided_end fs b false (decided f) 0) (F i None (inl (refl, refl))) ∙ none_decided b false 0

    quiet_and : (b : Branches) (z : Element) (ys : List Element) (rest : List Signal) → Fit (spell_branches b (z ∷ ys)) (gaps_and fs b None rest) → all_true fs b None ≡ false
    quiet_and (last t) z ys rest F = ap is_true (quiet t (z ∷ ys) (ends fs t None ∷ rest) F)
    quiet_and (bar t b) z ys rest F =
        ap (λ u. is_true u && all_true fs b None) (quiet t (Bar ∷ spell_branches b (z ∷ ys)) (ends fs t None ∷ gaps_and fs b None rest) F)

  -- what a sequence ends with grows
  grow_joined : (g h : Signal) (a c : Bool) → Leq g h → (g ≡ None → a ≡ false) → (a ≡ true → c ≡ true) → Leq (and_joined g a) (and_joined h c)
  grow_joined True h a c l q m = subst (λ w. Leq (and_joined True a) (and_joined w c)) (sym l) (leq_mark a c m)
  grow_joined False h a c l q m = ap (λ w. and_joined w c) l
  grow_joined None h a c l q m = subst (λ x. Leq (and_joined None x) (and_joined h c)) (sym (q refl)) tt

  grow_xor : (i : ℕ) (b : Branches) (g h : Signal) (ys : List Element) (rest : List Signal) → Leq g h → Rule g (fact_of fs i) (fact_of gs i)
      → Fit (spell_branches b (XorJoin ∷ ys)) (gaps_xor fs b (is_false g) (decided (fact_of fs i)) 0 rest)
      → ((d : ℕ) → Fit (spell_branches b (XorJoin ∷ ys)) (gaps_xor fs b false (option.Some d) 0 rest) → Leq (decided_end fs b false (option.Some d) 0) (decided_end gs b false (option.Some d) 0))
      → Leq (after fs (xor i b) g) (after gs (xor i b) h)
  grow_xor i b True h ys rest l r F rec =
      subst (λ w. Leq (after fs (xor i b) True) (after gs (xor i b) w)) (sym l) (go (fact_of fs i) (fact_of gs i) r F)
    where
      go : (f k : Fact) → Grown f k → Fit (spell_branches b (XorJoin ∷ ys)) (gaps_xor fs b false (decided f) 0 rest)
          → Leq (decided_end fs b false (decided f) 0) (decided_end gs b false (decided k) 0)
      go Nothing k q F = subst (λ u. Leq u (decided_end gs b false (decided k) 0)) (sym (none_decided b false 0)) tt
      go Begun k q F = subst (λ u. Leq u (decided_end gs b false (decided k) 0)) (sym (none_decided b false 0)) tt
      go Ended k q F = subst (λ u. Leq u (decided_end gs b false (decided k) 0)) (sym (none_decided b false 0)) tt
      go (Decided d) k q F = subst (λ x. Leq (decided_end fs b false (option.Some d) 0) (decided_end gs b false (decided x) 0)) (sym q) (rec d F)
      go Left k q F = subst (λ u. Leq u (decided_end gs b false (decided k) 0)) (sym (none_decided b false 0)) tt
  grow_xor i b False h ys rest l r F rec = ap (after gs (xor i b)) l
  grow_xor i b None h ys rest l r F rec =
      subst (λ u. Leq u (after gs (xor i b) h)) (sym (ap (λ f. decided_end fs b false (decided f) 0) r ∙ none_decided b false 0)) tt

  mutual
    pub grow_ends : (t : Seq) (g h : Signal) (ys : List Element) (rest : List Signal) → Leq g h → Fit (spell t ys) (gaps fs t g rest) → Leq (ends fs t g) (ends gs t h)
    grow_ends nil g h ys rest l F = l
    grow_ends (cons x t) g h ys rest l F =
        grow_ends t (after fs x g) (after gs x h) ys rest (grow_after x g h (spell t ys) (gaps fs t (after fs x g) rest) l F)
        (λ i v s. F i v (past_item fs i v x g (spell t ys) _ s))

    pub grow_after : (x : Item) (g h : Signal) (ys : List Element) (rest : List Signal) → Leq g h → Fit (spell_item x ys) (gaps_item fs x g rest) → Leq (after fs x g) (after gs x h)
    grow_after (activity i) g h ys rest l F = grow_node g h (fact_of fs i) (fact_of gs i) l (F i g (inl (refl, refl)))
    grow_after (loop t i) g h ys rest l F =
        let u = ends fs t g in
        grow_node u (ends gs t h) (fact_of fs i) (fact_of gs i) (grow_ends t g h (LoopEnd i ∷ ys) (ends fs t g ∷ rest) l (λ j v s. F j v (inr s)))
        (F i u (inr (past fs i u t g (LoopEnd i ∷ ys) (u ∷ rest) (inl (refl, refl)))))
    grow_after (and b) g h ys rest l F =
        grow_joined g h (all_true fs b g) (all_true gs b h) l
        (λ e. ap (all_true fs b) e ∙ quiet_and b AndJoin ys rest (subst (λ w. Fit (spell_branches b (AndJoin ∷ ys)) (gaps_and fs b w rest)) e (λ j v s. F j v (inr s))))
        (grow_all b g h AndJoin ys rest l (λ j v s. F j v (inr s)))
    grow_after (xor i b) g h ys rest l F =
        grow_xor i b g h ys rest l (F i g (inl (refl, refl))) (λ j v s. F j v (inr s))
        (λ d. grow_decided b false d 0 XorJoin ys rest)

    grow_all : (b : Branches) (g h : Signal) (z : Element) (ys : List Element) (rest : List Signal) → Leq g h → Fit (spell_branches b (z ∷ ys)) (gaps_and fs b g rest)
        → all_true fs b g ≡ true → all_true gs b h ≡ true
    grow_all (last t) g h z ys rest l F e = true_leq (ends fs t g) (ends gs t h) (grow_ends t g h (z ∷ ys) (ends fs t g ∷ rest) l F) e
    grow_all (bar t b) g h z ys rest l F e =
        let p = and_parts (is_true (ends fs t g)) (all_true fs b g) e in
        and_from (is_true (ends gs t h)) (all_true gs b h)
        (true_leq (ends fs t g) (ends gs t h) (grow_ends t g h (Bar ∷ spell_branches b (z ∷ ys)) (ends fs t g ∷ gaps_and fs b g rest) l F) p.0)
        (grow_all b g h z ys rest l (λ j v s. F j v (past fs j v t g (Bar ∷ spell_branches b (z ∷ ys)) (ends fs t g ∷ gaps_and fs b g rest) (inr s))) p.1)

    grow_decided : (b : Branches) (k : Bool) (d n : ℕ) (z : Element) (ys : List Element) (rest : List Signal)
        → Fit (spell_branches b (z ∷ ys)) (gaps_xor fs b k (option.Some d) n rest) → Leq (decided_end fs b k (option.Some d) n) (decided_end gs b k (option.Some d) n)
    grow_decided (last t) k d n z ys rest F =
        let u = head_of k (option.Some d) n in
        leq_cond (eqb d n) (ends fs t u) (ends gs t u) None None (grow_ends t u u (z ∷ ys) (ends fs t u ∷ rest) (leq_refl u) F) tt
    grow_decided (bar t b) k d n z ys rest F =
        let u = head_of k (option.Some d) n in
        let more = gaps_xor fs b k (option.Some d) (n + 1) rest in
        leq_cond (eqb d n) (ends fs t u) (ends gs t u) _ _ (grow_ends t u u (Bar ∷ spell_branches b (z ∷ ys)) (ends fs t u ∷ more) (leq_refl u) F)
        (grow_decided b k d (n + 1) z ys rest (λ j v s. F j v (past fs j v t u (Bar ∷ spell_branches b (z ∷ ys)) (ends fs t u ∷ more) (inr s))))

  -- and so does the signal of every gap
  mutual
    pub grow_gaps : (t : Seq) (g h : Signal) (ys : List Element) (rest more : List Signal) → Leq g h → Leqs rest more → Fit (spell t ys) (gaps fs t g rest) → Leqs (gaps fs t g rest) (gaps gs t h more)
    grow_gaps nil g h ys rest more l ls F = ls
    grow_gaps (cons x t) g h ys rest more l ls F =
        grow_gaps_item x g h (spell t ys) _ _ l
        (grow_gaps t (after fs x g) (after gs x h) ys rest more (grow_after x g h (spell t ys) (gaps fs t (after fs x g) rest) l F) ls
        (λ i v s. F i v (past_item fs i v x g (spell t ys) _ s)))
        F

    grow_gaps_item : (x : Item) (g h : Signal) (ys : List Element) (rest more : List Signal) → Leq g h → Leqs rest more
        → Fit (spell_item x ys) (gaps_item fs x g rest) → Leqs (gaps_item fs x g rest) (gaps_item gs x h more)
    grow_gaps_item (activity i) g h ys rest more l ls F = leqs_cons g h rest more l ls
    grow_gaps_item (loop t i) g h ys rest more l ls F =
        leqs_cons g h _ _ l
        (grow_gaps t g h (LoopEnd i ∷ ys) (ends fs t g ∷ rest) (ends gs t h ∷ more) l
        (leqs_cons _ _ rest more (grow_ends t g h (LoopEnd i ∷ ys) (ends fs t g ∷ rest) l (λ j v s. F j v (inr s))) ls)
        (λ j v s. F j v (inr s)))
    grow_gaps_item (and b) g h ys rest more l ls F = leqs_cons g h _ _ l (grow_gaps_and b g h AndJoin ys rest more l ls (λ j v s. F j v (inr s)))
    grow_gaps_item (xor i b) g h ys rest more l ls F =
        leqs_cons g h _ _ l
        (grow_gaps_xor b (is_false g) (is_false h) (decided (fact_of fs i)) (decided (fact_of gs i)) 0 XorJoin ys rest more
        (grow_head g h (fact_of fs i) (fact_of gs i) l (F i g (inl (refl, refl)))) ls (λ j v s. F j v (inr s)))

    grow_gaps_and : (b : Branches) (g h : Signal) (z : Element) (ys : List Element) (rest more : List Signal) → Leq g h → Leqs rest more
        → Fit (spell_branches b (z ∷ ys)) (gaps_and fs b g rest) → Leqs (gaps_and fs b g rest) (gaps_and gs b h more)
    grow_gaps_and (last t) g h z ys rest more l ls F =
        grow_gaps t g h (z ∷ ys) (ends fs t g ∷ rest) (ends gs t h ∷ more) l
        (leqs_cons _ _ rest more (grow_ends t g h (z ∷ ys) (ends fs t g ∷ rest) l F) ls) F
    grow_gaps_and (bar t b) g h z ys rest more l ls F =
        let zs = Bar ∷ spell_branches b (z ∷ ys) in
        let us = ends fs t g ∷ gaps_and fs b g rest in
        grow_gaps t g h zs us (ends gs t h ∷ gaps_and gs b h more) l
        (leqs_cons _ _ (gaps_and fs b g rest) (gaps_and gs b h more) (grow_ends t g h zs us l F)
        (grow_gaps_and b g h z ys rest more l ls (λ j v s. F j v (past fs j v t g zs us (inr s)))))
        F

    grow_gaps_xor : (b : Branches) (k m : Bool) (o q : Option ℕ) (n : ℕ) (z : Element) (ys : List Element) (rest more : List Signal)
        → ((j : ℕ) → Leq (head_of k o j) (head_of m q j)) → Leqs rest more
        → Fit (spell_branches b (z ∷ ys)) (gaps_xor fs b k o n rest) → Leqs (gaps_xor fs b k o n rest) (gaps_xor gs b m q n more)
    grow_gaps_xor (last t) k m o q n z ys rest more l ls F =
        let g = head_of k o n in
        let h = head_of m q n in
        grow_gaps t g h (z ∷ ys) (ends fs t g ∷ rest) (ends gs t h ∷ more) (l n)
        (leqs_cons _ _ rest more (grow_ends t g h (z ∷ ys) (ends fs t g ∷ rest) (l n) F) ls) F
    grow_gaps_xor (bar t b) k m o q n z ys rest more l ls F =
        let g = head_of k o n in
        let h = head_of m q n in
        let zs = Bar ∷ spell_branches b (z ∷ ys) in
        let us = ends fs t g ∷ gaps_xor fs b k o (n + 1) rest in
        grow_gaps t g h zs us (ends gs t h ∷ gaps_xor gs b m q (n + 1) more) (l n)
        (leqs_cons _ _ (gaps_xor fs b k o (n + 1) rest) (gaps_xor gs b m q (n + 1) more) (grow_ends t g h zs us (l n) F)
        (grow_gaps_xor b k m o q (n + 1) z ys rest more l ls (λ j v s. F j v (past fs j v t g zs us (inr s)))))
        F

  pub grow_tree : (t : Seq) → Fit (flatten t) (tree_signals fs t) → Leqs (tree_signals fs t) (tree_signals gs t)
  grow_tree t F =
      grow_gaps t True True [] (ends fs t True ∷ []) (ends gs t True ∷ []) refl
      (leqs_cons _ _ [] [] (grow_ends t True True [] (ends fs t True ∷ []) refl F) (λ p. tt)) F
