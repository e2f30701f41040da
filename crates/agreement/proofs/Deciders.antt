-- The signals of a tree's row against the decisions around its gaps. Assumes nothing.
use Rattle.std.proofs.Common.{◌≡◌, ℕ, zero, suc, ◌+◌, ◌≤◌, Bool, true, false, cond, not, eqb, ltb, List, [], ◌∷◌, get_or, Option, refl, ◌∙◌, subst, inl, inr, arith}
use Rattle.std.proofs.lemmas.Bool.{false≢true}
use Rattle.std.proofs.lemmas.Bool.Decides.{nat_tests}
use Rattle.model.specs.declared.Element.{Element}
use Rattle.model.specs.declared.Element.TheVariants.{Bar, AndJoin, XorJoin, LoopEnd}
use Rattle.model.specs.declared.Fact.{Fact}
use Rattle.model.specs.declared.Fact.TheVariants.{Nothing, Begun, Ended, Decided, Left}
use Rattle.model.specs.declared.Signal.{Signal}
use Rattle.model.specs.declared.Signal.TheVariants.{True, False, None}
use Rattle.model.specs.Trees.{Seq, nil, cons, Item, activity, loop, and, xor, Branches, last, bar, spell, spell_item, spell_branches, flatten}
use Rattle.model.specs.Signals.{fact_of, is_false, decided, head_of, ends, after, gaps, gaps_item, gaps_and, gaps_xor, tree_signals}
use Rattle.agreement.specs.Growth.{has_fact}
use Rattle.agreement.specs.FalseGaps.{enclosing, enclosing_item, enclosing_and, enclosing_xor, decisions_around, is_other, against}
use Rattle.agreement.proofs.SoundRows.{Stands, past, past_item}
use Rattle.marking.proofs.FalseBlocks.{ends_false, after_false}

-- a signal that so many decisions were against
abbrev pub Due : Signal → ℕ → Type 0
Due g n = (is_false g ≡ ltb 0 n) × (n ≤ 1)

same_false : (b : Bool) → is_false (cond b False None) ≡ b
same_false true = refl
same_false false = refl

one_more : (n : ℕ) → false ≡ ltb 0 n → Due False (1 + n)
one_more zero e = (refl, omega arith)
one_more (suc n) e = absurd (false≢true (e ∙ grind (arith, nat_tests)))

due_decided : (b : Bool) (n : ℕ) → Due True n → Due (cond b True False) (cond (not b) (1 + n) n)
due_decided true n h = h
due_decided false n h = one_more n h.0

due_open : (g : Signal) (n : ℕ) → Due g n → Due (cond (is_false g) False None) n
due_open g n h = (same_false (is_false g) ∙ h.0, h.1)

-- the head of branch i
due_head : (g : Signal) (f : Fact) (i n : ℕ) → (has_fact f ≡ true → g ≡ True) → Due g n
    → Due (head_of (is_false g) (decided f) i) (cond (is_other (decided f) i) (1 + n) n)
due_head g Nothing i n s h = due_open g n h
due_head g Begun i n s h = due_open g n h
due_head g Ended i n s h = due_open g n h
due_head g (Decided d) i n s h = due_decided (eqb d i) n (subst (λ u. Due u n) (s refl) h)
due_head g Left i n s h = due_open g n h

module _ (fs : List Fact) where
  abbrev pub Right : Signal → List (ℕ × ℕ) → Type 0
  Right g c = Due g (against fs c)

  -- gap by gap
  abbrev pub Rights : List Signal → List (List (ℕ × ℕ)) → Type 0
  Rights us cs = (p : ℕ) → Right (get_or us p None) (get_or cs p [])

  -- every node with a fact has the own signal true
  abbrev pub Sure : List Element → List Signal → Type 0
  Sure xs us = (i : ℕ) (v : Signal) → Stands xs us i v → has_fact (fact_of fs i) ≡ true → v ≡ True

  rights_none : Rights [] []
  rights_none p = (refl, omega arith)

  rights_cons : (g : Signal) (c : List (ℕ × ℕ)) (us : List Signal) (cs : List (List (ℕ × ℕ))) → Right g c → Rights us cs → Rights (g ∷ us) (c ∷ cs)
  rights_cons g c us cs r rs zero = r
  rights_cons g c us cs r rs (suc p) = rs p

  right_ends : (t : Seq) (g : Signal) (c : List (ℕ × ℕ)) → Right g c → Right (ends fs t g) c
  right_ends t g c r = (ends_false fs t g ∙ r.0, r.1)

  right_after : (x : Item) (g : Signal) (c : List (ℕ × ℕ)) → Right g c → Right (after fs x g) c
  right_after x g c r = (after_false fs x g ∙ r.0, r.1)

  mutual
    on_seq : (t : Seq) (g : Signal) (c : List (ℕ × ℕ)) (ys : List Element) (rest : List Signal) (more : List (List (ℕ × ℕ)))
        → Right g c → Rights rest more → Sure (spell t ys) (gaps fs t g rest) → Rights (gaps fs t g rest) (enclosing t c more)
    on_seq nil g c ys rest more r rs F = rs
    on_seq (cons x t) g c ys rest more r rs F =
        on_item x g c (spell t ys) (gaps fs t (after fs x g) rest) (enclosing t c more) r
        (on_seq t (after fs x g) c ys rest more (right_after x g c r) rs (λ j v s. F j v (past_item fs j v x g (spell t ys) _ s)))
        F

    on_item : (x : Item) (g : Signal) (c : List (ℕ × ℕ)) (ys : List Element) (rest : List Signal) (more : List (List (ℕ × ℕ)))
        → Right g c → Rights rest more → Sure (spell_item x ys) (gaps_item fs x g rest) → Rights (gaps_item fs x g rest) (enclosing_item x c more)
    on_item (activity i) g c ys rest more r rs F = rights_cons g c rest more r rs
    on_item (loop t i) g c ys rest more r rs F =
        rights_cons g c (gaps fs t g (ends fs t g ∷ rest)) (enclosing t c (c ∷ more)) r
        (on_seq t g c (LoopEnd i ∷ ys) (ends fs t g ∷ rest) (c ∷ more) r (rights_cons (ends fs t g) c rest more (right_ends t g c r) rs) (λ j v s. F j v (inr s)))
    on_item (and b) g c ys rest more r rs F =
        rights_cons g c (gaps_and fs b g rest) (enclosing_and b c more) r (on_and b g c AndJoin ys rest more r rs (λ j v s. F j v (inr s)))
    on_item (xor i b) g c ys rest more r rs F =
        rights_cons g c (gaps_xor fs b (is_false g) (decided (fact_of fs i)) 0 rest) (enclosing_xor b i 0 c more) r
        (on_xor b (is_false g) (decided (fact_of fs i)) i 0 c XorJoin ys rest more
        (λ n. due_head g (fact_of fs i) n (against fs c) (F i g (inl (refl, refl))) r) rs (λ j v s. F j v (inr s)))

    on_and : (b : Branches) (g : Signal) (c : List (ℕ × ℕ)) (z : Element) (ys : List Element) (rest : List Signal) (more : List (List (ℕ × ℕ)))
        → Right g c → Rights rest more → Sure (spell_branches b (z ∷ ys)) (gaps_and fs b g rest) → Rights (gaps_and fs b g rest) (enclosing_and b c more)
    on_and (last t) g c z ys rest more r rs F =
        on_seq t g c (z ∷ ys) (ends fs t g ∷ rest) (c ∷ more) r (rights_cons (ends fs t g) c rest more (right_ends t g c r) rs) F
    on_and (bar t b) g c z ys rest more r rs F =
        let zs = Bar ∷ spell_branches b (z ∷ ys) in
        let us = ends fs t g ∷ gaps_and fs b g rest in
        on_seq t g c zs us (c ∷ enclosing_and b c more) r
        (rights_cons (ends fs t g) c (gaps_and fs b g rest) (enclosing_and b c more) (right_ends t g c r)
        (on_and b g c z ys rest more r rs (λ j v s. F j v (past fs j v t g zs us (inr s)))))
        F

    on_xor : (b : Branches) (k : Bool) (o : Option ℕ) (d n : ℕ) (c : List (ℕ × ℕ)) (z : Element) (ys : List Element) (rest : List Signal) (more : List (List (ℕ × ℕ)))
        → ((m : ℕ) → Right (head_of k o m) ((d, m) ∷ c)) → Rights rest more
        → Sure (spell_branches b (z ∷ ys)) (gaps_xor fs b k o n rest) → Rights (gaps_xor fs b k o n rest) (enclosing_xor b d n c more)
    on_xor (last t) k o d n c z ys rest more r rs F =
        let g = head_of k o n in
        on_seq t g ((d, n) ∷ c) (z ∷ ys) (ends fs t g ∷ rest) (((d, n) ∷ c) ∷ more) (r n)
        (rights_cons (ends fs t g) ((d, n) ∷ c) rest more (right_ends t g ((d, n) ∷ c) (r n)) rs) F
    on_xor (bar t b) k o d n c z ys rest more r rs F =
        let g = head_of k o n in
        let zs = Bar ∷ spell_branches b (z ∷ ys) in
        let us = ends fs t g ∷ gaps_xor fs b k o (n + 1) rest in
        on_seq t g ((d, n) ∷ c) zs us (((d, n) ∷ c) ∷ enclosing_xor b d (n + 1) c more) (r n)
        (rights_cons (ends fs t g) ((d, n) ∷ c) (gaps_xor fs b k o (n + 1) rest) (enclosing_xor b d (n + 1) c more) (right_ends t g ((d, n) ∷ c) (r n))
        (on_xor b k o d (n + 1) c z ys rest more r rs (λ j v s. F j v (past fs j v t g zs us (inr s)))))
        F

  pub on_gaps : (t : Seq) → Sure (flatten t) (tree_signals fs t) → Rights (tree_signals fs t) (decisions_around t)
  on_gaps t F =
      let r : Right True [] = (refl, omega arith) in
      on_seq t True [] [] (ends fs t True ∷ []) ([] ∷ []) r (rights_cons (ends fs t True) [] [] [] (right_ends t True [] r) rights_none) F
