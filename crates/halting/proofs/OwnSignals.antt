-- The own signals of a tree's nodes are those that are found in its row. Assumes nothing.
use Rattle.std.proofs.Common.{◌≡◌, ℕ, ◌+◌, Bool, true, false, cond, eqb, List, [], ◌∷◌, Option, refl, ap, ◌∙◌}
use Rattle.std.specs.declared.option.Option.TheVariants as option
use Rattle.model.specs.declared.Element.{Element}
use Rattle.model.specs.declared.Element.TheVariants.{Bar, AndJoin, XorJoin, LoopEnd}
use Rattle.model.specs.declared.Fact.{Fact}
use Rattle.model.specs.declared.Signal.{Signal}
use Rattle.model.specs.declared.Signal.TheVariants.{True}
use Rattle.model.specs.Trees.{Seq, nil, cons, Item, activity, loop, and, xor, Branches, last, bar, spell, spell_item, spell_branches, flatten}
use Rattle.model.specs.Signals.{fact_of, is_false, decided, head_of, ends, after, gaps, gaps_item, gaps_and, gaps_xor, tree_signals}
use Rattle.marking.specs.States.{own}
use Rattle.agreement.proofs.SoundRows.{later, own_later}

abbrev pub first : Option Signal → Option Signal → Option Signal
first option.None v = v
first (option.Some u) v = option.Some u

-- node j, with this own signal
abbrev pub at : ℕ → ℕ → Signal → Option Signal
at j i g = cond (eqb i j) (option.Some g) option.None

-- the own signal of node i, if it is there; branch n of a block begins with h n
module _ (fs : List Fact) where
  abbrev pub heads : Signal → ℕ → ℕ → Signal
  heads g j n = head_of (is_false g) (decided (fact_of fs j)) n

  abbrev mutual
    pub own_of : Seq → Signal → ℕ → Option Signal
    own_of nil g i = option.None
    own_of (cons x t) g i = first (own_of_item x g i) (own_of t (after fs x g) i)

    pub own_of_item : Item → Signal → ℕ → Option Signal
    own_of_item (activity j) g i = at j i g
    own_of_item (loop t j) g i = first (own_of t g i) (at j i (ends fs t g))
    own_of_item (and b) g i = own_of_branches b (λ n. g) 0 i
    own_of_item (xor j b) g i = first (at j i g) (own_of_branches b (heads g j) 0 i)

    pub own_of_branches : Branches → (ℕ → Signal) → ℕ → ℕ → Option Signal
    own_of_branches (last t) h n i = own_of t (h n) i
    own_of_branches (bar t b) h n i = first (own_of t (h n) i) (own_of_branches b h (n + 1) i)

pub first_assoc : (u v w : Option Signal) → first u (first v w) ≡ first (first u v) w
first_assoc option.None v w = refl
first_assoc (option.Some g) v w = refl

pub first_none : (u : Option Signal) → first u option.None ≡ u
first_none option.None = refl
first_none (option.Some g) = refl

-- it is the one that is found in the row
module _ (fs : List Fact) (i : ℕ) where
  abbrev found : List Element → List Signal → Option Signal
  found xs us = own xs us 0 i

  node_found : (j : ℕ) (g : Signal) (xs : List Element) (us : List Signal) → cond (eqb i j) (option.Some g) (own xs (g ∷ us) (0 + 1) i) ≡ first (at j i g) (found xs us)
  node_found j g xs us = go (eqb i j) ∙ ap (first (at j i g)) (own_later xs (g ∷ us) 0 i)
    where
      go : (c : Bool) → cond c (option.Some g) (own xs (g ∷ us) (0 + 1) i) ≡ first (cond c (option.Some g) option.None) (own xs (g ∷ us) (0 + 1) i)
      go true = refl
      go false = refl

  mutual
    own_found : (t : Seq) (g : Signal) (ys : List Element) (rest : List Signal) → found (spell t ys) (gaps fs t g rest) ≡ first (own_of fs t g i) (found ys rest)
    own_found nil g ys rest = refl
    own_found (cons x t) g ys rest =
        item_found x g (spell t ys) (gaps fs t (after fs x g) rest)
        ∙ ap (first (own_of_item fs x g i)) (own_found t (after fs x g) ys rest)
        ∙ first_assoc (own_of_item fs x g i) (own_of fs t (after fs x g) i) (found ys rest)

    item_found : (x : Item) (g : Signal) (ys : List Element) (rest : List Signal) → found (spell_item x ys) (gaps_item fs x g rest) ≡ first (own_of_item fs x g i) (found ys rest)
    item_found (activity j) g ys rest = node_found j g ys rest
    item_found (loop t j) g ys rest =
        own_later (spell t (LoopEnd j ∷ ys)) (g ∷ gaps fs t g (ends fs t g ∷ rest)) 0 i
        ∙ own_found t g (LoopEnd j ∷ ys) (ends fs t g ∷ rest)
        ∙ ap (first (own_of fs t g i)) (node_found j (ends fs t g) ys rest)
        ∙ first_assoc (own_of fs t g i) (at j i (ends fs t g)) (found ys rest)
    item_found (and b) g ys rest =
        own_later (spell_branches b (AndJoin ∷ ys)) (g ∷ gaps_and fs b g rest) 0 i ∙ and_found b g 0 AndJoin ys rest (λ us. own_later ys us 0 i)
    item_found (xor j b) g ys rest =
        node_found j g (spell_branches b (XorJoin ∷ ys)) (gaps_xor fs b (is_false g) (decided (fact_of fs j)) 0 rest)
        ∙ ap (first (at j i g)) (xor_found b (is_false g) (decided (fact_of fs j)) 0 XorJoin ys rest (λ us. own_later ys us 0 i))
        ∙ first_assoc (at j i g) (own_of_branches fs b (heads fs g j) 0 i) (found ys rest)

    -- element z is no node
    and_found : (b : Branches) (g : Signal) (n : ℕ) (z : Element) (ys : List Element) (rest : List Signal) → ((us : List Signal) → found (z ∷ ys) us ≡ found ys (later us))
        → found (spell_branches b (z ∷ ys)) (gaps_and fs b g rest) ≡ first (own_of_branches fs b (λ n. g) n i) (found ys rest)
    and_found (last t) g n z ys rest p = own_found t g (z ∷ ys) (ends fs t g ∷ rest) ∙ ap (first (own_of fs t g i)) (p (ends fs t g ∷ rest))
    and_found (bar t b) g n z ys rest p =
        own_found t g (Bar ∷ spell_branches b (z ∷ ys)) (ends fs t g ∷ gaps_and fs b g rest)
        ∙ ap (first (own_of fs t g i)) (own_later (spell_branches b (z ∷ ys)) (ends fs t g ∷ gaps_and fs b g rest) 0 i ∙ and_found b g (n + 1) z ys rest p)
        ∙ first_assoc (own_of fs t g i) (own_of_branches fs b (λ n. g) (n + 1) i) (found ys rest)

    xor_found : (b : Branches) (k : Bool) (o : Option ℕ) (n : ℕ) (z : Element) (ys : List Element) (rest : List Signal) → ((us : List Signal) → found (z ∷ ys) us ≡ found ys (later us))
        → found (spell_branches b (z ∷ ys)) (gaps_xor fs b k o n rest) ≡ first (own_of_branches fs b (head_of k o) n i) (found ys rest)
    xor_found (last t) k o n z ys rest p =
        let g = head_of k o n in
        own_found t g (z ∷ ys) (ends fs t g ∷ rest) ∙ ap (first (own_of fs t g i)) (p (ends fs t g ∷ rest))
    xor_found (bar t b) k o n z ys rest p =
        let g = head_of k o n in
        own_found t g (Bar ∷ spell_branches b (z ∷ ys)) (ends fs t g ∷ gaps_xor fs b k o (n + 1) rest)
        ∙ ap (first (own_of fs t g i)) (own_later (spell_branches b (z ∷ ys)) (ends fs t g ∷ gaps_xor fs b k o (n + 1) rest) 0 i ∙ xor_found b k o (n + 1) z ys rest p)
        ∙ first_assoc (own_of fs t g i) (own_of_branches fs b (head_of k o) (n + 1) i) (found ys rest)

  pub own_tree : (t : Seq) → own (flatten t) (tree_signals fs t) 0 i ≡ own_of fs t True i
  own_tree t = own_found t True [] (ends fs t True ∷ []) ∙ first_none (own_of fs t True i)
