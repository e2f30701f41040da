-- Each gap of a tree's row lies in one of its sequences, which can be changed there. Assumes nothing.
use Rattle.std.proofs.Common.{◌≡◌, ℕ, zero, suc, ◌+◌, ◌-◌, ◌<◌, ◌≤◌, Bool, true, false, List, [], ◌∷◌, ◌++◌, length, ltb, sym, refl, ap, ◌∙◌, subst, arith}
use Rattle.std.proofs.lemmas.List.{append_assoc, length-append}
use Rattle.std.proofs.lemmas.Bool.{ltb-true, ltb-false}
use Rattle.model.specs.declared.Element.{Element}
use Rattle.model.specs.declared.Element.TheVariants.{Activity, AndSplit, Bar, AndJoin, XorSplit, XorJoin, LoopStart, LoopEnd}
use Rattle.model.specs.Trees.{Seq, nil, cons, Item, activity, loop, and, xor, Branches, last, bar, spell, spell_item, spell_branches, flatten}
use Rattle.layout.proofs.Facts.{spell_append, spell_append_item, spell_append_branches}
use Rattle.changes.specs.Changed.{Changed, here, in_item, later, ChangedItem, in_loop, in_and, in_xor, ChangedBranches, in_last, in_first, in_later}

-- no item begins at the front of these elements
abbrev pub Ends : List Element → Type 0
Ends [] = Unit {0}
Ends (Activity i ∷ ys) = ⊥
Ends (AndSplit ∷ ys) = ⊥
Ends (Bar ∷ ys) = Unit {0}
Ends (AndJoin ∷ ys) = Unit {0}
Ends (XorSplit i ∷ ys) = ⊥
Ends (XorJoin ∷ ys) = Unit {0}
Ends (LoopStart ∷ ys) = ⊥
Ends (LoopEnd i ∷ ys) = Unit {0}

module _ (R : Seq → Seq → Type 0) where
  -- gap g of these elements: what is left there of a sequence, and the elements around that; a change of it, and what
  -- is then spelt
  pub record Spot (A : Type 0) (Becomes : A → Type 0) (spelt : A → List Element) (g : ℕ) (xs : List Element) : Type 0 where
    pub before : List Element
    pub rest : Seq
    pub after : List Element
    pub at_gap : length before ≡ g
    pub parted : xs ≡ before ++ spell rest after
    pub ends : Ends after
    pub swap : (r : Seq) → R rest r → (u : A) × Becomes u × (spelt u ≡ before ++ spell r after)

  -- the same behind more elements, and in what lies around it
  around : {A B : Type 0} {P : A → Type 0} {Q : B → Type 0} {f : A → List Element} {h : B → List Element} {g : ℕ} {xs : List Element}
      (ps : List Element) (n : ℕ) → length ps + g ≡ n → (wrap : A → B) → ((u : A) → P u → Q (wrap u)) → ((u : A) → h (wrap u) ≡ ps ++ f u)
      → Spot A P f g xs → Spot B Q h n (ps ++ xs)
  around ps n e wrap into spells s = record {
    before = ps ++ s.before;
    rest = s.rest;
    after = s.after;
    at_gap = let l = length-append ps s.before in omega (arith, l, s.at_gap, e);
    parted = ap (λ l. ps ++ l) s.parted ∙ sym (append_assoc ps s.before (spell s.rest s.after));
    ends = s.ends;
    swap = λ r c.
        let w = s.swap r c in
        (wrap w.0, into w.0 w.1, spells w.0 ∙ ap (λ l. ps ++ l) w.2 ∙ sym (append_assoc ps s.before (spell r s.after)));
  }

  abbrev pub InSeq : ℕ → Seq → List Element → List Element → Type 0
  InSeq g t ys xs = Spot Seq (Changed R g t) (λ u. spell u ys) g xs

  abbrev InItem : ℕ → Item → List Element → List Element → Type 0
  InItem g x ys xs = Spot Item (ChangedItem R g x) (λ y. spell_item y ys) g xs

  abbrev InBranches : ℕ → Branches → List Element → List Element → Type 0
  InBranches g b ys xs = Spot Branches (ChangedBranches R g b) (λ c. spell_branches c ys) g xs

  at_once : (t : Seq) (ys : List Element) → Ends ys → InSeq 0 t ys (spell t ys)
  at_once t ys e = record {
    before = [];
    rest = t;
    after = ys;
    at_gap = refl;
    parted = refl;
    ends = e;
    swap = λ r c. (r, here c, refl);
  }

  -- a gap of an item and what follows it: before the item's end, or further on
  by_item : (g : ℕ) (x : Item) (t : Seq) (ys : List Element)
      → (g < length (spell_item x []) → InItem g x (spell t ys) (spell_item x (spell t ys)))
      → (length (spell_item x []) ≤ g → InSeq (g - length (spell_item x [])) t ys (spell t ys))
      → (b : Bool) → ltb g (length (spell_item x [])) ≡ b → InSeq g (cons x t) ys (spell_item x (spell t ys))
  by_item g x t ys f k true is = around [] g (omega arith) (λ y. cons y t) (λ y c. in_item c) (λ y. refl) (f (ltb-true _ _ is))
  by_item g x t ys f k false is =
      let more = ltb-false _ _ is in
      let n : length (spell_item x []) + (g - length (spell_item x [])) ≡ g = omega (arith, more) in
      subst (InSeq g (cons x t) ys) (sym (spell_append_item x (spell t ys)))
      (around (spell_item x []) g n (cons x) (λ u c. subst (λ m. Changed R m (cons x t) (cons x u)) n (later c)) (λ u. spell_append_item x (spell u ys)) (k more))

  -- a gap of a branch and the branches behind its bar
  by_branch : (g : ℕ) (t : Seq) (b : Branches) (ys : List Element)
      → (g ≤ length (flatten t) → InSeq g t (Bar ∷ spell_branches b ys) (spell t (Bar ∷ spell_branches b ys)))
      → (length (flatten t) < g → InBranches (g - (length (flatten t) + 1)) b ys (spell_branches b ys))
      → (c : Bool) → ltb (length (flatten t)) g ≡ c → InBranches g (bar t b) ys (spell t (Bar ∷ spell_branches b ys))
  by_branch g t b ys f k false is = around [] g (omega arith) (λ u. bar u b) (λ u c. in_first c) (λ u. refl) (f (ltb-false _ _ is))
  by_branch g t b ys f k true is =
      let more : length (flatten t) < g = ltb-true _ _ is in
      let n : length (flatten t) + 1 + (g - (length (flatten t) + 1)) ≡ g = omega (arith, more) in
      let parts : (zs : List Element) → spell t (Bar ∷ zs) ≡ (flatten t ++ Bar ∷ []) ++ zs =
      λ zs. spell_append t (Bar ∷ zs) ∙ sym (append_assoc (flatten t) (Bar ∷ []) zs) in
      let l = length-append (flatten t) (Bar ∷ []) in
      let m : length (flatten t ++ Bar ∷ []) + (g - (length (flatten t) + 1)) ≡ g = omega (arith, n, l) in
      subst (InBranches g (bar t b) ys) (sym (parts (spell_branches b ys)))
      (around (flatten t ++ Bar ∷ []) g m (bar t) (λ c d. subst (λ m. ChangedBranches R m (bar t b) (bar t c)) n (in_later d)) (λ c. parts (spell_branches c ys)) (k more))

  -- what a block opens and closes with
  in_block : {A : Type 0} {P : A → Type 0} {f : A → List Element} {h : Item → List Element} {xs : List Element}
      (g : ℕ) (x : Item) (start : Element) (wrap : A → Item) → ((u : A) → P u → ChangedItem R (1 + g) x (wrap u)) → ((u : A) → h (wrap u) ≡ start ∷ f u)
      → Spot A P f g xs → Spot Item (ChangedItem R (suc g) x) h (suc g) (start ∷ xs)
  in_block g x start wrap into spells s =
      around (start ∷ []) (suc g) (omega arith) wrap (λ u c. subst (λ m. ChangedItem R m x (wrap u)) (omega arith) (into u c)) spells s

  mutual
    pub spot : (t : Seq) (ys : List Element) → Ends ys → (g : ℕ) → g ≤ length (flatten t) → InSeq g t ys (spell t ys)
    spot t ys e zero h = at_once t ys e
    spot nil ys e (suc g) h = absurd (omega arith)
    spot (cons x t) ys e (suc g) h =
        let l = ap length (spell_append_item x (flatten t)) ∙ length-append (spell_item x []) (flatten t) in
        by_item (suc g) x t ys
        (λ less. spot_item x (spell t ys) g less)
        (λ more. spot t ys e (suc g - length (spell_item x [])) (omega (arith, l, more, h)))
        (ltb (suc g) (length (spell_item x []))) refl

    -- behind an item's first element
    spot_item : (x : Item) (ys : List Element) (g : ℕ) → suc g < length (spell_item x []) → InItem (suc g) x ys (spell_item x ys)
    spot_item (activity i) ys g h = absurd (omega arith)
    spot_item (loop t i) ys g h =
        let l = ap length (spell_append t (LoopEnd i ∷ [])) ∙ length-append (flatten t) (LoopEnd i ∷ []) in
        in_block g (loop t i) LoopStart (λ u. loop u i) (λ u c. in_loop c) (λ u. refl) (spot t (LoopEnd i ∷ ys) tt g (omega (arith, l, h)))
    spot_item (and b) ys g h =
        let l = ap length (spell_append_branches b (AndJoin ∷ [])) ∙ length-append (spell_branches b []) (AndJoin ∷ []) in
        in_block g (and b) AndSplit and (λ u c. in_and c) (λ u. refl) (spot_branches b (AndJoin ∷ ys) tt g (omega (arith, l, h)))
    spot_item (xor i b) ys g h =
        let l = ap length (spell_append_branches b (XorJoin ∷ [])) ∙ length-append (spell_branches b []) (XorJoin ∷ []) in
        in_block g (xor i b) (XorSplit i) (xor i) (λ u c. in_xor c) (λ u. refl) (spot_branches b (XorJoin ∷ ys) tt g (omega (arith, l, h)))

    spot_branches : (b : Branches) (ys : List Element) → Ends ys → (g : ℕ) → g ≤ length (spell_branches b []) → InBranches g b ys (spell_branches b ys)
    spot_branches (last t) ys e g h = around [] g (omega arith) last (λ u c. in_last c) (λ u. refl) (spot t ys e g h)
    spot_branches (bar t b) ys e g h =
        let l = ap length (spell_append t (Bar ∷ spell_branches b [])) ∙ length-append (flatten t) (Bar ∷ spell_branches b []) in
        by_branch g t b ys
        (λ less. spot t (Bar ∷ spell_branches b ys) tt g less)
        (λ more. spot_branches b ys e (g - (length (flatten t) + 1)) (omega (arith, l, more, h)))
        (ltb (length (flatten t)) g) refl
