-- Which blocks are open at each gap of a tree's row, read from left to right, and their decisions. Assumes nothing.
use Rattle.std.proofs.Common.{◌≡◌, ℕ, ◌+◌, List, [], ◌∷◌, ◌++◌, length, get_or, sym, refl, ap, ◌∙◌, append_assoc, length-append, arith}
use Rattle.model.specs.declared.Element.{Element}
use Rattle.model.specs.declared.Element.TheVariants.{Activity, AndSplit, Bar, AndJoin, XorSplit, XorJoin, LoopStart, LoopEnd}
use Rattle.model.specs.Trees.{Seq, nil, cons, Item, activity, loop, and, xor, Branches, last, bar, spell, spell_item, spell_branches, flatten, count}
use Rattle.layout.specs.Gaps.{Begins}
use Rattle.layout.proofs.Facts.{spell_append, spell_append_branches}
use Rattle.agreement.specs.FalseGaps.{enclosing, enclosing_item, enclosing_and, enclosing_xor, decisions_around}
use Rattle.conditions.specs.Deciders.{with_decision}

-- an open block: the element that begins it, and the number of the branch that is read
abbrev Open : Type 0
Open = Element × ℕ

abbrev left_out : List Open → List Open
left_out [] = []
left_out (o ∷ os) = os

abbrev next_branch : List Open → List Open
next_branch [] = []
next_branch (o ∷ os) = (o.0, o.1 + 1) ∷ os

-- the blocks that are open behind an element, the innermost first
abbrev behind : Element → List Open → List Open
behind (Activity i) os = os
behind AndSplit os = (AndSplit, 0) ∷ os
behind Bar os = next_branch os
behind AndJoin os = left_out os
behind (XorSplit i) os = (XorSplit i, 0) ∷ os
behind XorJoin os = left_out os
behind LoopStart os = (LoopStart, 0) ∷ os
behind (LoopEnd i) os = left_out os

abbrev behind_all : List Element → List Open → List Open
behind_all [] os = os
behind_all (x ∷ xs) os = behind_all xs (behind x os)

-- their decisions
abbrev decisions : List Open → List (ℕ × ℕ)
decisions [] = []
decisions (o ∷ os) = with_decision o.0 o.1 (decisions os)

-- gap by gap
abbrev by_gaps : List Element → List Open → List (List (ℕ × ℕ))
by_gaps [] os = decisions os ∷ []
by_gaps (x ∷ xs) os = decisions os ∷ by_gaps xs (behind x os)

-- on the row of a tree these are the decisions around its gaps
mutual
  on_seq : (t : Seq) (ys : List Element) (os : List Open) → by_gaps (spell t ys) os ≡ enclosing t (decisions os) (by_gaps ys os)
  on_seq nil ys os = refl
  on_seq (cons x t) ys os = on_item x (spell t ys) os ∙ ap (enclosing_item x (decisions os)) (on_seq t ys os)

  on_item : (x : Item) (ys : List Element) (os : List Open) → by_gaps (spell_item x ys) os ≡ enclosing_item x (decisions os) (by_gaps ys os)
  on_item (activity i) ys os = refl
  on_item (loop t i) ys os = ap (λ l. decisions os ∷ l) (on_seq t (LoopEnd i ∷ ys) ((LoopStart, 0) ∷ os))
  on_item (and b) ys os = ap (λ l. decisions os ∷ l) (on_and b 0 ys os)
  on_item (xor i b) ys os = ap (λ l. decisions os ∷ l) (on_xor b i 0 ys os)

  on_and : (b : Branches) (n : ℕ) (ys : List Element) (os : List Open)
      → by_gaps (spell_branches b (AndJoin ∷ ys)) ((AndSplit, n) ∷ os) ≡ enclosing_and b (decisions os) (by_gaps ys os)
  on_and (last t) n ys os = on_seq t (AndJoin ∷ ys) ((AndSplit, n) ∷ os)
  on_and (bar t b) n ys os =
      on_seq t (Bar ∷ spell_branches b (AndJoin ∷ ys)) ((AndSplit, n) ∷ os)
      ∙ ap (λ l. enclosing t (decisions os) (decisions os ∷ l)) (on_and b (n + 1) ys os)

  on_xor : (b : Branches) (i n : ℕ) (ys : List Element) (os : List Open)
      → by_gaps (spell_branches b (XorJoin ∷ ys)) ((XorSplit i, n) ∷ os) ≡ enclosing_xor b i n (decisions os) (by_gaps ys os)
  on_xor (last t) i n ys os = on_seq t (XorJoin ∷ ys) ((XorSplit i, n) ∷ os)
  on_xor (bar t b) i n ys os =
      on_seq t (Bar ∷ spell_branches b (XorJoin ∷ ys)) ((XorSplit i, n) ∷ os)
      ∙ ap (λ l. enclosing t ((i, n) ∷ decisions os) (((i, n) ∷ decisions os) ∷ l)) (on_xor b i (n + 1) ys os)

-- whole items leave the open blocks as they were, and the branches of a block raise its number
mutual
  past_seq : (t : Seq) (ys : List Element) (os : List Open) → behind_all (spell t ys) os ≡ behind_all ys os
  past_seq nil ys os = refl
  past_seq (cons x t) ys os = past_item x (spell t ys) os ∙ past_seq t ys os

  past_item : (x : Item) (ys : List Element) (os : List Open) → behind_all (spell_item x ys) os ≡ behind_all ys os
  past_item (activity i) ys os = refl
  past_item (loop t i) ys os = past_seq t (LoopEnd i ∷ ys) ((LoopStart, 0) ∷ os)
  past_item (and b) ys os = let p = past_branches b AndSplit 0 (AndJoin ∷ ys) os in p.1
  past_item (xor i b) ys os = let p = past_branches b (XorSplit i) 0 (XorJoin ∷ ys) os in p.1

  past_branches : (b : Branches) (x : Element) (n : ℕ) (ys : List Element) (os : List Open)
      → (m : ℕ) × (behind_all (spell_branches b ys) ((x, n) ∷ os) ≡ behind_all ys ((x, m) ∷ os)) × (m + 1 ≡ n + count b)
  past_branches (last t) x n ys os = (n, past_seq t ys ((x, n) ∷ os), refl)
  past_branches (bar t b) x n ys os =
      let r = past_branches b x (n + 1) ys os in
      (r.0, past_seq t (Bar ∷ spell_branches b ys) ((x, n) ∷ os) ∙ r.1, omega (arith, r.2))

behind_append : (xs ys : List Element) (os : List Open) → behind_all (xs ++ ys) os ≡ behind_all ys (behind_all xs os)
behind_append [] ys os = refl
behind_append (x ∷ xs) ys os = behind_append xs ys (behind x os)

gap_behind : (xs ys : List Element) (os : List Open) → get_or (by_gaps (xs ++ ys) os) (length xs) [] ≡ decisions (behind_all xs os)
gap_behind [] [] os = refl
gap_behind [] (y ∷ ys) os = refl
gap_behind (x ∷ xs) ys os = gap_behind xs ys (behind x os)

opened : (x : Element) (os : List Open) → Begins x → behind x os ≡ (x, 0) ∷ os
opened (Activity i) os b = elim b [ ]
opened AndSplit os b = refl
opened Bar os b = elim b [ ]
opened AndJoin os b = elim b [ ]
opened (XorSplit i) os b = refl
opened XorJoin os b = elim b [ ]
opened LoopStart os b = refl
opened (LoopEnd i) os b = elim b [ ]

module _ (t : Seq) where
  around_front : (xs ys : List Element) → flatten t ≡ xs ++ ys → get_or (decisions_around t) (length xs) [] ≡ decisions (behind_all xs [])
  around_front xs ys e =
      ap (λ l. get_or l (length xs) []) (sym (on_seq t [] [])) ∙ ap (λ zs. get_or (by_gaps zs []) (length xs) []) e ∙ gap_behind xs ys []

  -- behind whole items nothing is open
  pub around_whole : (u : Seq) (ys : List Element) (p : ℕ) → flatten t ≡ spell u ys → p + length ys ≡ length (flatten t) → get_or (decisions_around t) p [] ≡ []
  around_whole u ys p e at =
      let w = e ∙ spell_append u ys in
      let long = ap length w ∙ length-append (flatten u) ys in
      let here : p ≡ length (flatten u) = omega (arith, at, long) in
      ap (λ k. get_or (decisions_around t) k []) here ∙ around_front (flatten u) ys w ∙ ap decisions (past_seq u [] [])

  -- within a block's branches, as many as these, the block adds its decision
  module _ (xs : List Element) (x : Element) (b : Branches) (n : ℕ) (ys : List Element) (begins : Begins x) (number : count b ≡ n + 1)
      (parted : flatten t ≡ xs ++ (x ∷ spell_branches b ys)) where
    abbrev front : List Element
    front = xs ++ (x ∷ spell_branches b [])

    opens : behind_all front [] ≡ (x, n) ∷ behind_all xs []
    opens =
        let r = past_branches b x 0 [] (behind_all xs []) in
        let m : r.0 ≡ n = omega (arith, r.2, number) in
        behind_append xs (x ∷ spell_branches b []) []
        ∙ ap (behind_all (spell_branches b [])) (opened x (behind_all xs []) begins)
        ∙ r.1
        ∙ ap (λ k. (x, k) ∷ behind_all xs []) m

    whole : flatten t ≡ front ++ ys
    whole = parted ∙ ap (λ zs. xs ++ (x ∷ zs)) (spell_append_branches b ys) ∙ sym (append_assoc xs (x ∷ spell_branches b []) ys)

    pub around_block : (p : ℕ) → p + length ys ≡ length (flatten t)
        → get_or (decisions_around t) p [] ≡ with_decision x n (get_or (decisions_around t) (length xs) [])
    around_block p at =
        let long = ap length whole ∙ length-append front ys in
        let here : p ≡ length front = omega (arith, at, long) in
        ap (λ k. get_or (decisions_around t) k []) here
        ∙ around_front front ys whole ∙ ap decisions opens
        ∙ ap (with_decision x n) (sym (around_front xs (x ∷ spell_branches b ys) parted))
