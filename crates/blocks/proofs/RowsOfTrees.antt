-- The check passes exactly the rows of trees. Assumes nothing.
use Rattle.std.proofs.Common.{◌≡◌, ℕ, ◌+◌, ◌<◌, ◌≤◌, Bool, true, false, cond, ltb, List, [], ◌∷◌, Some, None, Option, sym, refl, ap, ◌∙◌, subst, arith, ltb-true}
use Rattle.std.proofs.lemmas.Option.{none-some}
use Rattle.model.specs.declared.Element.{Element}
use Rattle.model.specs.declared.Element.TheVariants.{Activity, AndSplit, Bar, AndJoin, XorSplit, XorJoin, LoopStart, LoopEnd}
use Rattle.blocks.specs.declared.Frame.{Frame}
use Rattle.blocks.specs.declared.Frame.TheVariants.{And, Xor, Loop}
use Rattle.blocks.specs.declared.Next.{Next}
use Rattle.blocks.specs.Blocks.{fault, else_at, moved}
use Rattle.model.specs.Trees.{Seq, nil, cons, Item, activity, loop, and, xor, Branches, last, bar, spell, spell_item, spell_branches, count, Width, Wide, WideItem, WideBranches, Nested}

-- What is left of a row in which these blocks are open: the rest of the innermost branch and block,
-- the element that closes it, and what is left around it.
abbrev Fits : ℕ → Branches → Type 0
Fits k b = (2 ≤ k + count b) × (k ≤ 7 → k + count b ≤ 8) × WideBranches b

abbrev Rest : List Frame → List Element → Type 0
Rest [] xs = Nested xs
Rest (And k ∷ s) xs = (b : Branches) × (ys : List Element) × Fits k b × (xs ≡ spell_branches b (AndJoin ∷ ys)) × Rest s ys
Rest (Xor k ∷ s) xs = (b : Branches) × (ys : List Element) × Fits k b × (xs ≡ spell_branches b (XorJoin ∷ ys)) × Rest s ys
Rest (Loop ∷ s) xs = (t : Seq) × (i : ℕ) × (ys : List Element) × Wide t × (xs ≡ spell t (LoopEnd i ∷ ys)) × Rest s ys

-- an item in front of the first branch
abbrev onto : Item → Branches → Branches
onto x (last t) = last (cons x t)
onto x (bar t b) = bar (cons x t) b

onto_fits : (x : Item) (k : ℕ) (b : Branches) → WideItem x → Fits k b → Fits k (onto x b)
onto_fits x k (last t) w f = (f.0, f.1, (w, f.2))
onto_fits x k (bar t b) w f = (f.0, f.1, ((w, f.2.0), f.2.1))

onto_spells : (x : Item) (b : Branches) (ys : List Element) → spell_branches (onto x b) ys ≡ spell_item x (spell_branches b ys)
onto_spells x (last t) ys = refl
onto_spells x (bar t b) ys = refl

prepend : (x : Item) → WideItem x → (s : List Frame) (xs : List Element) → Rest s xs → Rest s (spell_item x xs)
prepend x w [] xs r = (cons x r.0, (w, r.1), ap (spell_item x) r.2)
prepend x w (And k ∷ s) xs r = (onto x r.0, r.1, onto_fits x k r.0 w r.2, ap (spell_item x) r.3 ∙ sym (onto_spells x r.0 _), r.4)
prepend x w (Xor k ∷ s) xs r = (onto x r.0, r.1, onto_fits x k r.0 w r.2, ap (spell_item x) r.3 ∙ sym (onto_spells x r.0 _), r.4)
prepend x w (Loop ∷ s) xs r = (cons x r.0, r.1, r.2, (w, r.3), ap (spell_item x) r.4, r.5)

whole : (b : Branches) → Fits 0 b → Width (count b) × WideBranches b
whole b f = ((omega (arith, f.0), omega (arith, f.1)), f.2)

bar_fits : (k : ℕ) (b : Branches) → k < 7 → Fits (k + 1) b → Fits k (bar nil b)
bar_fits k b h f = (omega (arith, f.0), λ _. omega (arith, f.1), (tt, f.2))

join_fits : (k : ℕ) → 0 < k → Fits k (last nil)
join_fits k h = (omega arith, λ (few : k ≤ 7). omega arith, tt)

never : {A : Type 0} (p : ℕ) → ◌≡◌ {A = Option ℕ} (Some p) None → A
never p e = absurd (none-some p (sym e))

-- the two answers of a test
by_test : {P : Type 0} (b : Bool) (n : Option Next) (p : ℕ) (s : List Frame) (k : List Frame → Option ℕ)
    → (b ≡ true → else_at p (moved n s) k ≡ None → P) → else_at p (moved (cond b n None) s) k ≡ None → P
by_test true n p s k f e = f refl e
by_test false n p s k f e = never p e

parse : (xs : List Element) (s : List Frame) (p : ℕ) → fault s p xs ≡ None → Rest s xs
parse [] [] p e = (nil, tt, refl)
parse [] (f ∷ s) p e = never p e
parse (Activity i ∷ xs) s p e = prepend (activity i) tt s xs (parse xs s (p + 1) e)
parse (AndSplit ∷ xs) s p e =
    let r = parse xs (And 0 ∷ s) (p + 1) e in
    subst (λ zs. Rest s (AndSplit ∷ zs)) (sym r.3) (prepend (and r.0) (whole r.0 r.2) s r.1 r.4)
parse (XorSplit i ∷ xs) s p e =
    let r = parse xs (Xor 0 ∷ s) (p + 1) e in
    subst (λ zs. Rest s (XorSplit i ∷ zs)) (sym r.3) (prepend (xor i r.0) (whole r.0 r.2) s r.1 r.4)
parse (LoopStart ∷ xs) s p e =
    let r = parse xs (Loop ∷ s) (p + 1) e in
    subst (λ zs. Rest s (LoopStart ∷ zs)) (sym r.4) (prepend (loop r.0 r.1) r.3 s r.2 r.5)
parse (Bar ∷ xs) [] p e = never p e
parse (Bar ∷ xs) (And k ∷ s) p e =
    by_test (ltb k 7) _ p s _
    (λ few e.
    let r = parse xs (And (k + 1) ∷ s) (p + 1) e in
    (bar nil r.0, r.1, bar_fits k r.0 (ltb-true k 7 few) r.2, ap (λ zs. Bar ∷ zs) r.3, r.4))
    e
parse (Bar ∷ xs) (Xor k ∷ s) p e =
    by_test (ltb k 7) _ p s _
    (λ few e.
    let r = parse xs (Xor (k + 1) ∷ s) (p + 1) e in
    (bar nil r.0, r.1, bar_fits k r.0 (ltb-true k 7 few) r.2, ap (λ zs. Bar ∷ zs) r.3, r.4))
    e
parse (Bar ∷ xs) (Loop ∷ s) p e = never p e
parse (AndJoin ∷ xs) [] p e = never p e
parse (AndJoin ∷ xs) (And k ∷ s) p e =
    by_test (ltb 0 k) _ p s _ (λ pos e. (last nil, xs, join_fits k (ltb-true 0 k pos), refl, parse xs s (p + 1) e)) e
parse (AndJoin ∷ xs) (Xor k ∷ s) p e = never p e
parse (AndJoin ∷ xs) (Loop ∷ s) p e = never p e
parse (XorJoin ∷ xs) [] p e = never p e
parse (XorJoin ∷ xs) (And k ∷ s) p e = never p e
parse (XorJoin ∷ xs) (Xor k ∷ s) p e =
    by_test (ltb 0 k) _ p s _ (λ pos e. (last nil, xs, join_fits k (ltb-true 0 k pos), refl, parse xs s (p + 1) e)) e
parse (XorJoin ∷ xs) (Loop ∷ s) p e = never p e
parse (LoopEnd i ∷ xs) [] p e = never p e
parse (LoopEnd i ∷ xs) (And k ∷ s) p e = never p e
parse (LoopEnd i ∷ xs) (Xor k ∷ s) p e = never p e
parse (LoopEnd i ∷ xs) (Loop ∷ s) p e = (nil, i, xs, tt, refl, parse xs s (p + 1) e)

-- no fault, from whatever place
abbrev pub Clean : List Frame → List Element → Type 0
Clean s xs = (p : ℕ) → fault s p xs ≡ None

positive : (b : Branches) → 1 ≤ count b
positive (last t) = omega arith
positive (bar t b) = omega arith

mutual
  clean : (t : Seq) → Wide t → (s : List Frame) (ys : List Element) → Clean s ys → Clean s (spell t ys)
  clean nil w s ys c = c
  clean (cons x t) w s ys c = clean_item x w.0 s (spell t ys) (clean t w.1 s ys c)

  clean_item : (x : Item) → WideItem x → (s : List Frame) (ys : List Element) → Clean s ys → Clean s (spell_item x ys)
  clean_item (activity i) w s ys c p = c (p + 1)
  clean_item (loop t i) w s ys c p = clean t w (Loop ∷ s) (LoopEnd i ∷ ys) (λ q. c (q + 1)) (p + 1)
  clean_item (and b) w s ys c p = clean_and b 0 (omega arith) w.1 s ys c (p + 1)
  clean_item (xor i b) w s ys c p = clean_xor b 0 (omega arith) w.1 s ys c (p + 1)

  clean_and : (b : Branches) (k : ℕ) → Width (k + count b) → WideBranches b → (s : List Frame) (ys : List Element) → Clean s ys → Clean (And k ∷ s) (spell_branches b (AndJoin ∷ ys))
  clean_and (last t) k f w s ys c = clean t w (And k ∷ s) (AndJoin ∷ ys) (λ p. grind (arith, c (p + 1)))
  clean_and (bar t b) k f w s ys c =
      clean t w.0 (And k ∷ s) (Bar ∷ spell_branches b (AndJoin ∷ ys)) (λ p. grind (arith, positive b, clean_and b (k + 1) (omega arith) w.1 s ys c (p + 1)))

  clean_xor : (b : Branches) (k : ℕ) → Width (k + count b) → WideBranches b → (s : List Frame) (ys : List Element) → Clean s ys → Clean (Xor k ∷ s) (spell_branches b (XorJoin ∷ ys))
  clean_xor (last t) k f w s ys c = clean t w (Xor k ∷ s) (XorJoin ∷ ys) (λ p. grind (arith, c (p + 1)))
  clean_xor (bar t b) k f w s ys c =
      clean t w.0 (Xor k ∷ s) (Bar ∷ spell_branches b (XorJoin ∷ ys)) (λ p. grind (arith, positive b, clean_xor b (k + 1) (omega arith) w.1 s ys c (p + 1)))

pub tells_ok : (xs : List Element) → fault [] 0 xs ≡ None → Nested xs
tells_ok xs e = parse xs [] 0 e

pub tree_clean : (xs : List Element) → Nested xs → fault [] 0 xs ≡ None
tree_clean xs n = subst (λ zs. fault [] 0 zs ≡ None) (sym n.2) (clean n.0 n.1 [] [] (λ p. refl) 0)
