-- A gap, one item, one bar or one block on. Assumes nothing.
use Rattle.std.proofs.Common.{◌≡◌, ℕ, ◌+◌, ◌<◌, ◌≤◌, List, ◌∷◌, length, Some, sym, refl, ap, ◌∙◌, subst, arith}
use Rattle.model.specs.declared.Element.{Element}
use Rattle.model.specs.declared.Element.TheVariants.{Bar, AndJoin, XorJoin, LoopEnd}
use Rattle.model.specs.Trees.{Seq, nil, cons, Item, activity, loop, and, xor, Branches, last, bar, spell, spell_item, spell_branches, count}
use Rattle.layout.specs.declared.Position.{Position}
use Rattle.layout.specs.Pass.{position, turned}
use Rattle.layout.specs.Gaps.{Begins, Rest, Inside, loop_from, Gap, free, block}
use Rattle.layout.proofs.Rests.{rest_long}

-- one item more at the end
abbrev snoc : Seq → Item → Seq
snoc nil x = cons x nil
snoc (cons y t) x = cons y (snoc t x)

abbrev snoc_branches : Branches → Item → Branches
snoc_branches (last t) x = last (snoc t x)
snoc_branches (bar t b) x = bar t (snoc_branches b x)

-- one branch more at the end
abbrev more : Branches → Branches
more (last t) = bar t (last nil)
more (bar t b) = bar t (more b)

spell_snoc : (t : Seq) (x : Item) (ys : List Element) → spell (snoc t x) ys ≡ spell t (spell_item x ys)
spell_snoc nil x ys = refl
spell_snoc (cons y t) x ys = ap (spell_item y) (spell_snoc t x ys)

spell_snoc_branches : (b : Branches) (x : Item) (ys : List Element) → spell_branches (snoc_branches b x) ys ≡ spell_branches b (spell_item x ys)
spell_snoc_branches (last t) x ys = spell_snoc t x ys
spell_snoc_branches (bar t b) x ys = ap (λ zs. spell t (Bar ∷ zs)) (spell_snoc_branches b x ys)

spell_more : (b : Branches) (ys : List Element) → spell_branches (more b) ys ≡ spell_branches b (Bar ∷ ys)
spell_more (last t) ys = refl
spell_more (bar t b) ys = ap (λ zs. spell t (Bar ∷ zs)) (spell_more b ys)

count_snoc : (b : Branches) (x : Item) → count (snoc_branches b x) ≡ count b
count_snoc (last t) x = refl
count_snoc (bar t b) x = ap (λ k. 1 + k) (count_snoc b x)

count_more : (b : Branches) → count (more b) ≡ count b + 1
count_more (last t) = refl
count_more (bar t b) = let e = count_more b in omega (arith, e)

-- a block has a branch at least
pub some_branch : (b : Branches) → (k : ℕ) × (count b ≡ k + 1)
some_branch (last t) = (0, refl)
some_branch (bar t b) = let r = some_branch b in (r.0 + 1, omega (arith, r.1))

mutual
  pub spell_longer : (t : Seq) (ys : List Element) → length ys ≤ length (spell t ys)
  spell_longer nil ys = omega arith
  spell_longer (cons x t) ys = let a = spell_longer_item x (spell t ys) in let b = spell_longer t ys in omega (arith, a, b)

  spell_longer_item : (x : Item) (ys : List Element) → length ys < length (spell_item x ys)
  spell_longer_item (activity i) ys = omega arith
  spell_longer_item (loop t i) ys = let a = spell_longer t (LoopEnd i ∷ ys) in omega (arith, a)
  spell_longer_item (and b) ys = let a = spell_longer_branches b (AndJoin ∷ ys) in omega (arith, a)
  spell_longer_item (xor i b) ys = let a = spell_longer_branches b (XorJoin ∷ ys) in omega (arith, a)

  pub spell_longer_branches : (b : Branches) (ys : List Element) → length ys ≤ length (spell_branches b ys)
  spell_longer_branches (last t) ys = spell_longer t ys
  spell_longer_branches (bar t b) ys = let a = spell_longer t (Bar ∷ spell_branches b ys) in let c = spell_longer_branches b ys in omega (arith, a, c)

module _ {xs : List Element} where
  pub gap_item : (x : Item) (ys : List Element) (h : Position) → Gap xs (spell_item x ys) h → Gap xs ys h
  gap_item x ys h (free u e) = free (snoc u x) (e ∙ sym (spell_snoc u x ys))
  gap_item x ys h (block {o = o} y b n s begins left number around) =
      let e = sym (spell_snoc_branches b x ys) in
      block y (snoc_branches b x) n s begins (subst (λ zs. Rest xs s (y ∷ zs)) e left) (count_snoc b x ∙ number)
      (subst (λ zs. Gap xs (y ∷ zs) o) e around)

  pub gap_bar : (ys : List Element) (h : Position) (s : ℕ) → h.block ≡ Some s → Gap xs (Bar ∷ ys) h → Gap xs ys (turned h)
  gap_bar ys h s is (free u e) = absurd cc
  gap_bar ys h s is (block {o = o} y b n r begins left number around) =
      let e = sym (spell_more b ys) in
      block y (more b) (n + 1) r begins (subst (λ zs. Rest xs r (y ∷ zs)) e left) (count_more b ∙ ap (λ k. k + 1) number)
      (subst (λ zs. Gap xs (y ∷ zs) o) e around)

  pub gap_enter : (x : Element) (ys : List Element) (h : Position) (n : ℕ) → Begins x → Rest xs n (x ∷ ys) → Gap xs (x ∷ ys) h
      → Gap xs ys (position (Some n) (loop_from x n h.loop_start) 0 (h.depth + 1))
  gap_enter x ys h n begins left around = block x (last nil) 0 n begins left refl around

  pub gap_inside : (ys : List Element) (h : Position) (n : ℕ) → Rest xs n ys → Gap xs ys h → Inside xs n h h.block
  gap_inside ys h n r (free u e) = record { items = u; after = ys; parted = e; at_place = rest_long r }
  gap_inside ys h n r (block y b k s begins left number around) = record {
    before = left.before;
    opener = y;
    branches = b;
    after = ys;
    begins = begins;
    parted = left.parted;
    at_start = left.at_place;
    at_place = rest_long r;
    number = number;
  }
