-- A row is read as a tree in one way. Assumes nothing.
use Rattle.std.proofs.Common.{◌≡◌, List, [], ◌∷◌, sym, refl, ap, ap₂, subst}
use Rattle.model.specs.declared.Element.{Element}
use Rattle.model.specs.declared.Element.TheVariants.{Activity, AndSplit, Bar, AndJoin, XorSplit, XorJoin, LoopStart, LoopEnd}
use Rattle.model.specs.Trees.{Seq, nil, cons, Item, activity, loop, and, xor, Branches, last, bar, spell, spell_item, spell_branches}
use Rattle.changes.specs.Changed.{followed_by}
use Rattle.changes.proofs.Spots.{Ends}

begins : (x : Item) (ys : List Element) → Ends (spell_item x ys) → ⊥
begins (activity i) ys h = h
begins (loop t i) ys h = h
begins (and b) ys h = h
begins (xor i b) ys h = h

-- the first of them decides
ends : (x : Element) (ys : List Element) → Ends (x ∷ []) → Ends (x ∷ ys)
ends (Activity i) ys e = e
ends AndSplit ys e = e
ends Bar ys e = e
ends AndJoin ys e = e
ends (XorSplit i) ys e = e
ends XorJoin ys e = e
ends LoopStart ys e = e
ends (LoopEnd i) ys e = e

-- equal behind their first
tails : (x y : Element) (us vs : List Element) → x ∷ us ≡ y ∷ vs → us ≡ vs
tails x y us vs h = cc

mutual
  pub same_items : (t u : Seq) (us vs : List Element) → Ends us → Ends vs → spell t us ≡ spell u vs → (t ≡ u) × (us ≡ vs)
  same_items nil nil us vs e f h = (refl, h)
  same_items nil (cons y u) us vs e f h = absurd (begins y (spell u vs) (subst Ends h e))
  same_items (cons x t) nil us vs e f h = absurd (begins x (spell t us) (subst Ends (sym h) f))
  same_items (cons x t) (cons y u) us vs e f h =
      let r = same_item x y (spell t us) (spell u vs) h in
      let s = same_items t u us vs e f r.1 in
      (ap₂ cons r.0 s.0, s.1)

  pub same_item : (x y : Item) (us vs : List Element) → spell_item x us ≡ spell_item y vs → (x ≡ y) × (us ≡ vs)
  same_item (activity i) (activity j) us vs h = let same : i ≡ j = cc in (ap activity same, tails _ _ us vs h)
  same_item (loop t i) (loop u j) us vs h =
      let r = same_items t u (LoopEnd i ∷ us) (LoopEnd j ∷ vs) tt tt (tails _ _ _ _ h) in
      let k = r.1 in
      let same : i ≡ j = cc in
      (ap₂ loop r.0 same, tails _ _ us vs k)
  same_item (and b) (and c) us vs h =
      let r = same_branches b c AndJoin us vs tt (λ k. cc) (tails _ _ _ _ h) in (ap and r.0, r.1)
  same_item (xor i b) (xor j c) us vs h =
      let same : i ≡ j = cc in
      let r = same_branches b c XorJoin us vs tt (λ k. cc) (tails _ _ _ _ h) in (ap₂ xor same r.0, r.1)
  same_item x y us vs h = absurd cc

  same_branches : (b c : Branches) (x : Element) (us vs : List Element) → Ends (x ∷ []) → (x ≡ Bar → ⊥)
      → spell_branches b (x ∷ us) ≡ spell_branches c (x ∷ vs) → (b ≡ c) × (us ≡ vs)
  same_branches (last t) (last u) x us vs e n h =
      let r = same_items t u (x ∷ us) (x ∷ vs) (ends x us e) (ends x vs e) h in (ap last r.0, tails _ _ us vs r.1)
  same_branches (last t) (bar u c) x us vs e n h =
      let k = (same_items t u (x ∷ us) (Bar ∷ spell_branches c (x ∷ vs)) (ends x us e) tt h).1 in absurd (n cc)
  same_branches (bar t b) (last u) x us vs e n h =
      let k = (same_items t u (Bar ∷ spell_branches b (x ∷ us)) (x ∷ vs) tt (ends x vs e) h).1 in absurd (n cc)
  same_branches (bar t b) (bar u c) x us vs e n h =
      let r = same_items t u (Bar ∷ spell_branches b (x ∷ us)) (Bar ∷ spell_branches c (x ∷ vs)) tt tt h in
      let s = same_branches b c x us vs e n (tails _ _ _ _ r.1) in
      (ap₂ bar r.0 s.0, s.1)

-- the items at the front of a sequence's row are its first
pub first_items : (m t : Seq) (us vs : List Element) → Ends vs → spell t vs ≡ spell m us → (r : Seq) × (t ≡ followed_by m r) × (spell r vs ≡ us)
first_items nil t us vs e h = (t, refl, h)
first_items (cons x m) nil us vs e h = absurd (begins x (spell m us) (subst Ends h e))
first_items (cons x m) (cons y t) us vs e h =
    let s = same_item y x (spell t vs) (spell m us) h in
    let r = first_items m t us vs e s.1 in
    (r.0, ap₂ cons s.0 r.1, r.2)
