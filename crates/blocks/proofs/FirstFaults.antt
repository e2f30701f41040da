-- The place of a fault is the first that nothing mends. Assumes nothing.
use Rattle.std.proofs.Common.{◌≡◌, ℕ, suc, ◌+◌, ◌<◌, ◌≤◌, cond, ltb, List, [], ◌∷◌, ◌++◌, length, take, drop, ◌-◌, length-drop, Some, None, Option, Result, sym, refl, ap, ◌∙◌, subst, arith}
use Rattle.std.proofs.lemmas.Option.{none-some}
use Rattle.model.specs.declared.Element.{Element}
use Rattle.model.specs.declared.Element.TheVariants.{Bar, AndJoin, XorJoin, LoopEnd}
use Rattle.blocks.specs.declared.Frame.{Frame}
use Rattle.blocks.specs.declared.Frame.TheVariants.{And, Xor, Loop}
use Rattle.blocks.specs.Blocks.{fault, opens, else_at, at_end, verdict, Ends}
use Rattle.model.specs.Trees.{First, Tells}
use Rattle.blocks.proofs.RowsOfTrees.{Clean, tells_ok, tree_clean}

-- what closes these blocks
abbrev closing : List Frame → List Element
closing [] = []
closing (And k ∷ s) = cond (ltb 0 k) (AndJoin ∷ closing s) (Bar ∷ AndJoin ∷ closing s)
closing (Xor k ∷ s) = cond (ltb 0 k) (XorJoin ∷ closing s) (Bar ∷ XorJoin ∷ closing s)
closing (Loop ∷ s) = LoopEnd 0 ∷ closing s

closed : (s : List Frame) → Clean s (closing s)
closed [] p = refl
closed (And k ∷ s) p = grind (arith, closed s)
closed (Xor k ∷ s) p = grind (arith, closed s)
closed (Loop ∷ s) p = closed s (p + 1)

-- Where the rest of a row is refused: after k more elements.
record Stop (s : List Frame) (xs : List Element) (p q : ℕ) : Type 0 where
  k : ℕ
  place : q ≡ p + k
  within : k ≤ length xs
  rest : List Element
  good : Clean s (take k xs ++ rest)
  bad : k < length xs → (ys : List Element) (r : ℕ) → fault s r (take (suc k) xs ++ ys) ≡ Some (r + k)

at_once : (s : List Frame) (p : ℕ) → Stop s [] p p
at_once s p = record { k = 0; place = omega arith; within = omega arith; rest = closing s; good = closed s; bad = λ h. absurd (omega arith) }

stop_end : (s : List Frame) (p q : ℕ) → at_end s p ≡ Some q → Stop s [] p q
stop_end [] p q e = absurd cc
stop_end (f ∷ s) p q e = let same : p ≡ q = cc in subst (Stop (f ∷ s) [] p) same (at_once (f ∷ s) p)

stop_at : (x : Element) (xs : List Element) (s : List Frame) (p q : ℕ) (o : Option (List Frame)) → opens x s ≡ o
    → ((t : List Frame) → fault t (p + 1) xs ≡ Some q → Stop t xs (p + 1) q)
    → else_at p o (λ t. fault t (p + 1) xs) ≡ Some q → Stop s (x ∷ xs) p q
stop_at x xs s p q None is ih e =
    let same : p ≡ q = cc in
    record {
      k = 0;
      place = omega arith;
      within = omega arith;
      rest = closing s;
      good = closed s;
      bad = λ h ys r. ap (λ v. else_at r v (λ t. fault t (r + 1) ys)) is ∙ ap (λ n. Some n) (omega arith);
    }
stop_at x xs s p q (Some t) is ih e =
    let st = ih t e in
    record {
      k = suc st.k;
      place = omega (arith, st.place);
      within = omega (arith, st.within);
      rest = st.rest;
      good = λ r. ap (λ v. else_at r v (λ u. fault u (r + 1) (take st.k xs ++ st.rest))) is ∙ st.good (r + 1);
      bad = λ h ys r.
          ap (λ v. else_at r v (λ u. fault u (r + 1) (take (suc st.k) xs ++ ys))) is
          ∙ st.bad (omega arith) ys (r + 1)
          ∙ ap (λ n. Some n) (omega arith);
    }

stop : (xs : List Element) (s : List Frame) (p q : ℕ) → fault s p xs ≡ Some q → Stop s xs p q
stop [] s p q e = stop_end s p q e
stop (x ∷ xs) s p q e = stop_at x xs s p q (opens x s) refl (λ t. stop xs t (p + 1) q) e

pub first : (xs : List Element) (p : ℕ) → fault [] 0 xs ≡ Some p → First xs p
first xs p e =
    let st = stop xs [] 0 p e in
    let same : st.k ≡ p = omega (arith, st.place) in
    subst (First xs) same
    (record {
      within = st.within;
      good = (st.rest, tells_ok _ (st.good 0));
      bad = λ h more. none-some _ (sym (tree_clean _ more.1) ∙ st.bad h more.0 0);
      open_end = λ n. none-some _ (sym (tree_clean xs n) ∙ e);
    })

tells : (xs : List Element) (o : Option ℕ) → fault [] 0 xs ≡ o → Tells xs (verdict o)
tells xs None e = tells_ok xs e
tells xs (Some p) e = first xs p e

pub told : (xs : List Element) (r : Result (Unit {0}) ℕ) → r ≡ verdict (fault [] 0 xs) → Tells xs r
told xs r e = subst (Tells xs) (sym e) (tells xs (fault [] 0 xs) refl)

-- where no block is open, an element that begins no item is refused
pub refused_outside : (xs : List Element) (p : ℕ) → p < length xs → Ends (drop p xs) → fault [] p (drop p xs) ≡ Some p
refused_outside xs p within e = go (drop p xs) (length-drop p xs) e
  where
    go : (ys : List Element) → length ys ≡ length xs - p → Ends ys → fault [] p ys ≡ Some p
    go [] l e = absurd (omega arith)
    go (y ∷ ys) l e = rw e refl
