-- The check goes one element further. Assumes nothing.
use Rattle.std.proofs.Common.{◌≡◌, ℕ, ◌+◌, ◌<◌, ◌≤◌, List, [], ◌∷◌, length, get_or, drop, Some, None, Option, sym, ap, ◌∙◌, subst}
use Rattle.std.proofs.lemmas.List.{drop_all, drop_more, at_drop_all}
use Rattle.model.specs.declared.Element.{Element}
use Rattle.blocks.specs.declared.Frame.{Frame}
use Rattle.blocks.specs.declared.Start.{Start}
use Rattle.blocks.specs.declared.Start.TheVariants.{Block}
use Rattle.blocks.specs.declared.Next.{Next}
use Rattle.blocks.specs.Blocks.{fault, starts, started, moved, meets, else_at, Ends}

module _ (xs : List Element) (p : ℕ) where
  -- past the row's end
  pub ends_at_end : length xs ≤ p → Ends (drop p xs)
  ends_at_end h = subst Ends (sym (drop_all p xs h)) tt

  pub closed_at_end : length xs ≤ p → fault [] p (drop p xs) ≡ None
  closed_at_end h = at_drop_all (fault [] p) xs p h

  pub open_at_end : (f : Frame) (s : List Frame) → length xs ≤ p → fault (f ∷ s) p (drop p xs) ≡ Some p
  open_at_end f s h = at_drop_all (fault (f ∷ s) p) xs p h

  -- x stands at p
  module _ (d : Element) (within : p < length xs) where
    here : drop p xs ≡ get_or xs p d ∷ drop (p + 1) xs
    here = drop_more xs p d within

    by_start : (s : List Frame) (st : Option Start) → st ≡ starts (get_or xs p d) → fault s p (drop p xs) ≡ else_at p (started st (get_or xs p d) s) (λ t. fault t (p + 1) (drop (p + 1) xs))
    by_start s st e = ap (fault s p) here ∙ ap (λ y. else_at p (started y (get_or xs p d) s) (λ t. fault t (p + 1) (drop (p + 1) xs))) (sym e)

    pub ends_here : None ≡ starts (get_or xs p d) → Ends (drop p xs)
    ends_here e = subst Ends (sym here) (sym e)

    ends_back : Ends (drop p xs) → None ≡ starts (get_or xs p d)
    ends_back h = sym (subst Ends here h)

    pub passes_activity : Some Start.Activity ≡ starts (get_or xs p d) → (s : List Frame) → fault s p (drop p xs) ≡ fault s (p + 1) (drop (p + 1) xs)
    passes_activity e s = by_start s _ e

    pub passes_opener : (f : Frame) → Some (Block f) ≡ starts (get_or xs p d) → (s : List Frame) → fault s p (drop p xs) ≡ fault (f ∷ s) (p + 1) (drop (p + 1) xs)
    passes_opener f e s = by_start s _ e

    pub by_next : Ends (drop p xs) → (f : Frame) (n : Option Next) → n ≡ meets f (get_or xs p d) → (s : List Frame)
        → fault (f ∷ s) p (drop p xs) ≡ else_at p (moved n s) (λ t. fault t (p + 1) (drop (p + 1) xs))
    by_next h f n e s =
        by_start (f ∷ s) None (ends_back h)
        ∙ ap (λ y. else_at p (moved y s) (λ t. fault t (p + 1) (drop (p + 1) xs))) (sym e)
