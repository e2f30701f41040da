-- A pass that moves what a test keeps to the front, and writes nowhere behind it. Assumes nothing.
use Rattle.std.proofs.Common.{◌≡◌, ℕ, suc, ◌+◌, ◌-◌, ◌<◌, ◌≤◌, Bool, true, false, cond, List, [], ◌∷◌, ◌++◌, length, get_or, take, drop, set, sym, refl, ap, ◌∙◌, subst, arith, append-nil, append_assoc}
use Rattle.std.specs.List.Retain.{IsFiltered}
use Rattle.std.proofs.lemmas.List.{drop_more, drop_all, drop-drop, drop-set-lt, take_more_set}

module _ {X F : Type 0} (R : F → X → Bool → F → Type 0) where
  -- one more call in front
  tested : (f j : F) (x : X) (b : Bool) (xs zs : List X) → R f x b j → IsFiltered R j xs zs → IsFiltered R f (x ∷ xs) (cond b (x ∷ zs) zs)
  tested f j x true xs zs r h = (true ∷ h.0, h.1, ap suc h.2, (j, r, h.3), ap (λ l. x ∷ l) h.4)
  tested f j x false xs zs r h = (false ∷ h.0, h.1, ap suc h.2, (j, r, h.3), h.4)

  -- xs as it began, ys now; of the first i items k stay, and the test goes on as f
  pub record Retaining (began : F) (xs : List X) (f : F) (ys : List X) (k i : ℕ) : Type 0 where
    pub goes_on : (zs : List X) → IsFiltered R f (drop i xs) zs → IsFiltered R began xs (take k ys ++ zs)
    pub behind : drop k ys ≡ drop k xs
    pub within : k ≤ i

  module _ (began : F) (xs : List X) (f j : F) (ys : List X) (k i : ℕ) (x : X) (c : Retaining began xs f ys k i) (more : i < length xs) (same : length ys ≡ length xs) (is : x ≡ get_or ys i x) where
    behind_from : (n : ℕ) → drop (k + n) ys ≡ drop (k + n) xs
    behind_from n = sym (drop-drop n k ys) ∙ ap (drop n) c.behind ∙ drop-drop n k xs

    next : drop i xs ≡ x ∷ drop (i + 1) xs
    next =
        let on : k + (i - k) ≡ i = omega (arith, c.within) in
        let on' : k + (i + 1 - k) ≡ i + 1 = omega (arith, c.within) in
        sym (subst (λ n. drop n ys ≡ drop n xs) on (behind_from (i - k)))
        ∙ drop_more ys i x (omega arith)
        ∙ ap (λ y. y ∷ drop (i + 1) ys) (sym is)
        ∙ ap (λ l. x ∷ l) (subst (λ n. drop n ys ≡ drop n xs) on' (behind_from (i + 1 - k)))

    pub kept_one : R f x true j → Retaining began xs j (set ys k x) (k + 1) (i + 1)
    kept_one r = record {
      goes_on = λ zs h. subst (λ l. IsFiltered R began xs l)
          (sym (append_assoc (take k ys) (x ∷ []) zs) ∙ ap (λ l. l ++ zs) (sym (take_more_set ys k x (omega (arith, c.within)))))
          (c.goes_on (x ∷ zs) (subst (λ l. IsFiltered R f l (x ∷ zs)) (sym next) (tested f j x true _ zs r h)));
      behind = drop-set-lt (k + 1) ys k x (omega arith) ∙ behind_from 1;
      within = omega (arith, c.within);
    }

    pub dropped_one : R f x false j → Retaining began xs j ys k (i + 1)
    dropped_one r = record {
      goes_on = λ zs h. c.goes_on zs (subst (λ l. IsFiltered R f l zs) (sym next) (tested f j x false _ zs r h));
      behind = c.behind;
      within = omega (arith, c.within);
    }

  pub all_tested : (began : F) (xs : List X) (f : F) (ys : List X) (k i : ℕ) → Retaining began xs f ys k i → length xs ≤ i → IsFiltered R began xs (take k ys)
  all_tested began xs f ys k i c end =
      subst (IsFiltered R began xs) (append-nil (take k ys))
      (c.goes_on [] (subst (λ l. IsFiltered R f l []) (sym (drop_all i xs end)) ([], f, refl, refl, refl)))
