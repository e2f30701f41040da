-- Which facts a reset keeps. Assumes nothing.
use Rattle.std.proofs.Common.{◌≡◌, ℕ, zero, suc, ◌+◌, ◌<◌, ◌≤◌, Bool, true, false, cond, ◌&&◌, ltb, List, [], ◌∷◌, length, get_or, set, replicate, sym, refl, ap, ◌∙◌, arith}
use Rattle.std.proofs.lemmas.Bool.Decides.{nat_tests}
use Rattle.std.proofs.lemmas.Grind.{common_steps}
use Rattle.std.proofs.lemmas.List.{ext_get_or, get_or_past, length-set, get_or-set_same, get_or-set_other}
use Rattle.model.specs.declared.Fact.{Fact}
use Rattle.model.specs.declared.Fact.TheVariants.{Nothing}
use Rattle.model.specs.Signals.{fact_of}
use Rattle.facts.specs.Facts.{reset_from, reset}

long_from : (P : ℕ → Bool) (n : ℕ) (fs : List Fact) → length (reset_from P n fs) ≡ length fs
long_from P n [] = refl
long_from P n (f ∷ fs) = ap suc (long_from P (n + 1) fs)

kept_from : (P : ℕ → Bool) (n : ℕ) (fs : List Fact) (k : ℕ) → get_or (reset_from P n fs) k Nothing ≡ cond (P (n + k)) Nothing (get_or fs k Nothing)
kept_from P n [] k = grind arith
kept_from P n (f ∷ fs) zero = grind arith
kept_from P n (f ∷ fs) (suc k) = grind (arith, kept_from P (n + 1) fs k)

module _ (P : ℕ → Bool) where
  pub reset_long : (fs : List Fact) → length (reset P fs) ≡ length fs
  reset_long fs = long_from P 0 fs

  pub reset_of : (fs : List Fact) (id : ℕ) → fact_of (reset P fs) id ≡ cond (P id) Nothing (fact_of fs id)
  reset_of fs id = grind (arith, kept_from P 0 fs id)

  -- facts with these values are those of a reset
  pub reset_is : (fs gs : List Fact) → length gs ≡ length fs → ((id : ℕ) → fact_of gs id ≡ cond (P id) Nothing (fact_of fs id)) → gs ≡ reset P fs
  reset_is fs gs long same = ext_get_or Nothing gs (reset P fs) (long ∙ sym (reset_long fs)) (λ id h. same id ∙ sym (reset_of fs id))

  -- nothing is lost where nothing has happened
  pub reset_nothing : (n : ℕ) → reset P (replicate n Nothing) ≡ replicate n Nothing
  reset_nothing n = sym (reset_is (replicate n Nothing) (replicate n Nothing) refl (λ id. grind (arith, common_steps)))

  -- a fact that is reset may be anything before
  pub reset_set : (fs : List Fact) (i : ℕ) (f : Fact) → P i ≡ true → reset P (set fs i f) ≡ reset P fs
  reset_set fs i f e = reset_is fs (reset P (set fs i f)) (reset_long (set fs i f) ∙ length-set fs i f) (λ id. grind (arith, reset_of (set fs i f) id, get_or-set_other fs i id f Nothing))

  -- one that is kept may be set before or after
  pub set_reset : (fs : List Fact) (i : ℕ) (f : Fact) → i < length fs → P i ≡ false → reset P (set fs i f) ≡ set (reset P fs) i f
  set_reset fs i f low e =
      sym (reset_is (set fs i f) (set (reset P fs) i f) (length-set (reset P fs) i f ∙ reset_long fs ∙ sym (length-set fs i f))
      (λ id. grind (arith, reset_of fs id, reset_long fs, get_or-set_same (reset P fs) i f Nothing, get_or-set_same fs i f Nothing, get_or-set_other fs i id f Nothing, get_or-set_other (reset P fs) i id f Nothing)))

-- the ids in P that are below n
abbrev pub below : (ℕ → Bool) → ℕ → ℕ → Bool
below P n k = ltb k n && P k

module _ (P : ℕ → Bool) (fs : List Fact) where
  pub below_none : fs ≡ reset (below P 0) fs
  below_none = reset_is (below P 0) fs fs refl (λ id. grind (arith, nat_tests))

  pub below_all : (gs : List Fact) (n : ℕ) → length fs ≤ n → gs ≡ reset (below P n) fs → gs ≡ reset P fs
  below_all gs n few e =
      e ∙ reset_is P fs (reset (below P n) fs) (reset_long (below P n) fs) (λ id. grind (arith, nat_tests, reset_of (below P n) fs id, get_or_past fs id Nothing))

  pub below_more : (gs : List Fact) (n : ℕ) → n < length fs → gs ≡ reset (below P n) fs → P n ≡ true → set gs n Nothing ≡ reset (below P (n + 1)) fs
  below_more gs n low e t =
      let rs = reset (below P n) fs in
      ap (λ hs. set hs n Nothing) e
      ∙ reset_is (below P (n + 1)) fs (set rs n Nothing) (length-set rs n Nothing ∙ reset_long (below P n) fs)
      (λ id. grind (arith, nat_tests, reset_long (below P n) fs, reset_of (below P n) fs id, get_or-set_same rs n Nothing Nothing, get_or-set_other rs n id Nothing Nothing))

  pub below_skip : (gs : List Fact) (n : ℕ) → gs ≡ reset (below P n) fs → P n ≡ false → gs ≡ reset (below P (n + 1)) fs
  below_skip gs n e f =
      e ∙ reset_is (below P (n + 1)) fs (reset (below P n) fs) (reset_long (below P n) fs) (λ id. grind (arith, nat_tests, reset_of (below P n) fs id))
