-- The least id of which a test holds. Assumes nothing.
use Rattle.std.proofs.Common.{◌≡◌, ℕ, zero, suc, ◌+◌, ◌<◌, ◌≤◌, Bool, true, false, cond, Some, None, Option, sym, refl, ap, ◌∙◌, subst, ⊎_elim, arith}
use Rattle.std.proofs.lemmas.Bool.{cases_order, true≢false}
use Rattle.conditions.specs.Conditions.{least_from, least}

-- What the least of n ids from i on tells.
abbrev pub LeastOf : (ℕ → Bool) → ℕ → ℕ → Option ℕ → Type 0
LeastOf P i n None = (k : ℕ) → i ≤ k → k < i + n → P k ≡ false
LeastOf P i n (Some m) = (P m ≡ true) × ((k : ℕ) → i ≤ k → k < m → P k ≡ false) × (m < i + n)

module _ (P : ℕ → Bool) where
  from_next : (i k : ℕ) → P i ≡ false → i ≤ k → (i + 1 ≤ k → P k ≡ false) → P k ≡ false
  from_next i k e h f = ⊎_elim (λ (is : i ≡ k). subst (λ n. P n ≡ false) is e) (⊎_elim (λ (l : i < k). f (omega arith)) (λ (l : k < i). absurd (omega arith))) (cases_order i k)

  with_next : (i n : ℕ) → P i ≡ false → (o : Option ℕ) → LeastOf P (i + 1) n o → LeastOf P i (suc n) o
  with_next i n e None h = λ k from to. from_next i k e from (λ l. h k l (omega arith))
  with_next i n e (Some m) h = (h.0, λ k from to. from_next i k e from (λ l. h.1 k l to), omega (arith, h.2))

  least_of : (i n : ℕ) → LeastOf P i n (least_from P i n)
  least_of i zero = λ k from to. absurd (omega arith)
  least_of i (suc n) = go (P i) refl (least_of (i + 1) n)
    where
      go : (b : Bool) → P i ≡ b → LeastOf P (i + 1) n (least_from P (i + 1) n) → LeastOf P i (suc n) (cond b (Some i) (least_from P (i + 1) n))
      go true e h = (e, λ k from to. absurd (omega arith), omega arith)
      go false e h = with_next i n e (least_from P (i + 1) n) h

  pub least_tells : LeastOf P 0 64 (least P)
  unfolding least
  least_tells = least_of 0 64

  -- where it holds of none there is none
  pub least_none : ((k : ℕ) → k < 64 → P k ≡ false) → least P ≡ None
  least_none h = go (least P) least_tells
    where
      go : (o : Option ℕ) → LeastOf P 0 64 o → o ≡ None
      go None l = refl
      go (Some m) l = absurd (true≢false (sym l.0 ∙ h m (omega (arith, l.2))))

  -- the one with none below it is the least
  pub least_some : (m : ℕ) → m < 64 → P m ≡ true → ((k : ℕ) → k < m → P k ≡ false) → least P ≡ Some m
  least_some m low is h = go (least P) least_tells
    where
      go : (o : Option ℕ) → LeastOf P 0 64 o → o ≡ Some m
      go None l = absurd (true≢false (sym is ∙ l m (omega arith) (omega arith)))
      go (Some q) l =
          ⊎_elim (λ (e : q ≡ m). ap Some e)
          (⊎_elim (λ (less : q < m). absurd (true≢false (sym l.0 ∙ h q less))) (λ (less : m < q). absurd (true≢false (sym is ∙ l.1 m (omega arith) less))))
          (cases_order q m)
