-- One id brought in step, and all of them. Assumes nothing.
use Rattle.std.proofs.Common.{◌≡◌, ℕ, ◌+◌, ◌<◌, ◌≤◌, Bool, true, false, not, ◌&&◌, ◌||◌, eqb, ltb, sym, refl, ap, ◌∙◌, ⊎_elim, arith, below_more}
use mathlib.Core.Path.{fun_ext}
use Rattle.std.proofs.lemmas.Bool.{eq-eqb, ne_eqb, lt-ltb, cond-true, cond-false, cases_eq, cases_lt}
use Rattle.worklist.specs.Offers.{with_id, without_id, in_step_at}

or_true : (b : Bool) → (b || true) ≡ true
or_true true = refl
or_true false = refl

or_false : (b : Bool) → (b || false) ≡ b
or_false true = refl
or_false false = refl

and_true : (b : Bool) → (b && true) ≡ b
and_true true = refl
and_true false = refl

and_false : (b : Bool) → (b && false) ≡ false
and_false true = refl
and_false false = refl

module _ (wanted s : ℕ → Bool) (id : ℕ) where
  -- at id and elsewhere
  by_id : (t : ℕ → Bool) → t id ≡ wanted id → ((i : ℕ) → (i ≡ id → ⊥) → t i ≡ s i) → t ≡ in_step_at id wanted s
  by_id t here there = fun_ext (λ i. ⊎_elim
      (λ (e : i ≡ id). ap t e ∙ here ∙ ap wanted (sym e) ∙ sym (cond-true (eqb i id) (wanted i) (s i) (eq-eqb i id e)))
      (λ (n : i ≡ id → ⊥). there i n ∙ sym (cond-false (eqb i id) (wanted i) (s i) (ne_eqb i id n)))
      (cases_eq i id))

  pub step_left : s id ≡ wanted id → s ≡ in_step_at id wanted s
  step_left e = by_id s e (λ i n. refl)

  pub step_offered : id < 64 → wanted id ≡ true → with_id id s ≡ in_step_at id wanted s
  step_offered h w = by_id (with_id id s)
      (ap (λ b. s id || (b && ltb id 64)) (eq-eqb id id refl) ∙ ap (λ b. s id || b) (lt-ltb id 64 h) ∙ or_true (s id) ∙ sym w)
      (λ i n. ap (λ b. s i || (b && ltb id 64)) (ne_eqb i id n) ∙ or_false (s i))

  pub step_withdrawn : wanted id ≡ false → without_id id s ≡ in_step_at id wanted s
  step_withdrawn w = by_id (without_id id s)
      (ap (λ b. s id && not b) (eq-eqb id id refl) ∙ and_false (s id) ∙ sym w)
      (λ i n. ap (λ b. s i && not b) (ne_eqb i id n) ∙ and_true (s i))

-- the ids below n are in step; one more is
pub in_step_more : (wanted s t : ℕ → Bool) (n : ℕ) → ((i : ℕ) → i < n → s i ≡ wanted i) → t ≡ in_step_at n wanted s → (i : ℕ) → i < n + 1 → t i ≡ wanted i
in_step_more wanted s t n below e = below_more (λ i. t i ≡ wanted i) n
    (λ i h. ap (λ f. f i) e ∙ cond-false (eqb i n) (wanted i) (s i) (ne_eqb i n (omega arith)) ∙ below i h)
    (ap (λ f. f n) e ∙ cond-true (eqb n n) (wanted n) (s n) (eq-eqb n n refl))

-- ids end at 63
pub in_step_all : (wanted s : ℕ → Bool) → ((i : ℕ) → i < 64 → s i ≡ wanted i) → ((i : ℕ) → 64 ≤ i → s i ≡ false) → ((i : ℕ) → 64 ≤ i → wanted i ≡ false) → s ≡ wanted
in_step_all wanted s below past past' = fun_ext (λ i. ⊎_elim (below i) (λ h. past i h ∙ sym (past' i h)) (cases_lt i 64))
