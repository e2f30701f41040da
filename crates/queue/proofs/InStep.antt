-- The order of a queue that was brought in step, id by id. Assumes nothing.
use Rattle.std.proofs.Common.{◌≡◌, ℕ, zero, suc, ◌+◌, ◌<◌, ◌≤◌, Bool, true, false, cond, not, ◌&&◌, ◌||◌, eqb, ltb, List, [], ◌∷◌, ◌++◌, filter, sym, refl, ap, ◌∙◌, add-one, arith}
use Rattle.std.proofs.lemmas.List.Elements.{filter-append}
use Rattle.std.proofs.lemmas.List.{append-nil, append_assoc}
use Rattle.ids.specs.Counts.{ids_below, ids_of}
use Rattle.ids.proofs.Counting.{ids_of_more}
use Rattle.worklist.specs.Differences.{Brought, left_alone, by_offer, by_withdrawal, ByDifference, none_yet, one_more}
use Rattle.queue.specs.declared.Queue.{Queue}
use Rattle.queue.specs.Bounds.{listed_past}
use Rattle.queue.specs.Orders.{listed, each_once, offered_order, withdrawn_order, order_in_step}
use Rattle.queue.specs.Queues.{order, queued}
use Rattle.queue.proofs.Listed.{listed_append, listed_kept, offered_new}

-- filters that agree on what is in the list
kept_same : (p q : ℕ → Bool) (xs : List ℕ) → ((x : ℕ) → listed xs x ≡ true → p x ≡ q x) → filter p xs ≡ filter q xs
kept_same p q [] h = refl
kept_same p q (x ∷ xs) h = grind (arith, h x (grind arith), kept_same p q xs (λ y l. h y (grind arith)))

kept_all : (p : ℕ → Bool) (xs : List ℕ) → ((x : ℕ) → listed xs x ≡ true → p x ≡ true) → filter p xs ≡ xs
kept_all p [] h = refl
kept_all p (x ∷ xs) h = grind (arith, h x (grind arith), kept_all p xs (λ y l. h y (grind arith)))

kept_kept : (p q : ℕ → Bool) (xs : List ℕ) → filter p (filter q xs) ≡ filter (λ x. q x && p x) xs
kept_kept p q [] = refl
kept_kept p q (x ∷ xs) = grind (arith, kept_kept p q xs)

below_unlisted : (m n : ℕ) → n ≤ m → listed (ids_below n) m ≡ false
unfolding ids_below
below_unlisted m zero h = refl
below_unlisted m (suc n) h = grind (arith, listed_append (ids_below n) (n ∷ []) m, below_unlisted m n)

-- an id that is not in is withdrawn for nothing
withdrawn_none : (id : ℕ) (xs : List ℕ) → listed xs id ≡ false → withdrawn_order id xs ≡ xs
withdrawn_none id xs h = kept_all (λ x. not (eqb x id)) xs (λ x l. grind arith)

module _ (wanted : ℕ → Bool) (xs : List ℕ) where
  -- below n only the wanted stay
  abbrev stays : ℕ → ℕ → Bool
  stays n x = not (ltb x n) || wanted x

  abbrev new : ℕ → Bool
  new id = wanted id && not (listed xs id)

  abbrev so_far : ℕ → List ℕ
  so_far n = filter (stays n) xs ++ ids_of new n

  so_far_none : so_far 0 ≡ xs
  unfolding ids_below
  so_far_none = append-nil (filter (stays 0) xs) ∙ kept_all (stays 0) xs (λ x l. grind arith)

  unlisted_new : (n : ℕ) → listed (ids_of new n) n ≡ false
  unlisted_new n = grind (arith, listed_kept new (ids_below n) n, below_unlisted n n)

  listed_so_far : (n : ℕ) → listed (so_far n) n ≡ listed xs n
  listed_so_far n = grind (arith, listed_append (filter (stays n) xs) (ids_of new n) n, unlisted_new n, listed_kept (stays n) xs n)

  stay_same : (n : ℕ) → (listed xs n ≡ true → wanted n ≡ true) → filter (stays (n + 1)) xs ≡ filter (stays n) xs
  stay_same n w = kept_same (stays (n + 1)) (stays n) xs (λ x l. grind arith)

  stay_unwanted : (n : ℕ) → wanted n ≡ false → filter (stays (n + 1)) xs ≡ withdrawn_order n (filter (stays n) xs)
  stay_unwanted n w = kept_same (stays (n + 1)) (λ x. stays n x && not (eqb x n)) xs (λ x l. grind arith) ∙ sym (kept_kept (λ x. not (eqb x n)) (stays n) xs)

  new_more : (n : ℕ) → ids_of new (n + 1) ≡ ids_of new n ++ cond (new n) (n ∷ []) []
  new_more n = ap (ids_of new) (add-one n) ∙ ids_of_more new n

  so_far_left : (n : ℕ) → listed xs n ≡ wanted n → so_far (n + 1) ≡ so_far n
  so_far_left n same = grind (arith, stay_same n (λ l. sym same ∙ l), new_more n, append-nil (ids_of new n))

  so_far_offered : (n : ℕ) → n < 64 → listed xs n ≡ false → wanted n ≡ true → so_far (n + 1) ≡ offered_order n (so_far n)
  so_far_offered n small u w = grind (arith, stay_same n (λ l. w), new_more n, append_assoc (filter (stays n) xs) (ids_of new n) (n ∷ []), offered_new n (so_far n) small (listed_so_far n ∙ u))

  so_far_withdrawn : (n : ℕ) → wanted n ≡ false → so_far (n + 1) ≡ withdrawn_order n (so_far n)
  so_far_withdrawn n w = grind (arith, stay_unwanted n w, new_more n, append-nil (ids_of new n), withdrawn_none n (ids_of new n) (unlisted_new n), filter-append (λ x. not (eqb x n)) (filter (stays n) xs) (ids_of new n))

  -- at 64 no id is left to look at
  so_far_all : each_once xs ≡ true → so_far 64 ≡ order_in_step wanted xs
  so_far_all once = ap (λ ys. ys ++ ids_of new 64) (kept_same (stays 64) wanted xs (λ x l. grind (arith, listed_past xs x once)))

abbrev Offering : Queue → ℕ → Queue → Type 0
Offering a id b = order b ≡ offered_order id (order a)

abbrev Withdrawing : Queue → ℕ → Queue → Type 0
Withdrawing a id b = order b ≡ withdrawn_order id (order a)

brought_order : (wanted : ℕ → Bool) (xs : List ℕ) (n : ℕ) {a b : Queue} → n < 64 → order a ≡ so_far wanted xs n → Brought queued Offering Withdrawing wanted n a b → order b ≡ so_far wanted xs (n + 1)
brought_order wanted xs n small e (left_alone same) = grind (arith, e, same, so_far_left wanted xs n, listed_so_far wanted xs n)
brought_order wanted xs n small e (by_offer out w o) = grind (arith, e, out, w, o, so_far_offered wanted xs n small, listed_so_far wanted xs n)
brought_order wanted xs n small e (by_withdrawal in' w o) = o ∙ ap (withdrawn_order n) e ∙ sym (so_far_withdrawn wanted xs n w)

difference_order : (wanted : ℕ → Bool) {n : ℕ} {a b : Queue} → n ≤ 64 → ByDifference queued Offering Withdrawing wanted n a b → order b ≡ so_far wanted (order a) n
difference_order wanted h none_yet = sym (so_far_none wanted _)
difference_order wanted h (one_more d s) = brought_order wanted _ _ (omega arith) (difference_order wanted (omega arith) d) s

-- what bringing a queue in step leaves of its order
pub order_after : (wanted : ℕ → Bool) (a b : Queue) → ByDifference queued Offering Withdrawing wanted 64 a b → order b ≡ order_in_step wanted (order a)
order_after wanted a b d = difference_order wanted (omega arith) d ∙ so_far_all wanted (order a) a.once
