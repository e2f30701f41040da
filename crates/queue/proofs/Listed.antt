-- Which ids are in a list, and in one with an id offered or withdrawn. Assumes nothing.
use Rattle.std.proofs.Common.{◌≡◌, ℕ, ◌+◌, ◌<◌, Bool, true, false, not, ◌&&◌, ◌||◌, eqb, List, [], ◌∷◌, ◌++◌, length, get_or, take, filter, refl, ap, ◌∙◌, arith}
use Rattle.std.proofs.lemmas.List.{take_more}
use mathlib.Core.Path.{fun_ext}
use Rattle.std.specs.List.{IsAnyAnswer}
use Rattle.std.proofs.lemmas.List.Elements.{contains_decides}
use Rattle.std.proofs.lemmas.Bool.Decides.{same_from_decides, Decides-by_or, Decides-eqb}
use Rattle.worklist.specs.Offers.{with_id, without_id}
use Rattle.queue.specs.Orders.{listed, offered_order, withdrawn_order}

pub listed_contains : (xs : List ℕ) (id : ℕ) (r : Bool) → IsAnyAnswer (λ y t. eqb y id ≡ t) xs r → r ≡ listed xs id
listed_contains xs id r h =
    same_from_decides r (listed xs id) (contains_decides eqb Decides-eqb xs id r h)
    (Decides-by_or (λ x. eqb x id) (λ x. x ≡ id) (λ ys. listed ys id) (λ x. Decides-eqb x id) refl (λ _ _. refl) xs)

pub listed_append : (xs ys : List ℕ) (i : ℕ) → listed (xs ++ ys) i ≡ (listed xs i || listed ys i)
listed_append [] ys i = refl
listed_append (x ∷ xs) ys i = grind (arith, listed_append xs ys i)

-- one more from the front
pub listed_more : (xs : List ℕ) (n i : ℕ) → n < length xs → listed (take (n + 1) xs) i ≡ (listed (take n xs) i || eqb (get_or xs n 0) i)
listed_more xs n i less = ap (λ ys. listed ys i) (take_more xs n 0 less) ∙ listed_append (take n xs) (get_or xs n 0 ∷ []) i ∙ grind arith

pub listed_kept : (p : ℕ → Bool) (xs : List ℕ) (i : ℕ) → listed (filter p xs) i ≡ (listed xs i && p i)
listed_kept p [] i = refl
listed_kept p (x ∷ xs) i = grind (arith, listed_kept p xs i)

pub listed_offered : (id : ℕ) (xs : List ℕ) → listed (offered_order id xs) ≡ with_id id (listed xs)
listed_offered id xs = fun_ext (λ i. grind (arith, listed_append xs (id ∷ []) i))

pub offered_new : (id : ℕ) (xs : List ℕ) → id < 64 → listed xs id ≡ false → offered_order id xs ≡ xs ++ id ∷ []
offered_new id xs small new = grind arith

pub offered_in : (id : ℕ) (xs : List ℕ) → listed xs id ≡ true → offered_order id xs ≡ xs
offered_in id xs in' = grind arith

pub listed_withdrawn : (id : ℕ) (xs : List ℕ) → listed (withdrawn_order id xs) ≡ without_id id (listed xs)
listed_withdrawn id xs = fun_ext (listed_kept (λ x. not (eqb x id)) xs)
