-- Lists in which each id is once: they count their ids, so they have at most 64. Assumes nothing.
use Rattle.std.proofs.Common.{◌≡◌, ℕ, zero, suc, ◌<◌, ◌≤◌, Bool, true, false, cond, ◌||◌, eqb, ltb, List, [], ◌∷◌, ◌++◌, length, filter, refl, ◌∙◌, arith}
use Rattle.std.proofs.lemmas.List.{length_push}
use Rattle.std.proofs.lemmas.List.Sums.{length-filter, count_by-le-length}
use Rattle.ids.specs.Counts.{ids_below, ids_of, how_many}
use Rattle.ids.proofs.Counting.{count_more}
use Rattle.queue.specs.Orders.{listed, each_once}
use Rattle.queue.proofs.Listed.{listed_append, listed_kept}

-- the head is below 64 and not in the tail, where each is once too
pub once_parts : (x : ℕ) (xs : List ℕ) → each_once (x ∷ xs) ≡ true → (x < 64) × (listed xs x ≡ false) × (each_once xs ≡ true)
once_parts x xs h = (grind arith, grind arith, grind arith)

pub once_push : (xs : List ℕ) (id : ℕ) → each_once xs ≡ true → id < 64 → listed xs id ≡ false → each_once (xs ++ id ∷ []) ≡ true
once_push [] id once small new = grind arith
once_push (x ∷ xs) id once small new = grind (arith, listed_append xs (id ∷ []) x, once_push xs id)

pub once_kept : (p : ℕ → Bool) (xs : List ℕ) → each_once xs ≡ true → each_once (filter p xs) ≡ true
once_kept p [] once = refl
once_kept p (x ∷ xs) once = grind (arith, listed_kept p xs x, once_kept p xs)

-- an id besides counts one more, from its place on
count_beside : (x : ℕ) (p : ℕ → Bool) (n : ℕ) → p x ≡ false → length (ids_of (λ i. eqb x i || p i) n) ≡ cond (ltb x n) (suc (length (ids_of p n))) (length (ids_of p n))
unfolding ids_below
count_beside x p zero new = grind arith
count_beside x p (suc n) new = grind (arith, count_more (λ i. eqb x i || p i) n, count_more p n, count_beside x p n new)

count_none : (n : ℕ) → length (ids_of (λ i. false) n) ≡ 0
unfolding ids_below
count_none zero = refl
count_none (suc n) = count_more (λ i. false) n ∙ omega (arith, count_none n)

pub count_once : (xs : List ℕ) → each_once xs ≡ true → how_many (listed xs) ≡ length xs
count_once [] once = count_none 64
count_once (x ∷ xs) once = grind (arith, count_beside x (listed xs) 64, count_once xs)

length_below : (n : ℕ) → length (ids_below n) ≡ n
unfolding ids_below
length_below zero = refl
length_below (suc n) = length_push (ids_below n) n ∙ omega (arith, length_below n)

pub how_many_fits : (p : ℕ → Bool) → how_many p ≤ 64
how_many_fits p = omega (arith, length-filter p (ids_below 64), count_by-le-length p (ids_below 64), length_below 64)

-- the pigeonholes: a list of distinct ids below 64 has at most 64, so there is room for a new one
pub once_fits : (xs : List ℕ) → each_once xs ≡ true → length xs ≤ 64
once_fits xs once = omega (arith, count_once xs once, how_many_fits (listed xs))

pub once_room : (xs : List ℕ) (id : ℕ) → each_once xs ≡ true → id < 64 → listed xs id ≡ false → length xs < 64
once_room xs id once small new =
    let more = xs ++ id ∷ [] in
    omega (arith, count_once more (once_push xs id once small new), how_many_fits (listed more), length_push xs id)
