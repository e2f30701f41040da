-- Ids in the order of their offering. Assumes nothing.
--   listed xs id               whether id is in xs
--   each_once xs               the ids of xs are below 64, and none is there twice
--   offered_order id xs        id stands at the end, unless it is in or above 63
--   withdrawn_order id xs      the others, in their order
--   order_in_step wanted xs    the ids of xs that are wanted, in their order, and then those that are new, ascending
use Rattle.std.specs.Prelude.{ℕ, Bool, true, false, cond, not, ◌&&◌, ◌||◌, List, [], ◌∷◌, ◌++◌, filter, ◌==◌, nat_lt}
use Rattle.ids.specs.Counts.{ids_of}

abbrev pub listed : List ℕ → ℕ → Bool
listed [] id = false
listed (x ∷ xs) id = x == id || listed xs id

abbrev pub each_once : List ℕ → Bool
each_once [] = true
each_once (x ∷ xs) = (nat_lt x 64 && not (listed xs x)) && each_once xs

abbrev pub offered_order : ℕ → List ℕ → List ℕ
offered_order id xs = cond (nat_lt id 64 && not (listed xs id)) (xs ++ id ∷ []) xs

abbrev pub withdrawn_order : ℕ → List ℕ → List ℕ
withdrawn_order id xs = filter (λ x. not (x == id)) xs

abbrev pub order_in_step : (ℕ → Bool) → List ℕ → List ℕ
order_in_step wanted xs = filter wanted xs ++ ids_of (λ id. wanted id && not (listed xs id)) 64
