-- How many ids there are of a sort. Assumes nothing.
--   ids_below n       the ids below n, ascending
--   ids_of p n        those of them that p holds of
--   how_many p        how many of the ids 0 to 63 p holds of
use Rattle.std.specs.Prelude.{ℕ, zero, suc, Bool, List, [], ◌∷◌, ◌++◌, length, filter}

unfoldable pub ids_below : ℕ → List ℕ
ids_below zero = []
ids_below (suc n) = ids_below n ++ n ∷ []

abbrev pub ids_of : (ℕ → Bool) → ℕ → List ℕ
ids_of p n = filter p (ids_below n)

abbrev pub how_many : (ℕ → Bool) → ℕ
how_many p = length (ids_of p 64)
