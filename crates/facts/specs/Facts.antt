-- The facts of a case, by id. Assumes nothing.
--   reset P fs   without those of the ids in P
use Rattle.std.specs.Prelude.{ℕ, ◌+◌, Bool, cond, List, [], ◌∷◌}
use Rattle.model.specs.declared.Fact.{Fact}
use Rattle.model.specs.declared.Fact.TheVariants.{Nothing}

-- The facts from id n on; to the nodes in P nothing has happened.
abbrev pub reset_from : (ℕ → Bool) → ℕ → List Fact → List Fact
reset_from P n [] = []
reset_from P n (f ∷ fs) = cond (P n) Nothing f ∷ reset_from P (n + 1) fs

abbrev pub reset : (ℕ → Bool) → List Fact → List Fact
reset P fs = reset_from P 0 fs
