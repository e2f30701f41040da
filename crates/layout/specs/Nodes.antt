-- Where a node stands. Assumes nothing.
use Rattle.std.specs.Prelude.{ℕ, ◌<◌, List, length, Some, None, Option, slice_index_or}
use Rattle.model.specs.declared.Element.{Element}
use Rattle.model.specs.declared.Element.TheVariants.{AndSplit}
use Rattle.model.specs.Rows.{Bears, Among}

-- A place whose element bears the id; none only if no element bears it. Ids end at 63.
abbrev pub Finds : List Element → ℕ → Option ℕ → Type 0
Finds xs u None = u < 64 → Among xs u → ⊥
Finds xs u (Some p) = (p < length xs) × Bears (slice_index_or xs p AndSplit) u
