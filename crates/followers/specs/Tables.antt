-- The table of a row's followers. Assumes nothing.
use Rattle.std.specs.Prelude.{◌≡◌, ℕ, List, drop, slice_index_or}
use Rattle.ids.specs.Sets.{empty}
use Rattle.model.specs.declared.Element.{Element}
use Rattle.followers.specs.declared.FollowerTable.{FollowerTable}
use Rattle.followers.specs.Backwards.{followers}

-- A table is that of a row: it has the followers of every gap. Past the row's end there are none.
pub record FollowersOf (xs : List Element) (t : FollowerTable) : Type 0 where
  pub each : (g : ℕ) → slice_index_or t.sets g empty ≡ followers (drop g xs)
