-- The ids that a board offers. Assumes nothing.
use Rattle.std.specs.Prelude.{ℕ, Bool}
use Rattle.ids.specs.Sets.{has}
use Rattle.worklist.specs.declared.board.Board.{Board}

abbrev pub marked : Board → ℕ → Bool
marked b = has b.marks
