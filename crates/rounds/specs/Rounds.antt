-- The round of a loop: what stands between its start and its test. Assumes nothing.
--   between xs i    the elements between the loop start and the loop end whose test is node i
--   in_round xs i   whether a node stands among these
--   outside P es    the entries of nodes that are not in P, in their order
use Rattle.std.specs.Prelude.{ℕ, ◌+◌, ◌-◌, Bool, cond, List, [], ◌∷◌, take, drop, Some, None, Option}
use Rattle.model.specs.declared.Element.{Element}
use Rattle.model.specs.declared.Entry.{Entry}
use Rattle.model.specs.Entries.{entry_id}
use Rattle.layout.specs.declared.Position.{Position}
use Rattle.schema.specs.Reading.{among}
use Rattle.schema.specs.Tables.{place_in, position_in}

-- The elements behind the block's start at s and before place p.
abbrev pub behind : List Element → ℕ → Option ℕ → List Element
behind xs p None = []
behind xs p (Some s) = take (p - (s + 1)) (drop (s + 1) xs)

-- A loop end stands inside its own loop.
abbrev pub within : List Element → ℕ → Option Position → List Element
within xs p None = []
within xs p (Some h) = behind xs p h.block

abbrev pub up_to : List Element → Option ℕ → List Element
up_to xs None = []
up_to xs (Some p) = within xs p (position_in xs p)

abbrev pub between : List Element → ℕ → List Element
between xs i = up_to xs (place_in xs i)

abbrev pub in_round : List Element → ℕ → ℕ → Bool
in_round xs i = among (between xs i)

abbrev pub outside : (ℕ → Bool) → List Entry → List Entry
outside P [] = []
outside P (e ∷ es) = cond (P (entry_id e)) (outside P es) (e ∷ outside P es)
