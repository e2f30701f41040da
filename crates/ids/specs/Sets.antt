-- Sets of ids, kept as the bits of a number. Assumes nothing.
--   has s i            whether i is in s: the meaning of a set
--   empty, only i      the set of no id, and of one
--   with_id s i        the ids of s, and i if it is one
--   union, intersection, difference
--   LeastIn s o        o is the least id of s, if there is one
use Rattle.std.specs.Prelude.{◌≡◌, ℕ, ◌/◌, ◌%◌, ◌^◌, ◌<◌, Bool, true, false, cond, Some, None, Option, ◌==◌, bit_and, bit_or, bit_xor, nat_lt}
use Rattle.ids.specs.declared.IdSet.{IdSet}

unfoldable pub has : IdSet → ℕ → Bool
has s i = s.bits / 2 ^ i % 2 == 1

abbrev pub empty : IdSet
empty = record { bits = 0 }

-- Ids end at 63.
unfoldable pub only : ℕ → IdSet
only i = record { bits = cond (nat_lt i 64) (2 ^ i) 0 }

unfoldable pub union : IdSet → IdSet → IdSet
union s t = record { bits = bit_or s.bits t.bits }

-- Whether i is the id that is given.
abbrev pub is_id : Option ℕ → ℕ → Bool
is_id None i = false
is_id (Some j) i = i == j

abbrev pub with_id : IdSet → Option ℕ → IdSet
with_id s None = s
with_id s (Some i) = union s (only i)

unfoldable pub intersection : IdSet → IdSet → IdSet
intersection s t = record { bits = bit_and s.bits t.bits }

-- The ids of s that are not in t.
unfoldable pub difference : IdSet → IdSet → IdSet
difference s t = record { bits = bit_xor s.bits (bit_and s.bits t.bits) }

-- This is the least id of the set, if it has one.
abbrev pub LeastIn : IdSet → Option ℕ → Type 0
LeastIn s None = (i : ℕ) → has s i ≡ false
LeastIn s (Some i) = (i < 64) × (has s i ≡ true) × ((j : ℕ) → j < i → has s j ≡ false)
