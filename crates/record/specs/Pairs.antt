-- Bytes lying two by two, one pair after the other.
use Rattle.std.specs.Prelude.{◌≡◌, ℕ, ◌*◌, List, [], ◌∷◌, length, slice_index_or}

-- the pairs of bytes; a lone last byte is dropped
abbrev pub pairs : List ℕ → List (ℕ × ℕ)
pairs [] = []
pairs (b ∷ []) = []
pairs (b ∷ c ∷ bs) = (b, c) ∷ pairs bs

-- the pair of the bytes in a list
abbrev pub pair_of : List ℕ → ℕ × ℕ
pair_of p = (slice_index_or p 0 0, slice_index_or p 1 0)

-- the bytes of pairs
abbrev pub unpaired : List (ℕ × ℕ) → List ℕ
unpaired [] = []
unpaired (p ∷ ps) = p.0 ∷ p.1 ∷ unpaired ps

-- no byte is alone
abbrev pub Paired : List ℕ → Type 0
Paired bs = length bs ≡ 2 * length (pairs bs)
