-- The row that a record's elements spell, one after the other. Assumes nothing.
--   among xs u       whether node u is in the row
--   row_read         the row, or the place of the first element that is wrong
use Rattle.std.specs.Prelude.{ℕ, ◌+◌, Bool, false, cond, ◌||◌, List, [], ◌∷◌, ◌++◌, Some, None, Ok, Err, Option, Result}
use Rattle.model.specs.declared.Element.{Element}
use Rattle.model.specs.declared.Edge.{Edge}
use Rattle.model.specs.Elements.{node_id, bytes_read}
use Rattle.ids.specs.Sets.{is_id}

abbrev pub among : List Element → ℕ → Bool
among [] u = false
among (x ∷ xs) u = is_id (node_id x) u || among xs u

-- The id, if there is one, was used earlier.
abbrev pub used : List Element → Option ℕ → Bool
used xs None = false
used xs (Some i) = among xs i

-- An element after others: it is wrong if its bytes spell none, or if its id was used earlier.
abbrev pub row_taken : List Element → ℕ → Option Element → (List Element → Result (List Element) ℕ) → Result (List Element) ℕ
row_taken row p None rest = Err p
row_taken row p (Some x) rest = cond (used row (node_id x)) (Err p) (rest (row ++ x ∷ []))

-- The elements from place p on, after this row.
abbrev pub row_read : List Element → ℕ → List (ℕ × ℕ) → Result (List Element) ℕ
row_read row p [] = Ok row
row_read row p (b ∷ bs) = row_taken row p (bytes_read b.0 b.1) (λ r. row_read r (p + 1) bs)

-- Two bytes of a record as an edge.
abbrev pub edge_of : ℕ × ℕ → Edge
edge_of b = record { source = b.0; target = b.1 }
