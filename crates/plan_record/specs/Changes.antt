-- Changes lying one after the other, four bytes each.
use Rattle.std.specs.Prelude.{ℕ, List, [], ◌∷◌, slice_index_or}
use Rattle.plan_record.specs.declared.RawChange.{RawChange}

-- a change by its bytes
abbrev pub change_of : ℕ → ℕ → ℕ → ℕ → RawChange
change_of k a b c = record { kind = k; a = a; b = b; c = c }

-- the same, of the bytes in a list
abbrev pub change_from : List ℕ → RawChange
change_from bs = change_of (slice_index_or bs 0 0) (slice_index_or bs 1 0) (slice_index_or bs 2 0) (slice_index_or bs 3 0)

-- the change of four zeros, which stands for one past the end
abbrev pub zeros : RawChange
zeros = change_of 0 0 0 0

-- the changes in bytes; a rest of one to three bytes is dropped
abbrev pub changes_in : List ℕ → List RawChange
changes_in [] = []
changes_in (k ∷ []) = []
changes_in (k ∷ a ∷ []) = []
changes_in (k ∷ a ∷ b ∷ []) = []
changes_in (k ∷ a ∷ b ∷ c ∷ bs) = change_of k a b c ∷ changes_in bs

-- the bytes of changes
abbrev pub change_bytes : List RawChange → List ℕ
change_bytes [] = []
change_bytes (x ∷ xs) = x.kind ∷ x.a ∷ x.b ∷ x.c ∷ change_bytes xs
