-- Entries lying one after the other, three bytes each.
use Rattle.std.specs.Prelude.{◌≡◌, ℕ, ◌*◌, List, [], ◌∷◌, length, slice_index_or}
use Rattle.case_record.specs.declared.RawEntry.{RawEntry}

-- an entry by its bytes
abbrev pub entry_of : ℕ → ℕ → ℕ → RawEntry
entry_of k i b = record { kind = k; id = i; branch = b }

-- the same, of the bytes in a list
abbrev pub entry_from : List ℕ → RawEntry
entry_from bs = entry_of (slice_index_or bs 0 0) (slice_index_or bs 1 0) (slice_index_or bs 2 0)

-- the entry of three zeros, which stands for one past the end
abbrev pub zeros : RawEntry
zeros = entry_of 0 0 0

-- the entries in bytes; a rest of one or two bytes is dropped
abbrev pub entries_in : List ℕ → List RawEntry
entries_in [] = []
entries_in (k ∷ []) = []
entries_in (k ∷ i ∷ []) = []
entries_in (k ∷ i ∷ b ∷ bs) = entry_of k i b ∷ entries_in bs

-- the bytes of entries
abbrev pub entry_bytes : List RawEntry → List ℕ
entry_bytes [] = []
entry_bytes (e ∷ es) = e.kind ∷ e.id ∷ e.branch ∷ entry_bytes es

-- no byte is left over
abbrev pub Threefold : List ℕ → Type 0
Threefold bs = length bs ≡ 3 * length (entries_in bs)
