-- A case record: what it says, its writing and its reading.
use Rattle.std.specs.Prelude.{◌≡◌, ℕ, ◌+◌, ◌*◌, ◌/◌, ◌%◌, ◌^◌, ◌<◌, cond, ◌&&◌, List, [], ◌∷◌, length, Some, None, Option, ◌==◌}
use Rattle.std.specs.List.{AllByRecursion}
use Rattle.record.specs.Hex.{Byte, hex, decoded}
use Rattle.case_record.specs.declared.RawEntry.{RawEntry}
use Rattle.case_record.specs.Entries.{entries_in, entry_bytes}

-- what a case record says: the number of the case, and its entries
pub record RawCase : Type 0 where
  pub number : ℕ
  pub entries : List RawEntry

-- its writing: type, number, count of entries, entries; numbers with the high byte first
abbrev pub case_bytes : RawCase → List ℕ
case_bytes c =
    3 ∷ c.number / 16777216 ∷ c.number / 65536 % 256 ∷ c.number / 256 % 256 ∷ c.number % 256
    ∷ length c.entries / 256 ∷ length c.entries % 256 ∷ entry_bytes c.entries

-- its writing as a line
abbrev pub case_line : RawCase → List ℕ
case_line c = hex (case_bytes c)

-- all of an entry are bytes
abbrev pub ByteEntry : RawEntry → Type 0
ByteEntry e = Byte e.kind × Byte e.id × Byte e.branch

-- what its fields have room for
pub record Writable (c : RawCase) : Type 0 where
  pub number : c.number < 2 ^ 32
  pub few : length c.entries < 65536
  pub entries : AllByRecursion ByteEntry c.entries

-- the bytes are the writing of what they say
abbrev pub Writing : List ℕ → RawCase → Type 0
Writing bs c = Writable c × (bs ≡ case_bytes c)

-- the number that four bytes write
abbrev pub number_of : ℕ → ℕ → ℕ → ℕ → ℕ
number_of n3 n2 n1 n0 = n3 * 16777216 + n2 * 65536 + n1 * 256 + n0

-- the count that two bytes write
abbrev pub count_of : ℕ → ℕ → ℕ
count_of hi lo = hi * 256 + lo

-- the case in a record's bytes; none if they are of another type or not just as many as the count says
abbrev pub read_case : List ℕ → Option RawCase
read_case [] = None
read_case (t ∷ []) = None
read_case (t ∷ n3 ∷ []) = None
read_case (t ∷ n3 ∷ n2 ∷ []) = None
read_case (t ∷ n3 ∷ n2 ∷ n1 ∷ []) = None
read_case (t ∷ n3 ∷ n2 ∷ n1 ∷ n0 ∷ []) = None
read_case (t ∷ n3 ∷ n2 ∷ n1 ∷ n0 ∷ hi ∷ []) = None
read_case (t ∷ n3 ∷ n2 ∷ n1 ∷ n0 ∷ hi ∷ lo ∷ rest) =
    cond (t == 3 && length rest == 3 * count_of hi lo)
    (Some (record { number = number_of n3 n2 n1 n0; entries = entries_in rest }))
    None

-- the case in a record that may have been refused
abbrev pub read_decoded : Option (List ℕ) → Option RawCase
read_decoded None = None
read_decoded (Some bs) = read_case bs

-- the whole reading of a line's characters
abbrev pub case_in : List ℕ → Option RawCase
case_in line = read_decoded (decoded line)
