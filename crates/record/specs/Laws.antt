-- Reading and writing are inverse.
use Rattle.std.specs.Prelude.{◌≡◌, ℕ, ◌≤◌, List, length, Some}
use Rattle.record.specs.Hex.{Spelling, decoded}
use Rattle.record.specs.SchemaRecords.{RawSchema, Writable, schema_in, schema_line}

-- a line is decoded to bytes exactly if it spells them
abbrev pub DecodingInvertsHex : Type 0
DecodingInvertsHex =
    (line bs : List ℕ) → (decoded line ≡ Some bs → Spelling line bs) × (Spelling line bs → decoded line ≡ Some bs)

-- a schema is read from a line exactly if it can be written and the line is its writing and short enough
abbrev pub ReadingInvertsWriting : Type 0
ReadingInvertsWriting =
    (line : List ℕ) (s : RawSchema)
    → (schema_in line ≡ Some s → Writable s × (line ≡ schema_line s) × (length line ≤ 1024))
    × (Writable s × (line ≡ schema_line s) × (length line ≤ 1024) → schema_in line ≡ Some s)
