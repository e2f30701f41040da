-- Reading and writing are inverse.
use Rattle.std.specs.Prelude.{◌≡◌, ℕ, ◌≤◌, List, length, Some}
use Rattle.case_record.specs.CaseRecords.{RawCase, Writable, case_in, case_line}

-- the case can be written, and the line is its writing and no longer than a line may be
abbrev pub LineOf : List ℕ → RawCase → Type 0
LineOf line c = Writable c × (line ≡ case_line c) × (length line ≤ 1024)

-- a case is read from a line exactly if the line is its own
abbrev pub ReadingInvertsWriting : Type 0
ReadingInvertsWriting =
    (line : List ℕ) (c : RawCase)
    → (case_in line ≡ Some c → LineOf line c)
    × (LineOf line c → case_in line ≡ Some c)
