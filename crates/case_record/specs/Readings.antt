-- What a case record that was taken apart says.
use Rattle.std.specs.Prelude.{◌≡◌, ℕ, List, Option, Result, MatchOption, IfSome}
use Rattle.std.specs.Option.{option_map}
use Rattle.std.specs.Result.{result_ok}
use Rattle.record.specs.declared.Malformed.{Malformed}
use Rattle.case_record.specs.declared.CaseRecord.{CaseRecord}
use Rattle.case_record.specs.CaseRecords.{RawCase, Writing, read_case}
use Rattle.case_record.specs.Entries.{entries_in, Threefold}

-- its number, and its bytes as entries
abbrev pub raw : CaseRecord → RawCase
raw c = record { number = c.number; entries = entries_in c.entries.now }

-- it does not end in part of an entry
abbrev pub Whole : CaseRecord → Type 0
Whole c = Threefold c.entries.now

-- accepted bytes are the writing of what was read, and refused ones are no case's writing
abbrev pub Written : List ℕ → Option CaseRecord → Type 0
Written bs r = MatchOption r ((c : RawCase) → Writing bs c → ⊥) (λ x. Writing bs (raw x))

-- what reading bytes answers: the case record that they are, whole, which inverts its writing
pub record ReadsTo (bs : List ℕ) (r : Result CaseRecord Malformed) : Type 0 where
  pub value : option_map raw (result_ok r) ≡ read_case bs
  pub whole : IfSome (result_ok r) Whole
  pub written : Written bs (result_ok r)
