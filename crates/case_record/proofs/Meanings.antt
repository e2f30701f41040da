-- What an exact result says in terms of the writing.
use Rattle.std.proofs.Common.{◌≡◌, ℕ, ◌<◌, List, get_or, Some, None, Err}
use Rattle.record.specs.declared.Malformed.{Malformed}
use Rattle.record.proofs.Formats.{none_written, some_written}
use Rattle.case_record.specs.CaseRecords.{RawCase, Writable, Writing, case_bytes, read_case}
use Rattle.case_record.specs.Readings.{ReadsTo}
use Rattle.case_record.proofs.Writings.{read_from_written, written_from_read}

pub writes_none : (bs : List ℕ) → None ≡ read_case bs → (c : RawCase) → Writing bs c → ⊥
writes_none = none_written read_case case_bytes Writable read_from_written written_from_read

pub writes_some : (bs : List ℕ) (c : RawCase) → ((i : ℕ) → get_or bs i 0 < 256) → Some c ≡ read_case bs → Writing bs c
writes_some = some_written read_case case_bytes Writable read_from_written written_from_read

pub reads_to_none : (bs : List ℕ) → None ≡ read_case bs → (e : Malformed) → ReadsTo bs (Err e)
reads_to_none bs none e = record { value = none; whole = tt; written = writes_none bs none }
