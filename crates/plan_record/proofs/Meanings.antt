-- What an exact result says in terms of the writing.
use Rattle.std.proofs.Common.{◌≡◌, ℕ, ◌<◌, List, get_or, Some, None}
use Rattle.record.proofs.Formats.{none_written, some_written}
use Rattle.plan_record.specs.PlanRecords.{RawPlan, Writable, Writing, plan_bytes, read_plan}
use Rattle.plan_record.proofs.Writings.{read_from_written, written_from_read}

pub writes_none : (bs : List ℕ) → None ≡ read_plan bs → (p : RawPlan) → Writing bs p → ⊥
writes_none = none_written read_plan plan_bytes Writable read_from_written written_from_read

pub writes_some : (bs : List ℕ) (p : RawPlan) → ((i : ℕ) → get_or bs i 0 < 256) → Some p ≡ read_plan bs → Writing bs p
writes_some = some_written read_plan plan_bytes Writable read_from_written written_from_read
