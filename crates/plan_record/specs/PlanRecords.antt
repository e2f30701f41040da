-- A plan record: what it says, its writing and its reading.
use Rattle.std.specs.Prelude.{◌≡◌, ℕ, ◌*◌, ◌<◌, cond, ◌&&◌, List, [], ◌∷◌, length, Some, None, Option, ◌==◌}
use Rattle.std.specs.List.{AllByRecursion}
use Rattle.record.specs.Hex.{Byte, hex, decoded}
use Rattle.plan_record.specs.declared.RawChange.{RawChange}
use Rattle.plan_record.specs.Changes.{changes_in, change_bytes}

-- what a plan record says: its changes, in their order
pub record RawPlan : Type 0 where
  pub changes : List RawChange

-- its writing: type, count of changes, changes
abbrev pub plan_bytes : RawPlan → List ℕ
plan_bytes p = 2 ∷ length p.changes ∷ change_bytes p.changes

-- its writing as a line
abbrev pub plan_line : RawPlan → List ℕ
plan_line p = hex (plan_bytes p)

-- all of a change are bytes
abbrev pub ByteChange : RawChange → Type 0
ByteChange x = Byte x.kind × Byte x.a × Byte x.b × Byte x.c

-- what its fields have room for
pub record Writable (p : RawPlan) : Type 0 where
  pub few : length p.changes < 256
  pub changes : AllByRecursion ByteChange p.changes

-- the bytes are the writing of what they say
abbrev pub Writing : List ℕ → RawPlan → Type 0
Writing bs p = Writable p × (bs ≡ plan_bytes p)

-- the plan in a record's bytes; none if they are of another type or not just as many as the count says
abbrev pub read_plan : List ℕ → Option RawPlan
read_plan [] = None
read_plan (t ∷ []) = None
read_plan (t ∷ n ∷ rest) =
    cond (t == 2 && length rest == 4 * n)
    (Some (record { changes = changes_in rest }))
    None

-- the plan in a record that may have been refused
abbrev pub read_decoded : Option (List ℕ) → Option RawPlan
read_decoded None = None
read_decoded (Some bs) = read_plan bs

-- the whole reading of a line's characters
abbrev pub plan_in : List ℕ → Option RawPlan
plan_in line = read_decoded (decoded line)
