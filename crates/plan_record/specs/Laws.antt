-- Reading and writing are inverse.
use Rattle.std.specs.Prelude.{◌≡◌, ℕ, ◌≤◌, List, length, Some}
use Rattle.plan_record.specs.PlanRecords.{RawPlan, Writable, plan_in, plan_line}

-- the plan can be written, and the line is its writing and no longer than a line may be
abbrev pub LineOf : List ℕ → RawPlan → Type 0
LineOf line p = Writable p × (line ≡ plan_line p) × (length line ≤ 1024)

-- a plan is read from a line exactly if the line is its own
abbrev pub ReadingInvertsWriting : Type 0
ReadingInvertsWriting =
    (line : List ℕ) (p : RawPlan)
    → (plan_in line ≡ Some p → LineOf line p)
    × (LineOf line p → plan_in line ≡ Some p)
