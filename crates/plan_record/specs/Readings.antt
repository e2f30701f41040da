-- What a plan record that was taken apart says.
use Rattle.std.specs.Prelude.{◌≡◌, ℕ, List, map, length, Option, Result, MatchOption, IfSome}
use Rattle.std.specs.List.{All}
use Rattle.std.specs.Option.{option_map}
use Rattle.std.specs.Result.{result_ok}
use Rattle.record.specs.declared.Malformed.{Malformed}
use Rattle.plan_record.specs.declared.PlanRecord.{PlanRecord}
use Rattle.plan_record.specs.PlanRecords.{RawPlan, Writing, read_plan}
use Rattle.plan_record.specs.Changes.{change_from}

-- its pieces as changes
abbrev pub raw : PlanRecord → RawPlan
raw p = record { changes = map change_from p.changes.now }

-- it does not end in part of a change: each has its four bytes
abbrev pub Whole : PlanRecord → Type 0
Whole p = All (λ piece. length piece ≡ 4) p.changes.now

-- accepted bytes are the writing of what was read, and refused ones are no plan's writing
abbrev pub Written : List ℕ → Option PlanRecord → Type 0
Written bs r = MatchOption r ((p : RawPlan) → Writing bs p → ⊥) (λ x. Writing bs (raw x))

-- what reading bytes answers: the plan record that they are, whole, which inverts its writing
pub record ReadsTo (bs : List ℕ) (r : Result PlanRecord Malformed) : Type 0 where
  pub value : option_map raw (result_ok r) ≡ read_plan bs
  pub whole : IfSome (result_ok r) Whole
  pub written : Written bs (result_ok r)
