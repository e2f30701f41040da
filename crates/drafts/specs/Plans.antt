-- What a plan consists of, and how a change is added to one. Assumes nothing.
--   begun             the plan of no changes
--   stages_after      the schemas after each of the changes
--   add_answer        what adding four bytes answers
--   added             the plan after that
--   all_added         the plan with all of these added, or the first refusal
--   plan_read         the plan with all changes added that a line lists, or why it is refused
--   AddedAll          adding all of a list came to this plan, or to this refusal
use Rattle.std.specs.Prelude.{◌≡◌, ℕ, List, [], ◌∷◌, ◌++◌, length, take, cond, nat_le, Some, None, Ok, Err, Option, Result}
use Rattle.schema.specs.Checks.{SchemaParts}
use Rattle.plan_record.specs.declared.RawChange.{RawChange}
use Rattle.plan_record.specs.PlanRecords.{RawPlan, plan_in}
use Rattle.changes.specs.declared.Change.{Change}
use Rattle.draft_rules.specs.declared.ChangeRefusal.{ChangeRefusal}
use Rattle.draft_rules.specs.declared.PlanRefusal.{PlanRefusal}
use Rattle.draft_rules.specs.declared.PlanRefusal.TheVariants as plan
use Rattle.draft_rules.specs.Stages.{changed, changed_all, renewed}
use Rattle.draft_rules.specs.Rules.{change_judged}
use Rattle.draft_rules.specs.Plans.{PlanParts, plan_of}

-- No change yet.
abbrev pub begun : SchemaParts → PlanParts
begun S = plan_of S []

abbrev pub stages_after : List Change → SchemaParts → List SchemaParts
stages_after [] S = []
stages_after (c ∷ cs) S = changed c S ∷ stages_after cs (changed c S)

-- The schema after the first i changes, all under the version of the released schema.
abbrev pub stage_of : PlanParts → ℕ → Option SchemaParts
stage_of p i = cond (nat_le i (length p.changes)) (Some (renewed p.base.version (changed_all (take i p.changes) p.base))) None

-- How a change is judged that stands behind those of the plan.
abbrev pub judged_for : PlanParts → RawChange → Result Change ChangeRefusal
judged_for p raw = change_judged p.base.row p.changes (changed_all p.changes p.base) raw

-- A refusal tells the place that the change would have, and the byte where its id stands.
abbrev pub told : ℕ → ℕ → Result Change ChangeRefusal → Result (Unit {0}) PlanRefusal
told place id (Ok c) = Ok tt
told place id (Err r) = Err (plan.Change place id r)

abbrev pub add_answer : PlanParts → RawChange → Result (Unit {0}) PlanRefusal
add_answer p raw = told (length p.changes) raw.a (judged_for p raw)

-- A change that is refused leaves the plan as it was.
abbrev pub lengthened : PlanParts → Result Change ChangeRefusal → PlanParts
lengthened p (Ok c) = record { base = p.base; changes = p.changes ++ c ∷ [] }
lengthened p (Err r) = p

abbrev pub added : PlanParts → RawChange → PlanParts
added p raw = lengthened p (judged_for p raw)

abbrev pub by_answer : Result (Unit {0}) PlanRefusal → Result PlanParts PlanRefusal → Result PlanParts PlanRefusal
by_answer (Ok u) more = more
by_answer (Err r) more = Err r

-- One after the other, up to the first that is refused.
abbrev pub all_added : PlanParts → List RawChange → Result PlanParts PlanRefusal
all_added p [] = Ok p
all_added p (raw ∷ raws) = by_answer (add_answer p raw) (all_added (added p raw) raws)

abbrev pub by_record : PlanParts → Option RawPlan → Result PlanParts PlanRefusal
by_record p None = Err plan.Line
by_record p (Some raw) = all_added p raw.changes

abbrev pub plan_read : PlanParts → List ℕ → Result PlanParts PlanRefusal
plan_read p line = by_record p (plan_in line)

abbrev pub AddedAll : Result PlanParts PlanRefusal → PlanParts → Result (Unit {0}) PlanRefusal → Type 0
AddedAll v p (Ok u) = v ≡ Ok p
AddedAll v p (Err r) = v ≡ Err r
