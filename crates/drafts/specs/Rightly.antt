-- What adding a change does, in the words of the rules. Assumes nothing.
--   RightFor p raw r           r is the right answer to four bytes behind the changes of p
--   AddedRightly p raw q a     adding them to p left q and was answered a
--   OnlyRight p raw a          no other answer is right
use Rattle.std.specs.Prelude.{◌≡◌, [], ◌∷◌, ◌++◌, length, Ok, Err, Result}
use Rattle.plan_record.specs.declared.RawChange.{RawChange}
use Rattle.changes.specs.declared.Change.{Change}
use Rattle.draft_rules.specs.declared.ChangeRefusal.{ChangeRefusal}
use Rattle.draft_rules.specs.declared.PlanRefusal.{PlanRefusal}
use Rattle.draft_rules.specs.declared.PlanRefusal.TheVariants as plan
use Rattle.draft_rules.specs.Stages.{changed_all}
use Rattle.draft_rules.specs.Causes.{ChangeRightly}
use Rattle.draft_rules.specs.Plans.{PlanParts}
use Rattle.drafts.specs.Plans.{told}

abbrev pub RightFor : PlanParts → RawChange → Result Change ChangeRefusal → Type 0
RightFor p raw r = ChangeRightly p.base.row p.changes (changed_all p.changes p.base) raw r

-- The change that the bytes spell stands last now; or the plan stays as it was, and the cause of the refusal is told with
-- the change's place and its byte a.
abbrev pub AddedRightly : PlanParts → RawChange → PlanParts → Result (Unit {0}) PlanRefusal → Type 0
AddedRightly p raw q (Ok u) = (c : Change) × RightFor p raw (Ok c) × (q ≡ record { base = p.base; changes = p.changes ++ c ∷ [] })
AddedRightly p raw q (Err plan.Line) = ⊥
AddedRightly p raw q (Err (plan.Change place id r)) = RightFor p raw (Err r) × (place ≡ length p.changes) × (id ≡ raw.a) × (q ≡ p)

abbrev pub OnlyRight : PlanParts → RawChange → Result (Unit {0}) PlanRefusal → Type 0
OnlyRight p raw a = (r : Result Change ChangeRefusal) → RightFor p raw r → told (length p.changes) raw.a r ≡ a
