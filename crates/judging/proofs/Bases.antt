-- A plan that is read is of the schema that its draft began with. Assumes nothing.
use Rattle.std.proofs.Common.{◌≡◌, ℕ, List, [], ◌∷◌, length, Some, None, Ok, Err, Option, Result, refl, sym, ap, ◌∙◌}
use Rattle.schema.specs.Checks.{SchemaParts}
use Rattle.plan_record.specs.declared.RawChange.{RawChange}
use Rattle.plan_record.specs.PlanRecords.{RawPlan, plan_in}
use Rattle.changes.specs.declared.Change.{Change}
use Rattle.draft_rules.specs.declared.ChangeRefusal.{ChangeRefusal}
use Rattle.draft_rules.specs.Plans.{PlanParts}
use Rattle.drafts.specs.Plans.{begun, judged_for, told, lengthened, added, by_answer, all_added, by_record, plan_read}

-- A change that is added leaves the base.
added_base : (p : PlanParts) (raw : RawChange) → (added p raw).base ≡ p.base
added_base p raw = go (judged_for p raw)
  where
    go : (v : Result Change ChangeRefusal) → (lengthened p v).base ≡ p.base
    go (Ok c) = refl
    go (Err r) = refl

all_added_base : (raws : List RawChange) (p q : PlanParts) → all_added p raws ≡ Ok q → q.base ≡ p.base
all_added_base [] p q e = let same : p ≡ q = cc in ap (λ (x : PlanParts). x.base) (sym same)
all_added_base (raw ∷ raws) p q e = go (judged_for p raw) (λ h. all_added_base raws (added p raw) q h ∙ added_base p raw) e
  where
    go : (v : Result Change ChangeRefusal) → (all_added (added p raw) raws ≡ Ok q → q.base ≡ p.base)
        → by_answer (told (length p.changes) raw.a v) (all_added (added p raw) raws) ≡ Ok q → q.base ≡ p.base
    go (Ok c) ih e = ih e
    go (Err r) ih e = absurd cc

-- What a draft that begins with a schema reads is a plan of it.
pub plan_read_base : (S : SchemaParts) (line : List ℕ) (q : PlanParts) → plan_read (begun S) line ≡ Ok q → q.base ≡ S
plan_read_base S line q = go (plan_in line)
  where
    go : (o : Option RawPlan) → by_record (begun S) o ≡ Ok q → q.base ≡ S
    go None e = absurd cc
    go (Some raw) e = all_added_base raw.changes (begun S) q e
