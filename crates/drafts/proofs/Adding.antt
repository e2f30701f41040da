-- A change is added or refused as the rules say. Assumes nothing.
use Rattle.std.proofs.Common.{◌≡◌, length, Ok, Err, Result, sym, refl, ap, ◌∙◌, subst}
use Rattle.plan_record.specs.declared.RawChange.{RawChange}
use Rattle.changes.specs.declared.Change.{Change}
use Rattle.draft_rules.specs.declared.ChangeRefusal.{ChangeRefusal}
use Rattle.draft_rules.specs.declared.PlanRefusal.{PlanRefusal}
use Rattle.draft_rules.proofs.ListsPassAgain.{all_pass_again}
use Rattle.draft_rules.proofs.OneAnswer.{judged_rightly}
use Rattle.drafts.specs.declared.plan.Plan.{Plan}
use Rattle.draft_rules.specs.Plans.{PlanParts}
use Rattle.drafts.specs.Plans.{judged_for, told, lengthened, add_answer, added}
use Rattle.drafts.specs.Rightly.{RightFor, AddedRightly, OnlyRight}
use Rattle.drafts.specs.Views.{base_of, planned}
use Rattle.drafts.proofs.PlanFacts.{base_passed, base_admits}

module _ (p : Plan) (raw : RawChange) (a : Result (Unit {0}) PlanRefusal) (answer : a ≡ add_answer (planned p) raw) where
  right : (r : Result Change ChangeRefusal) → (r ≡ judged_for (planned p) raw → RightFor (planned p) raw r) × (RightFor (planned p) raw r → r ≡ judged_for (planned p) raw)
  right r = judged_rightly all_pass_again (base_of p) p.changes raw (base_passed p) (base_admits p) r

  pub added_rightly : (q : PlanParts) → q ≡ added (planned p) raw → AddedRightly (planned p) raw q a
  added_rightly q after = go (judged_for (planned p) raw) refl answer after
    where
      go : (v : Result Change ChangeRefusal) → v ≡ judged_for (planned p) raw → a ≡ told (length p.changes) raw.a v → q ≡ lengthened (planned p) v
          → AddedRightly (planned p) raw q a
      go (Ok c) e told after = subst (AddedRightly (planned p) raw q) (sym told) (c, (right (Ok c)).0 e, after)
      go (Err r) e told after = subst (AddedRightly (planned p) raw q) (sym told) ((right (Err r)).0 e, refl, refl, after)

  pub only_right : OnlyRight (planned p) raw a
  only_right r h = ap (told (length p.changes) raw.a) ((right r).1 h) ∙ sym answer
