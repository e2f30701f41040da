-- What a call leaves is a life of the case, by the view that it is. Assumes nothing.
use Rattle.std.proofs.Common.{◌≡◌, ℕ, List, sym, subst}
use Rattle.model.specs.declared.Entry.{Entry}
use Rattle.schema.specs.Checks.{Admitted}
use Rattle.lives.specs.Views.{CaseView}
use Rattle.lives.specs.Calls.{opened, step_outcome, again_outcome, load_outcome}
use Rattle.lives.specs.Lives.{Life, Leaves, opens, loads, steps, repeats, moves, opened_history, loaded_history, stepped_history, repeated_history, moved_history}
use Rattle.lives.specs.Moves.{move_outcome}
use Rattle.draft_rules.specs.Plans.{PlanParts, Released}
use Rattle.drafts.specs.declared.plan.Plan.{Plan}
use Rattle.drafts.specs.Views.{planned}
use Rattle.drafts.proofs.PlanFacts.{base_passed, base_admits}

module _ {cost : ℕ} {w : CaseView} where
  pub life_opened : (v : CaseView) (n : ℕ) → Admitted v.progress.schema → w ≡ opened n v → Life cost opened_history w
  life_opened v n checked after = subst (Life cost opened_history) (sym after) (opens v n checked)

  pub life_loaded : (v : CaseView) (line : List ℕ) → Admitted v.progress.schema → w ≡ (load_outcome line v).after → Life cost (loaded_history line v) w
  life_loaded v line checked after = subst (Life cost (loaded_history line v)) (sym after) (loads v line checked)

  pub life_stepped : {H : List Entry} (v : CaseView) (e : Entry) → Life cost H v → w ≡ (step_outcome e v).after → Life cost (stepped_history e v H) w
  life_stepped {H} v e l after = subst (Life cost (stepped_history e v H)) (sym after) (steps e l)

  pub life_repeated : {H : List Entry} (v : CaseView) (i free : ℕ) → Leaves cost i free v.progress.schema v.store → Life cost H v → w ≡ (again_outcome cost i free v).after
      → Life cost (repeated_history cost i free v H) w
  life_repeated {H} v i free bounds l after = subst (Life cost (repeated_history cost i free v H)) (sym after) (repeats i free (λ _. bounds) l)

  pub life_moved : {H : List Entry} (v : CaseView) (p : PlanParts) → Released p → Life cost H v → w ≡ (move_outcome p v).after → Life cost (moved_history v H) w
  life_moved {H} v p r l after = subst (Life cost (moved_history v H)) (sym after) (moves p r l)

-- A plan is one that a draft released.
pub released_plan : (p : Plan) → Released (planned p)
released_plan p = record { checked = base_passed p; admitted = base_admits p }
