-- Why a course may not go on on the schema of a plan, test by test. Assumes nothing.
use Rattle.std.proofs.Common.{◌≡◌, Bool, true, false, cond, List, Some, Option, Decides, sym, ap, ◌∙◌}
use Rattle.std.proofs.lemmas.Bool.{true≢false}
use Rattle.model.specs.declared.Entry.{Entry}
use Rattle.schema.specs.Checks.{SchemaParts}
use Rattle.marking.specs.States.{finished_in}
use Rattle.draft_rules.specs.Plans.{PlanParts, same_schema}
use Rattle.draft_rules.proofs.Sames.{same_is, is_same}
use Rattle.conditions.specs.Conditions.{failing}
use Rattle.lives.specs.declared.CallRefusal.{CallRefusal}
use Rattle.lives.specs.declared.CallRefusal.TheVariants as call
use Rattle.lives.specs.Views.{Progress}
use Rattle.lives.specs.Moves.{by_failing, move_refusal}

same_told : (S T : SchemaParts) (r : Bool) → Decides r (S ≡ T) → same_schema S T ≡ r
same_told S T true d = is_same S T (d.0 refl)
  where
    refl : true ≡ true
    refl = cc
same_told S T false d = go (same_schema S T) (same_is S T)
  where
    go : (b : Bool) → (b ≡ true → S ≡ T) → b ≡ false
    go true h = absurd (true≢false (sym (d.1 (h cc))))
    go false h = cc

module _ (p : PlanParts) (on : Progress) (es : List Entry) where
  abbrev pub by_tests : Bool → Bool → Option CallRefusal
  by_tests f b = cond f (Some call.Finished) (cond b (by_failing (failing p.base on.facts es 0 p.changes)) (Some call.OtherBase))

  pub by_base : (f r : Bool) → f ≡ finished_in on.schema.row on.facts → f ≡ false → Decides r (p.base ≡ on.schema)
      → move_refusal p on es ≡ by_tests false r
  by_base f r is e d = ap (λ g. by_tests g (same_schema p.base on.schema)) (sym is ∙ e) ∙ ap (by_tests false) (same_told p.base on.schema r d)
