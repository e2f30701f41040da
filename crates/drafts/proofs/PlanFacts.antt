-- What the fields of a plan tell of it. Assumes nothing.
use Rattle.std.proofs.Common.{◌≡◌, ℕ, zero, suc, ◌-◌, Bor, true, cond, leb, List, [], ◌∷◌, ◌++◌, map, length, take, Some, None, Option, refl, sym, ap, ◌∙◌, subst, arith}
use Rattle.std.proofs.lemmas.List.{length-map, map_push}
use Rattle.std.proofs.lemmas.Option.{slice_get-map, unwrap_or-slice_get}
use Rattle.std.specs.List.{slice_get}
use Rattle.std.specs.Option.{option_map, option_copied, unwrap_or}
use Rattle.schema.specs.declared.schema.Schema.{Schema}
use Rattle.schema.specs.Checks.{SchemaParts, Admitted}
use Rattle.schema.specs.Schemas.{parts}
use Rattle.schema.proofs.Checked.{schema_checked}
use Rattle.changes.specs.declared.Change.{Change}
use Rattle.draft_rules.specs.Stages.{changed, changed_all, renewed, released}
use Rattle.draft_rules.specs.Rules.{refusal, all_admitted}
use Rattle.draft_rules.proofs.ListsPassAgain.{all_pass_again}
use Rattle.drafts.specs.declared.plan.Plan.{Plan}
use Rattle.drafts.specs.Plans.{stages_after, stage_of}
use Rattle.drafts.specs.Views.{base_of, planned}
use Rattle.drafts.proofs.StagesTold.{all_renewed, all_and_one, stages_and_one, stages_long, stage_or_none, last_told}
use Rattle.drafts.proofs.Judged.{refusal_renewed, admitted_and_one, admitted_renewed}

module _ (p : Plan) where
  abbrev S : SchemaParts
  S = parts p.first

  first_renewed : S ≡ renewed p.base_version (base_of p)
  first_renewed = ap (λ (n : ℕ). record { version = n; row = p.first.row; edges = p.first.edges }) p.renewed

  -- the schema that a plan was made of passed the checks
  pub base_passed : Admitted (base_of p)
  base_passed = let a = schema_checked p.first in record { few = a.few; few_edges = a.few_edges; passed = a.passed }

  -- and the changes are admitted for it
  pub base_admits : all_admitted (base_of p).row [] (base_of p) p.changes ≡ true
  base_admits =
      sym (admitted_renewed p.first.row [] p.base_version (base_of p) p.changes)
      ∙ ap (λ T. all_admitted p.first.row [] T p.changes) (sym first_renewed)
      ∙ p.admitted

  -- a stage of the base, under the released version
  pub changed_first : (cs : List Change) → changed_all cs S ≡ renewed p.base_version (changed_all cs (base_of p))
  changed_first cs = ap (changed_all cs) first_renewed ∙ all_renewed cs p.base_version (base_of p)

  stage_seen : (o : Option (Bor Schema)) (n : ℕ) → option_copied o ≡ slice_get p.later.items n
      → option_map parts (option_copied o) ≡ slice_get (stages_after p.changes S) n
  stage_seen o n e = ap (option_map parts) e ∙ sym (slice_get-map parts p.later.items n) ∙ ap (λ Ts. slice_get Ts n) p.staged

  pub later_stage : (i : ℕ) (o : Option (Bor Schema)) → (i ≡ 0 → ⊥) → option_copied o ≡ slice_get p.later.items (i - 1)
      → option_map parts (option_copied o) ≡ stage_of (planned p) i
  later_stage zero o n e = absurd (n refl)
  later_stage (suc i) o n e =
      let less : suc i - 1 ≡ i = omega arith in
      stage_seen o (suc i - 1) e
      ∙ ap (slice_get (stages_after p.changes S)) less
      ∙ stage_or_none p.changes S i
      ∙ ap (λ (T : SchemaParts). cond (leb (suc i) (length p.changes)) (Some T) None) (changed_first (take (suc i) p.changes))

  pub one_stage_a_change : length p.later.items ≡ length p.changes
  one_stage_a_change = sym (length-map p.later.items parts) ∙ ap length p.staged ∙ stages_long p.changes S

  pub last_stage : (o : Option (Bor Schema)) → option_copied o ≡ slice_get p.later.items (length p.later.items - 1)
      → unwrap_or (option_map parts (option_copied o)) S ≡ released p.changes (base_of p)
  last_stage o e =
      let n = length p.later.items - 1 in
      ap (λ v. unwrap_or v S) (stage_seen o n e)
      ∙ unwrap_or-slice_get (stages_after p.changes S) n S
      ∙ last_told p.changes S n (ap (λ k. k - 1) one_stage_a_change)
      ∙ changed_first p.changes

  -- one change more that has no cause against it
  module _ (c : Change) (e : refusal p.first.row p.changes (changed_all p.changes (base_of p)) c ≡ None) where
    unrefused : refusal p.first.row p.changes (changed_all p.changes S) c ≡ None
    unrefused =
        ap (λ T. refusal p.first.row p.changes T c) (changed_first p.changes)
        ∙ refusal_renewed p.first.row p.changes p.base_version (changed_all p.changes (base_of p)) c
        ∙ e

    pub more_admitted : all_admitted p.first.row [] S (p.changes ++ c ∷ []) ≡ true
    more_admitted = admitted_and_one p.first.row [] S p.changes c p.admitted unrefused

    pub more_passes : (T : SchemaParts) → T ≡ released p.changes (base_of p) → Admitted (changed c T)
    more_passes T is =
        subst (λ U. Admitted (changed c U)) (changed_first p.changes ∙ sym is)
        (subst Admitted (all_and_one p.changes c S) (all_pass_again S (p.changes ++ c ∷ []) (schema_checked p.first) more_admitted))

    pub more_staged : (T : Schema) (U : SchemaParts) → U ≡ released p.changes (base_of p) → parts T ≡ changed c U
        → map parts (p.later.items ++ T ∷ []) ≡ stages_after (p.changes ++ c ∷ []) S
    more_staged T U is made =
        map_push parts p.later.items T
        ∙ ap (λ Ts. Ts ++ parts T ∷ []) p.staged
        ∙ ap (λ V. stages_after p.changes S ++ V ∷ []) (made ∙ ap (changed c) (is ∙ sym (changed_first p.changes)))
        ∙ sym (stages_and_one p.changes c S)
