-- The first change of a plan that fails, found change by change. Assumes nothing.
use Rattle.std.proofs.Common.{◌≡◌, ℕ, ◌+◌, ◌<◌, ◌≤◌, List, [], ◌∷◌, ◌++◌, length, take, drop, cond, Some, None, Option, Bor, get_or, refl, sym, ap, ◌∙◌, arith}
use Rattle.std.proofs.lemmas.Bool.{le-leb}
use Rattle.std.specs.Option.{option_map, option_copied}
use Rattle.std.proofs.lemmas.List.{take_more, drop_more, drop_all}
use Rattle.model.specs.declared.Entry.{Entry}
use Rattle.model.specs.declared.Fact.{Fact}
use Rattle.schema.specs.Checks.{SchemaParts}
use Rattle.schema.specs.declared.schema.Schema.{Schema}
use Rattle.schema.specs.Schemas.{parts}
use Rattle.changes.specs.declared.Change.{Change}
use Rattle.changes.specs.declared.Change.TheVariants.{DropEdge, Delete, Insert, InsertBeside, AddEdge}
use Rattle.draft_rules.specs.Stages.{changed_all, renewed}
use Rattle.draft_rules.specs.Plans.{PlanParts}
use Rattle.drafts.specs.Plans.{stage_of}
use Rattle.drafts.proofs.StagesTold.{all_and_one}
use Rattle.conditions.specs.Conditions.{hindrance, or_next, failing}

module _ (S : SchemaParts) (fs : List Fact) (es : List Entry) (cs : List Change) where
  -- The first from the change at place i on.
  unfoldable pub failing_from : ℕ → Option (ℕ × ℕ)
  failing_from i = failing (changed_all (take i cs) S) fs es i (drop i cs)

  pub from_first : failing S fs es 0 cs ≡ failing_from 0
  unfolding failing_from
  from_first = refl

  one_of : (i : ℕ) (c : Change) → i < length cs → c ≡ get_or cs i c
      → failing_from i ≡ or_next i (hindrance (changed_all (take i cs) S) fs es c) (failing_from (i + 1))
  unfolding failing_from
  one_of i c h at =
      ap (failing (changed_all (take i cs) S) fs es i) (drop_more cs i c h ∙ ap (λ d. d ∷ drop (i + 1) cs) (sym at))
      ∙ ap (λ T. or_next i (hindrance (changed_all (take i cs) S) fs es c) (failing T fs es (i + 1) (drop (i + 1) cs)))
      (sym (ap (λ ds. changed_all ds S) (take_more cs i c h ∙ ap (λ d. take i cs ++ d ∷ []) (sym at)) ∙ all_and_one (take i cs) c S))

  pub fails_here : (i : ℕ) (c : Change) (id : ℕ) → i < length cs → c ≡ get_or cs i c
      → hindrance (changed_all (take i cs) S) fs es c ≡ Some id → failing_from i ≡ Some (i, id)
  fails_here i c id h at fails = one_of i c h at ∙ ap (λ o. or_next i o (failing_from (i + 1))) fails

  pub passes_here : (i : ℕ) (c : Change) → i < length cs → c ≡ get_or cs i c
      → hindrance (changed_all (take i cs) S) fs es c ≡ None → failing_from i ≡ failing_from (i + 1)
  passes_here i c h at passes = one_of i c h at ∙ ap (λ o. or_next i o (failing_from (i + 1))) passes

  pub none_left : (i : ℕ) → length cs ≤ i → failing_from i ≡ None
  unfolding failing_from
  none_left i h = ap (failing (changed_all (take i cs) S) fs es i) (drop_all i cs h)

-- The version plays no part in what hinders.
hindrance_renewed : (n : ℕ) (S : SchemaParts) (fs : List Fact) (es : List Entry) (c : Change) → hindrance (renewed n S) fs es c ≡ hindrance S fs es c
hindrance_renewed n S fs es (DropEdge e) = refl
hindrance_renewed n S fs es (Delete a) = refl
hindrance_renewed n S fs es (Insert a g) = refl
hindrance_renewed n S fs es (InsertBeside a b c) = refl
hindrance_renewed n S fs es (AddEdge e) = refl

-- A stage that a plan keeps is judged as the schema that the changes before it left.
pub judged_alike : (p : PlanParts) (i : ℕ) (o : Option (Bor Schema)) (s : Bor Schema) (fs : List Fact) (es : List Entry) (c : Change)
    → option_map parts (option_copied o) ≡ stage_of p i → o ≡ Some s → i < length p.changes
    → hindrance (parts s.now) fs es c ≡ hindrance (changed_all (take i p.changes) p.base) fs es c
judged_alike p i o s fs es c told is less =
    let stage : Some (parts s.now) ≡ Some (renewed p.base.version (changed_all (take i p.changes) p.base)) =
    sym (ap (λ (q : Option (Bor Schema)). option_map parts (option_copied q)) is) ∙ told
    ∙ ap (λ b. cond b (Some (renewed p.base.version (changed_all (take i p.changes) p.base))) None) (le-leb i (length p.changes) (omega arith)) in
    let same : parts s.now ≡ renewed p.base.version (changed_all (take i p.changes) p.base) = cc in
    ap (λ T. hindrance T fs es c) same ∙ hindrance_renewed p.base.version (changed_all (take i p.changes) p.base) fs es c
