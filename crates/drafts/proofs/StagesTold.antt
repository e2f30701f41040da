-- The schemas after each change, by place, and with one change more. Assumes nothing.
use Rattle.std.proofs.Common.{◌≡◌, ℕ, zero, suc, ◌-◌, ◌<◌, Bool, true, false, cond, leb, get_or, List, [], ◌∷◌, ◌++◌, length, take, Some, None, refl, ap, ◌∙◌, arith}
use Rattle.std.proofs.lemmas.Bool.{leb-true, leb-false}
use Rattle.std.proofs.lemmas.List.{take_all}
use Rattle.std.proofs.lemmas.Option.{slice_get_past, get_or_from_slice_get}
use Rattle.std.specs.List.{slice_get}
use Rattle.schema.specs.Checks.{SchemaParts}
use Rattle.changes.specs.declared.Change.{Change}
use Rattle.draft_rules.specs.Stages.{changed, changed_all, renewed}
use Rattle.drafts.specs.Plans.{stages_after}

-- the version plays no part in a change
pub all_renewed : (cs : List Change) (n : ℕ) (S : SchemaParts) → changed_all cs (renewed n S) ≡ renewed n (changed_all cs S)
all_renewed [] n S = refl
all_renewed (c ∷ cs) n S = all_renewed cs n (changed c S)

pub version_stays : (cs : List Change) (S : SchemaParts) → (changed_all cs S).version ≡ S.version
version_stays [] S = refl
version_stays (c ∷ cs) S = version_stays cs (changed c S)

pub all_and_one : (cs : List Change) (c : Change) (S : SchemaParts) → changed_all (cs ++ c ∷ []) S ≡ changed c (changed_all cs S)
all_and_one [] c S = refl
all_and_one (d ∷ cs) c S = all_and_one cs c (changed d S)

pub stages_and_one : (cs : List Change) (c : Change) (S : SchemaParts) → stages_after (cs ++ c ∷ []) S ≡ stages_after cs S ++ changed c (changed_all cs S) ∷ []
stages_and_one [] c S = refl
stages_and_one (d ∷ cs) c S = ap (λ Ss. changed d S ∷ Ss) (stages_and_one cs c (changed d S))

pub stages_long : (cs : List Change) (S : SchemaParts) → length (stages_after cs S) ≡ length cs
stages_long [] S = refl
stages_long (c ∷ cs) S = ap suc (stages_long cs (changed c S))

-- behind the schema itself stands the one after i changes at place i
pub stage_at : (cs : List Change) (S : SchemaParts) (i : ℕ) → i < length cs → slice_get (stages_after cs S) i ≡ Some (changed_all (take (suc i) cs) S)
stage_at [] S i h = absurd (omega arith)
stage_at (c ∷ cs) S zero h = refl
stage_at (c ∷ cs) S (suc i) h = stage_at cs (changed c S) i (omega arith)

pub stage_or_none : (cs : List Change) (S : SchemaParts) (i : ℕ)
    → slice_get (stages_after cs S) i ≡ cond (leb (suc i) (length cs)) (Some (changed_all (take (suc i) cs) S)) None
stage_or_none cs S i = go (leb (suc i) (length cs)) refl
  where
    go : (b : Bool) → leb (suc i) (length cs) ≡ b → slice_get (stages_after cs S) i ≡ cond b (Some (changed_all (take (suc i) cs) S)) None
    go true e = stage_at cs S i (let h = leb-true (suc i) (length cs) e in omega arith)
    go false e = slice_get_past (stages_after cs S) i (let h = leb-false (suc i) (length cs) e in omega (arith, stages_long cs S))

-- the last one is that after all changes
pub stage_last : (cs : List Change) (S : SchemaParts) (n : ℕ) → length cs ≡ suc n → slice_get (stages_after cs S) n ≡ Some (changed_all cs S)
stage_last cs S n e =
    stage_at cs S n (omega arith) ∙ ap (λ (ds : List Change). Some (changed_all ds S)) (take_all (suc n) cs (omega arith))

pub last_told : (cs : List Change) (S : SchemaParts) (n : ℕ) → n ≡ length cs - 1 → get_or (stages_after cs S) n S ≡ changed_all cs S
last_told [] S n e = refl
last_told (c ∷ cs) S n e = get_or_from_slice_get (stages_after (c ∷ cs) S) n _ S (stage_last (c ∷ cs) S n (omega arith))
