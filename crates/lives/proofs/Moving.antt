-- What a move does in a life. Assumes nothing.
use Rattle.std.proofs.Common.{◌≡◌, ℕ, Bool, true, false, ◌⊎◌, List, Some, None, Ok, Err, Option, Result, sym, refl, ap, ◌∙◌, subst, inl, inr}
use Rattle.std.proofs.lemmas.Bool.{true≢false}
use Rattle.model.specs.declared.Entry.{Entry}
use Rattle.model.specs.declared.Fact.{Fact}
use Rattle.model.specs.Signals.{fact_of, decided}
use Rattle.schema.specs.Checks.{SchemaParts, Admitted}
use Rattle.marking.specs.States.{state_in, finished_in}
use Rattle.runs.specs.Steps.{Runs}
use Rattle.agreement.specs.Laws.{no_facts}
use Rattle.agreement.proofs.FactsAfter.{after_entries}
use Rattle.draft_rules.specs.Plans.{PlanParts, plan_of, Released, released_of, same_schema}
use Rattle.draft_rules.proofs.ListsPassAgain.{all_pass_again}
use Rattle.draft_rules.proofs.Sames.{same_is, is_same}
use Rattle.conditions.specs.Conditions.{failing}
use Rattle.looking.proofs.Replays.{looks}
use Rattle.lives.specs.declared.CallRefusal.{CallRefusal}
use Rattle.lives.specs.declared.CallRefusal.TheVariants as call
use Rattle.lives.specs.Views.{CaseView}
use Rattle.lives.specs.Calls.{Outcome}
use Rattle.lives.specs.Moves.{move_refusal, moved, by_refusal, move_outcome}
use Rattle.lives.specs.Laws.{HistoryRuns, RunsOn, Unfinished, MovesAreReplays, Landed, MovesLand, MoveHasCause, MovesHaveCause}

abbrev Answer : Type 0
Answer = Result (Unit {0}) CallRefusal

-- a run has one end
pub one_run : {S : SchemaParts} {fs gs ms : List Fact} (es : List Entry) → Runs S fs es gs → Runs S fs es ms → gs ≡ ms
one_run {S} {fs} {gs} {ms} es r q = after_entries S fs gs es r ∙ sym (after_entries S fs ms es q)

-- The four ways that a move can go.
data Way (p : PlanParts) (v : CaseView) : Type 0 where
  finished : finished_in v.progress.schema.row v.progress.facts ≡ true → move_refusal p v.progress v.store.list ≡ Some call.Finished → Way p v
  other : Unfinished v → (p.base ≡ v.progress.schema → ⊥) → move_refusal p v.progress v.store.list ≡ Some call.OtherBase → Way p v
  fails : Unfinished v → p.base ≡ v.progress.schema → (q : ℕ × ℕ) → failing p.base v.progress.facts v.store.list 0 p.changes ≡ Some q
      → move_refusal p v.progress v.store.list ≡ Some (call.Change q.0 q.1) → Way p v
  goes : Unfinished v → p.base ≡ v.progress.schema → failing p.base v.progress.facts v.store.list 0 p.changes ≡ None
      → move_refusal p v.progress v.store.list ≡ None → Way p v

module _ (p : PlanParts) (v : CaseView) where
  abbrev first : Option (ℕ × ℕ)
  first = failing p.base v.progress.facts v.store.list 0 p.changes

  by_first : (o : Option (ℕ × ℕ)) → Unfinished v → same_schema p.base v.progress.schema ≡ true → first ≡ o → Way p v
  by_first None u s f = goes u (same_is p.base v.progress.schema s) f (rw (u, s, f) refl)
  by_first (Some q) u s f = fails u (same_is p.base v.progress.schema s) q f (rw (u, s, f) refl)

  by_base : (b : Bool) → Unfinished v → same_schema p.base v.progress.schema ≡ b → Way p v
  by_base true u s = by_first first u s refl
  by_base false u s = other u (λ e. true≢false (sym (is_same p.base v.progress.schema e) ∙ s)) (rw (u, s) refl)

  by_end : (f : Bool) → finished_in v.progress.schema.row v.progress.facts ≡ f → Way p v
  by_end true e = finished e (rw e refl)
  by_end false e = by_base (same_schema p.base v.progress.schema) e refl

  way : Way p v
  way = by_end (finished_in v.progress.schema.row v.progress.facts) refl

  refused_by : (r : CallRefusal) → move_refusal p v.progress v.store.list ≡ Some r → move_outcome p v ≡ record { answer = Err r; after = v }
  refused_by r e = ap (by_refusal p v) e

  goes_on : move_refusal p v.progress v.store.list ≡ None → move_outcome p v ≡ record { answer = Ok tt; after = moved p v }
  goes_on e = ap (by_refusal p v) e

answer_of : {o w : Outcome} → o ≡ w → o.answer ≡ w.answer
answer_of e = ap (λ (x : Outcome). x.answer) e

-- A refusal is no acceptance, and no other refusal.
module _ {P : Type 0} where
  not_ok : (a : Answer) (r : CallRefusal) → a ≡ Err r → a ≡ Ok tt → P
  not_ok a r e k = absurd cc

  finished_other : (a : Answer) → a ≡ Err call.Finished → a ≡ Err call.OtherBase → P
  finished_other a e k = absurd cc

  finished_change : (a : Answer) (n i : ℕ) → a ≡ Err call.Finished → a ≡ Err (call.Change n i) → P
  finished_change a n i e k = absurd cc

  other_change : (a : Answer) (n i : ℕ) → a ≡ Err call.OtherBase → a ≡ Err (call.Change n i) → P
  other_change a n i e k = absurd cc

  some_none : (o : Option (ℕ × ℕ)) (q : ℕ × ℕ) → o ≡ Some q → o ≡ None → P
  some_none o q e k = absurd cc

  both : (b : Bool) → b ≡ true → b ≡ false → P
  both b e k = absurd (true≢false (sym e ∙ k))

-- The changed schema is one that passed the checks.
pub released_checked : (p : PlanParts) → Released p → Admitted (released_of p)
released_checked p k =
    let a = all_pass_again p.base p.changes k.checked k.admitted in
    record { few = a.few; few_edges = a.few_edges; passed = a.passed }

module _ (H : List Entry) (v : CaseView) (runs : HistoryRuns H v) (list : v.store.list ≡ H) where
  abbrev S : SchemaParts
  S = v.progress.schema

  abbrev fs : List Fact
  fs = v.progress.facts

  module _ (p : PlanParts) (k : Released p) (base : p.base ≡ S) where
    ran : Runs p.base no_facts H fs
    ran = subst (λ T. Runs T no_facts H fs) (sym base) runs

    judged : failing p.base fs v.store.list 0 p.changes ≡ failing p.base fs H 0 p.changes
    judged = ap (λ es. failing p.base fs es 0 p.changes) list

    pub lands : failing p.base fs v.store.list 0 p.changes ≡ None → Runs (released_of p) no_facts H fs
    lands e = (looks p.base p.changes H fs k.checked k.admitted ran).1 (sym judged ∙ e)

    holds : RunsOn (released_of p) H → failing p.base fs v.store.list 0 p.changes ≡ None
    holds w = judged ∙ (looks p.base p.changes H fs k.checked k.admitted ran).0.1 w

  landed : (p : PlanParts) → Released p → p.base ≡ S → failing p.base fs v.store.list 0 p.changes ≡ None → Landed p H v (moved p v)
  landed p k base e =
      let r = lands p k base e in
      record {
        schema = refl;
        runs = r;
        states = λ gs q id. ap (λ hs. state_in (released_of p).row (released_of p).edges hs id) (one_run H r q);
        branches = λ gs q id. ap (λ hs. decided (fact_of hs id)) (one_run H r q);
        store = refl;
        number = refl;
        offered = refl;
      }

  pub moves_land : MovesLand H v
  moves_land p k = go (way p v)
    where
      go : Way p v
          → ((move_outcome p v).answer ≡ Ok tt → Landed p H v (move_outcome p v).after)
          × ((r : CallRefusal) → (move_outcome p v).answer ≡ Err r → (move_outcome p v).after ≡ v)
      go (finished f r) = let o = refused_by p v call.Finished r in ((λ a. not_ok _ _ (answer_of o) a), (λ q e. ap (λ (x : Outcome). x.after) o))
      go (other u n r) = let o = refused_by p v call.OtherBase r in ((λ a. not_ok _ _ (answer_of o) a), (λ q e. ap (λ (x : Outcome). x.after) o))
      go (fails u s q f r) =
          let o = refused_by p v (call.Change q.0 q.1) r in ((λ a. not_ok _ _ (answer_of o) a), (λ x e. ap (λ (x : Outcome). x.after) o))
      go (goes u s f r) =
          let o = goes_on p v r in
          ((λ a. subst (Landed p H v) (sym (ap (λ (x : Outcome). x.after) o)) (landed p k s f)), (λ q e. not_ok _ q e (answer_of o)))

  pub moves_have_cause : MovesHaveCause H v
  moves_have_cause p k = go (way p v)
    where
      go : Way p v → MoveHasCause H v p
      go (finished f r) =
          let a = answer_of (refused_by p v call.Finished r) in
          record {
            finished = ((λ e. f), (λ e. a));
            other_base = ((λ e. finished_other _ a e), (λ u. both _ f u.0));
            accepted = ((λ e. not_ok _ _ a e), (λ u. both _ f u.0));
            change = ((λ e. finished_change _ e.0 e.1 a e.2), (λ u. both _ f u.0));
          }
      go (other u n r) =
          let a = answer_of (refused_by p v call.OtherBase r) in
          record {
            finished = ((λ e. finished_other _ e a), (λ f. both _ f u));
            other_base = ((λ e. (u, n)), (λ w. a));
            accepted = ((λ e. not_ok _ _ a e), (λ w. absurd (n w.1)));
            change = ((λ e. other_change _ e.0 e.1 a e.2), (λ w. absurd (n w.1)));
          }
      go (fails u s q f r) =
          let a = answer_of (refused_by p v (call.Change q.0 q.1) r) in
          record {
            finished = ((λ e. finished_change _ q.0 q.1 e a), (λ e. both _ e u));
            other_base = ((λ e. other_change _ q.0 q.1 e a), (λ w. absurd (w.1 s)));
            accepted = ((λ e. not_ok _ _ a e), (λ w. some_none _ q f (holds p k s w.2)));
            change = ((λ e. (u, s, λ w. some_none _ q f (holds p k s w))), (λ w. (q.0, q.1, a)));
          }
      go (goes u s f r) =
          let a = answer_of (goes_on p v r) in
          record {
            finished = ((λ e. not_ok _ _ e a), (λ e. both _ e u));
            other_base = ((λ e. not_ok _ _ e a), (λ w. absurd (w.1 s)));
            accepted = ((λ e. (u, s, (fs, lands p k s f))), (λ w. a));
            change = ((λ e. not_ok _ _ e.2 a), (λ w. absurd (w.2 (fs, lands p k s f))));
          }

  pub moves_are_replays : Admitted S → MovesAreReplays H v
  moves_are_replays checked cs admitted u =
      let k : Released (plan_of S cs) = record { checked = checked; admitted = admitted } in
      let c = moves_have_cause (plan_of S cs) k in
      ((λ a. (c.accepted.0 a).2), (λ w. c.accepted.1 (u, refl, w)))

  -- After a move the case is as it was, or moved, and its history runs on.
  pub stays_or_lands : (p : PlanParts) → Released p → ((move_outcome p v).after ≡ v) ⊎ (((move_outcome p v).after ≡ moved p v) × Runs (released_of p) no_facts H fs)
  stays_or_lands p k = go (way p v)
    where
      stays : {r : CallRefusal} → move_refusal p v.progress v.store.list ≡ Some r → (move_outcome p v).after ≡ v
      stays {r} e = ap (λ (x : Outcome). x.after) (refused_by p v r e)

      go : Way p v → ((move_outcome p v).after ≡ v) ⊎ (((move_outcome p v).after ≡ moved p v) × Runs (released_of p) no_facts H fs)
      go (finished f r) = inl (stays r)
      go (other u n r) = inl (stays r)
      go (fails u s q f r) = inl (stays r)
      go (goes u s f r) = inr (ap (λ (x : Outcome). x.after) (goes_on p v r), lands p k s f)
