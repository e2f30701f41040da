-- What every life keeps. Assumes nothing.
use Rattle.std.proofs.Common.{◌≡◌, ℕ, ◌<◌, ◌≤◌, Bool, true, false, cond, ltb, List, [], ◌∷◌, ◌++◌, set, Some, None, Ok, Err, Option, Result, sym, refl, ap, ◌∙◌, subst, inl, inr, arith}
use Rattle.std.proofs.lemmas.Bool.{ltb-false, le-ltb}
use Rattle.model.specs.declared.Entry.{Entry}
use Rattle.model.specs.declared.Entry.TheVariants.{Leave}
use Rattle.model.specs.declared.Fact.{Fact}
use Rattle.model.specs.declared.refusal.StepRefusal.{StepRefusal}
use Rattle.lives.specs.declared.CallRefusal.{CallRefusal}
use Rattle.schema.specs.Checks.{SchemaParts, Admitted}
use Rattle.case_record.specs.CaseRecords.{RawCase, case_in}
use Rattle.case_record.proofs.Writings.{reading_inverts_writing}
use Rattle.runs.specs.Steps.{Allowed, Runs, ends, steps, step_in}
use Rattle.runs.proofs.Allows.{allowed_step, step_allowed}
use Rattle.runs.proofs.RunTold.{runs_last}
use Rattle.agreement.specs.Laws.{no_facts}
use Rattle.history.specs.Stores.{refusal, cleared}
use Rattle.rounds.specs.Rounds.{in_round, outside}
use Rattle.rounds.proofs.DroppedRounds.{finished_dropped}
use Rattle.lives.specs.Offers.{offers}
use Rattle.lives.specs.Views.{CaseView}
use Rattle.lives.specs.Calls.{Held, held, opened, entered, by_held, step_outcome, by_purge, by_test, again_outcome, entries_taken, by_entries, by_record, load_outcome}
use Rattle.lives.specs.Lives.{Life, opens, loads, repeats, if_accepted, entries_read, record_entries, line_entries, loaded_history, stepped_history, repeated_history}
use Rattle.lives.specs.Lives as life
use Rattle.lives.specs.Laws.{HistoryRuns, StepsHaveCause, AgainsHaveCause, Loadable, LoadsHaveCause, LivesKeepTheirPromises}
use Rattle.draft_rules.specs.Plans.{PlanParts, Released}
use Rattle.lives.specs.Moves.{move_outcome}
use Rattle.lives.proofs.Moving.{one_run, released_checked, stays_or_lands, moves_are_replays, moves_land, moves_have_cause}
use Rattle.lives.proofs.Entering.{was_entered, can_enter, were_taken, can_take}

-- a run parts before its last entry
runs_parted : {S : SchemaParts} {gs : List Fact} (es : List Entry) (e : Entry) (fs : List Fact) → Runs S fs (es ++ e ∷ []) gs → (ms : List Fact) × Runs S fs es ms × Allowed S ms e
runs_parted [] e fs (steps a r) = (fs, ends, a)
runs_parted (x ∷ es) e fs (steps a r) = let p = runs_parted es e _ r in (p.0, steps a p.1, p.2)

pub record Kept (H : List Entry) (v : CaseView) : Type 0 where
  pub checked : Admitted v.progress.schema
  pub runs : HistoryRuns H v
  pub list : v.store.list ≡ H
  pub offered : v.offered ≡ offers v.progress.schema v.progress.facts

abbrev opening : (n : ℕ) (v : CaseView) → Admitted v.progress.schema → Kept [] (opened n v)
opening n v k = record { checked = k; runs = ends; list = refl; offered = refl }

-- a load
by_taken : (v : CaseView) (c : RawCase) (o : Result Held CallRefusal) → Admitted v.progress.schema
    → entries_taken v.progress.schema 0 c.entries (held no_facts (cleared v.store)) ≡ o
    → Kept (if_accepted (by_entries c.number v o).answer (entries_read c.entries) []) (by_entries c.number v o).after
by_taken v c (Err r) k q = opening c.number v k
by_taken v c (Ok h) k q =
    let t = were_taken v.progress.schema c.entries 0 (held no_facts (cleared v.store)) h q in
    record { checked = k; runs = t.runs; list = t.list; offered = refl }

by_line : (v : CaseView) (o : Option RawCase) → Admitted v.progress.schema
    → Kept (if_accepted (by_record v o).answer (record_entries o) []) (by_record v o).after
by_line v None k = opening 0 v k
by_line v (Some c) k = by_taken v c (entries_taken v.progress.schema 0 c.entries (held no_facts (cleared v.store))) k refl

-- a step
by_entered : (H : List Entry) (v : CaseView) (e : Entry) (o : Result Held CallRefusal) → Kept H v
    → entered v.progress.schema None e (held v.progress.facts v.store) ≡ o
    → Kept (if_accepted (by_held v o).answer (H ++ e ∷ []) H) (by_held v o).after
by_entered H v e (Err r) k q = k
by_entered H v e (Ok h) k q =
    let S = v.progress.schema in
    let w = was_entered S None e (held v.progress.facts v.store) h q in
    record {
      checked = k.checked;
      runs = subst (Runs S no_facts (H ++ e ∷ [])) (sym w.facts) (runs_last S e k.runs w.allowed);
      list = w.list ∙ ap (λ l. l ++ e ∷ []) k.list;
      offered = refl;
    }

-- a move
by_move : (H : List Entry) (v : CaseView) (p : PlanParts) → Released p → Kept H v → Kept H (move_outcome p v).after
by_move H v p released k =
    elim (stays_or_lands H v k.runs k.list p released) [
      | inl e ↦ subst (Kept H) (sym e) k
      | inr e ↦ subst (Kept H) (sym e.0) (record { checked = released_checked p released; runs = e.1; list = k.list; offered = refl })
    ]

module _ (cost : ℕ) where
  -- one more round
  module _ (H : List Entry) (v : CaseView) (i free : ℕ) (k : Kept H v) where
    abbrev body : ℕ → Bool
    body = in_round v.progress.schema.row i

    abbrev has : Held
    has = held v.progress.facts v.store

    abbrev Left : Result Held CallRefusal → Type 0
    Left o = Kept (if_accepted (by_held v o).answer (outside body H) H) (by_held v o).after

    by_places : (b : Bool) → Allowed v.progress.schema v.progress.facts (Leave i) → Left (by_purge v.progress.schema i free has (cond b refusal (Ok tt)))
    by_places true a = k
    by_places false a = record {
      checked = k.checked;
      runs = finished_dropped v.progress.schema v.progress.facts H i k.checked k.runs a;
      list = ap (outside body) k.list;
      offered = refl;
    }

    by_left : (o : Result (List Fact) StepRefusal) → step_in v.progress.schema v.progress.facts (Leave i) ≡ o → Left (by_test cost v.progress.schema i free has o)
    by_left (Ok gs) q = by_places (ltb v.store.free cost) (step_allowed v.progress.schema v.progress.facts (Leave i) gs q).0
    by_left (Err r) q = k

  pub kept : {H : List Entry} {v : CaseView} → Life cost H v → Kept H v
  kept (opens v n k) = opening n v k
  kept (loads v line k) = by_line v (case_in line) k
  kept (life.steps {H} {v} e l) = by_entered H v e (entered v.progress.schema None e (held v.progress.facts v.store)) (kept l) refl
  kept (repeats {H} {v} i free b l) = by_left H v i free (kept l) (step_in v.progress.schema v.progress.facts (Leave i)) refl
  kept (life.moves {H} {v} p r l) = by_move H v p r (kept l)

err_ok : {P : Type 0} (r : CallRefusal) → ◌≡◌ {A = Result (Unit {0}) CallRefusal} (Err r) (Ok tt) → P
err_ok r e = absurd cc

-- when calls are accepted
module _ {H : List Entry} {v : CaseView} (k : Kept H v) where
  abbrev S : SchemaParts
  S = v.progress.schema

  abbrev fs : List Fact
  fs = v.progress.facts

  pub steps_have_cause : StepsHaveCause H v
  steps_have_cause e = (forth (entered S None e (held fs v.store)) refl, back)
    where
      forth : (o : Result Held CallRefusal) → entered S None e (held fs v.store) ≡ o → (by_held v o).answer ≡ Ok tt
          → ((gs : List Fact) × Runs S no_facts (H ++ e ∷ []) gs) × (0 < v.store.free)
      forth (Err r) q a = err_ok r a
      forth (Ok h) q a =
          let w = was_entered S None e (held fs v.store) h q in
          ((set fs _ _, runs_last S e k.runs w.allowed), omega (arith, w.free))

      back : ((gs : List Fact) × Runs S no_facts (H ++ e ∷ []) gs) × (0 < v.store.free) → (step_outcome e v).answer ≡ Ok tt
      back ((gs, r), less) =
          let p = runs_parted H e no_facts r in
          let same : p.0 ≡ fs = one_run H p.1 k.runs in
          let m = can_enter S None e (held fs v.store) (subst (λ ms. Allowed S ms e) same p.2) less in
          ap (λ o. (by_held v o).answer) m.1

  pub agains_have_cause : (cost : ℕ) → AgainsHaveCause cost v
  agains_have_cause cost i free = (forth (step_in S fs (Leave i)) refl, back)
    where
      by_places : (b : Bool) → ltb v.store.free cost ≡ b → (by_held v (by_purge S i free (held fs v.store) (cond b refusal (Ok tt)))).answer ≡ Ok tt → cost ≤ v.store.free
      by_places true f a = err_ok _ a
      by_places false f a = ltb-false v.store.free cost f

      forth : (o : Result (List Fact) StepRefusal) → step_in S fs (Leave i) ≡ o → (by_held v (by_test cost S i free (held fs v.store) o)).answer ≡ Ok tt → Allowed S fs (Leave i) × (cost ≤ v.store.free)
      forth (Err r) q a = err_ok _ a
      forth (Ok gs) q a = ((step_allowed S fs (Leave i) gs q).0, by_places (ltb v.store.free cost) refl a)

      back : Allowed S fs (Leave i) × (cost ≤ v.store.free) → (again_outcome cost i free v).answer ≡ Ok tt
      back (a, less) =
          ap (λ o. (by_held v (by_test cost S i free (held fs v.store) o)).answer) (allowed_step S fs (Leave i) a)
          ∙ ap (λ b. (by_held v (by_purge S i free (held fs v.store) (cond b refusal (Ok tt)))).answer) (le-ltb v.store.free cost less)

module _ (v : CaseView) (line : List ℕ) where
  abbrev on : SchemaParts
  on = v.progress.schema

  abbrev empty : Held
  empty = held no_facts (cleared v.store)

  by_all : (c : RawCase) (o : Result Held CallRefusal) → case_in line ≡ Some c → entries_taken on 0 c.entries empty ≡ o → (by_entries c.number v o).answer ≡ Ok tt → Loadable line v
  by_all c (Err r) i q a = err_ok r a
  by_all c (Ok h) i q a =
      let t = were_taken on c.entries 0 empty h q in
      record {
        record_of = c;
        written = (reading_inverts_writing line c).0 i;
        entries = entries_read c.entries;
        spelled = t.spelled;
        facts = h.facts;
        runs = t.runs;
        fits = omega (arith, t.free);
      }

  is_loadable : (o : Option RawCase) → case_in line ≡ o → (by_record v o).answer ≡ Ok tt → Loadable line v
  is_loadable None i a = err_ok _ a
  is_loadable (Some c) i a = by_all c (entries_taken on 0 c.entries empty) i refl a

  loads_well : Loadable line v → (load_outcome line v).answer ≡ Ok tt
  loads_well l =
      let m = can_take on l.record_of.entries l.entries 0 empty l.facts l.spelled l.runs l.fits in
      ap (λ o. (by_record v o).answer) ((reading_inverts_writing line l.record_of).1 l.written)
      ∙ ap (λ o. (by_entries l.record_of.number v o).answer) m.1

pub loads_have_cause : (v : CaseView) → LoadsHaveCause v
loads_have_cause v line = (is_loadable v line (case_in line) refl, loads_well v line)

pub promises_kept : LivesKeepTheirPromises
promises_kept cost H v l =
    let k = kept cost l in (
      k.runs,
      (k.list, k.offered),
      moves_are_replays H v k.runs k.list k.checked,
      moves_land H v k.runs k.list,
      moves_have_cause H v k.runs k.list,
      steps_have_cause k,
      agains_have_cause k cost,
      loads_have_cause v,
    )
