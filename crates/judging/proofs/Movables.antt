-- The verdict on a line is a move exactly if the line's case may be moved. Assumes nothing.
use Rattle.std.proofs.Common.{◌≡◌, ℕ, List, [], ◌∷◌, Some, None, Ok, Err, Option, Result, sym, refl, ap, ap₂, ◌∙◌, subst, false, ◌↔◌}
use Rattle.model.specs.declared.Entry.{Entry}
use Rattle.model.specs.declared.Fact.{Fact}
use Rattle.model.specs.declared.refusal.Reason.{Reason}
use Rattle.model.proofs.EntryBytes.{is_entry}
use Rattle.schema.specs.Checks.{SchemaParts}
use Rattle.case_record.specs.declared.RawEntry.{RawEntry}
use Rattle.case_record.specs.CaseRecords.{RawCase, case_in}
use Rattle.case_record.proofs.Writings.{reading_inverts_writing}
use Rattle.marking.specs.States.{finished_in}
use Rattle.runs.specs.Steps.{Runs}
use Rattle.runs.specs.Histories.{Spelled}
use Rattle.agreement.specs.Laws.{no_facts}
use Rattle.history.specs.Stores.{cleared}
use Rattle.draft_rules.specs.Plans.{PlanParts, Released, released_of}
use Rattle.lives.specs.declared.CallRefusal.{CallRefusal}
use Rattle.lives.specs.Views.{CaseView}
use Rattle.lives.specs.Calls.{Held, held, entries_taken, by_entries, by_record, Outcome, opened_on, load_outcome}
use Rattle.lives.specs.Moves.{move_outcome}
use Rattle.lives.specs.Laws.{RunsOn, MoveHasCause, Loadable}
use Rattle.lives.specs.Lives.{Life, loads, moves, if_accepted, with_entry, entries_read, record_entries, line_entries, loaded_history}
use Rattle.lives.proofs.Keeping.{loads_have_cause, promises_kept}
use Rattle.lives.proofs.Moving.{one_run}
use Rattle.drafts.specs.Views.{planned}
use Rattle.case.proofs.Living.{released_plan}
use Rattle.verdicts.specs.declared.Verdict.{Verdict}
use Rattle.judging.specs.declared.batch.Batch.{Batch}
use Rattle.judging.specs.declared.batch.Batch.TheVariants.{Ready, Refused}
use Rattle.judging.specs.Batches.{batch_of}
use Rattle.judging.specs.Judgements.{answered, then_moved, judged}
use Rattle.judging.specs.Laws.{Movable, judged_history}

-- bytes that are those of entries are read as them
read_back : (rs : List RawEntry) (es : List Entry) → Spelled rs es → entries_read rs ≡ es
read_back [] [] s = refl
read_back [] (e ∷ es) s = elim s [ ]
read_back (r ∷ rs) [] s = elim s [ ]
read_back (r ∷ rs) (e ∷ es) s =
    ap (λ o. with_entry o (entries_read rs)) (is_entry _ _ _ e s.0) ∙ ap (λ l. e ∷ l) (read_back rs es s.1)

no_reason : (a : Result (Unit {0}) CallRefusal) → answered a ≡ None → a ≡ Ok tt
no_reason (Ok u) h = refl
no_reason (Err r) h = absurd cc

module _ (cost : ℕ) (p : PlanParts) (line : List ℕ) (v : CaseView) (r : Released p) where
  abbrev on_base : CaseView
  on_base = opened_on v.number p.base v.store

  abbrev loaded : Outcome
  loaded = load_outcome line on_base

  abbrev history : List Entry
  history = loaded_history line on_base

  life : Life cost history loaded.after
  life = loads on_base line r.checked

  cause : MoveHasCause history loaded.after p
  cause = (promises_kept cost history loaded.after life).4 p r

  history_runs : Runs loaded.after.progress.schema no_facts history loaded.after.progress.facts
  history_runs = (promises_kept cost history loaded.after life).0

  -- a load stays on its schema
  same_schema : (o : Option RawCase) → (by_record on_base o).after.progress.schema ≡ p.base
  same_schema None = refl
  same_schema (Some c) = go (entries_taken p.base 0 c.entries (held no_facts (cleared v.store)))
    where
      go : (o : Result Held CallRefusal) → (by_entries c.number on_base o).after.progress.schema ≡ p.base
      go (Ok h) = refl
      go (Err e) = refl

  -- an accepted load begins with the entries that the line writes
  history_is : (l : Loadable line on_base) → loaded.answer ≡ Ok tt → history ≡ l.entries
  history_is l a =
      ap (λ o. if_accepted o (line_entries line) []) a
      ∙ ap record_entries ((reading_inverts_writing line l.record_of).1 l.written)
      ∙ read_back l.record_of.entries l.entries l.spelled

  forth : (a : Result (Unit {0}) CallRefusal) → loaded.answer ≡ a → (then_moved p loaded a).verdict.refusal ≡ None → Movable p line v.store.capacity
  forth (Err e) is h = absurd cc
  forth (Ok u) is h =
      let l = (loads_have_cause on_base line).0 is in
      let moved = cause.accepted.0 (no_reason (move_outcome p loaded.after).answer h) in
      let same = history_is l is in
      record {
        record_of = l.record_of;
        written = l.written;
        entries = l.entries;
        spelled = l.spelled;
        fits = l.fits;
        facts = loaded.after.progress.facts;
        runs = subst (λ S. Runs S no_facts l.entries loaded.after.progress.facts) (sym moved.1)
            (subst (λ H. Runs loaded.after.progress.schema no_facts H loaded.after.progress.facts) same history_runs);
        unfinished = subst (λ (S : SchemaParts). finished_in S.row loaded.after.progress.facts ≡ false) (sym moved.1) moved.0;
        runs_on = subst (RunsOn (released_of p)) same moved.2;
      }

  back : Movable p line v.store.capacity → (judged (Ok p) line v).verdict.refusal ≡ None
  back m =
      let l : Loadable line on_base = record {
        record_of = m.record_of;
        written = m.written;
        entries = m.entries;
        spelled = m.spelled;
        facts = m.facts;
        runs = m.runs;
        fits = m.fits;
      } in
      let a = (loads_have_cause on_base line).1 l in
      let same = history_is l a in
      let base = same_schema (case_in line) in
      let facts : m.facts ≡ loaded.after.progress.facts =
      one_run m.entries m.runs
      (subst (λ S. Runs S no_facts m.entries loaded.after.progress.facts) base
      (subst (λ H. Runs loaded.after.progress.schema no_facts H loaded.after.progress.facts) same history_runs)) in
      let unfinished : finished_in loaded.after.progress.schema.row loaded.after.progress.facts ≡ false =
      ap₂ (λ (S : SchemaParts) (fs : List Fact). finished_in S.row fs) base (sym facts) ∙ m.unfinished in
      let moved = cause.accepted.1 (unfinished, sym base, subst (RunsOn (released_of p)) (sym same) m.runs_on) in
      ap (λ o. (then_moved p loaded o).verdict.refusal) a ∙ ap answered moved

  then_lives : (a : Result (Unit {0}) CallRefusal) → Life cost history (then_moved p loaded a).after
  then_lives (Ok u) = moves p r life
  then_lives (Err e) = life

-- whatever it costs to purge
moves_the_movable : (p : PlanParts) (line : List ℕ) (v : CaseView) → Released p
    → ((judged (Ok p) line v).verdict.refusal ≡ None) ↔ Movable p line v.store.capacity
moves_the_movable p line v r = (forth 0 p line v r (load_outcome line (opened_on v.number p.base v.store)).answer refl, back 0 p line v r)

-- the plan of a batch is a released one
batch_released : (b : Batch) (p : PlanParts) → batch_of b ≡ Ok p → Released p
batch_released (Ready ready) p is = let same : planned ready.plan ≡ p = cc in subst Released same (released_plan ready.plan)
batch_released (Refused reason) p is = absurd cc

module _ (b : Batch) (p : PlanParts) (line : List ℕ) (v : CaseView) (is : batch_of b ≡ Ok p) where
  pub told_move : (told : Verdict) → told ≡ (judged (batch_of b) line v).verdict → (told.refusal ≡ None) ↔ Movable p line v.store.capacity
  told_move told e =
      subst (λ (x : Verdict). (x.refusal ≡ None) ↔ Movable p line v.store.capacity) (sym (e ∙ ap (λ o. (judged o line v).verdict) is))
      (moves_the_movable p line v (batch_released b p is))

  pub judged_life : (cost : ℕ) (w : CaseView) → w ≡ (judged (batch_of b) line v).after → Life cost (judged_history p line v) w
  judged_life cost w e =
      subst (Life cost (judged_history p line v)) (sym (e ∙ ap (λ o. (judged o line v).after) is))
      (then_lives cost p line v (batch_released b p is) (load_outcome line (opened_on v.number p.base v.store)).answer)
