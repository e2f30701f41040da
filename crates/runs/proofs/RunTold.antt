-- The run goes through all entries, or stops at the first that is no allowed step. Assumes nothing.
use Rattle.std.proofs.Common.{◌≡◌, ℕ, ◌+◌, List, [], ◌∷◌, ◌++◌, length, set, Some, None, Ok, Err, Option, Result, sym, refl, ap, ◌∙◌, subst, arith, length-append}
use Rattle.std.proofs.lemmas.List.{append-nil, append_assoc}
use Rattle.model.specs.declared.Entry.{Entry}
use Rattle.model.specs.declared.Fact.{Fact}
use Rattle.model.specs.declared.refusal.CaseRefusal.{CaseRefusal}
use Rattle.model.specs.declared.refusal.StepRefusal.{StepRefusal}
use Rattle.model.specs.declared.refusal.StepRefusal.TheVariants as refusal
use Rattle.model.specs.Entries.{entry_id, fact_set, EntryBytes, entry_read}
use Rattle.model.proofs.EntryBytes.{entry_is, is_entry}
use Rattle.case_record.specs.declared.RawEntry.{RawEntry}
use Rattle.schema.specs.Checks.{SchemaParts}
use Rattle.runs.specs.Steps.{Allowed, Runs, ends, steps, step_in, judged, Stepped}
use Rattle.runs.specs.Histories.{Ran, ran_to, stopped, verdict, then_ran, ran, Spelled, RunTold}
use Rattle.runs.proofs.Allows.{allowed_step, step_allowed, step_refused}

spelled_last : (rs : List RawEntry) (es : List Entry) (r : RawEntry) (e : Entry) → Spelled rs es → EntryBytes r.kind r.id r.branch e → Spelled (rs ++ r ∷ []) (es ++ e ∷ [])
spelled_last [] [] r e s h = (h, tt)
spelled_last [] (x ∷ es) r e s h = elim s [ ]
spelled_last (q ∷ rs) [] r e s h = elim s [ ]
spelled_last (q ∷ rs) (x ∷ es) r e s h = (s.0, spelled_last rs es r e s.1 h)

module _ (S : SchemaParts) where
  pub runs_last : {fs gs : List Fact} {es : List Entry} (e : Entry) → Runs S fs es gs → Allowed S gs e → Runs S fs (es ++ e ∷ []) (set gs (entry_id e) (fact_set e))
  runs_last e ends a = steps a ends
  runs_last e (steps b r) a = steps b (runs_last e r a)

  module _ (origin : List Fact) where
    told_from : (rs front : List RawEntry) (es : List Entry) (fs : List Fact) (p : ℕ) → length front ≡ p → Spelled front es → Runs S origin es fs → RunTold S origin (front ++ rs) (ran S fs p rs)
    told_from [] front es fs p n s r = record { entries = es; spelled = subst (λ qs. Spelled qs es) (sym (append-nil front)) s; runs = r }
    told_from (q ∷ rs) front es fs p n s r =
        at (entry_read q.kind q.id q.branch) refl (λ e gs. told_from rs (front ++ q ∷ []) (es ++ e ∷ []) gs (p + 1))
      where
        stop : (k : StepRefusal) → ((e : Entry) → EntryBytes q.kind q.id q.branch e → Allowed S fs e → ⊥) → RunTold S origin (front ++ (q ∷ rs)) (ran_to fs (Some (stopped p q k)))
        stop k bad = (record { front = front; here = q; rest = rs; entries = es; parted = refl; place = n; spelled = s; runs = r; refused = bad }, refl)

        moved : (m : Ran) → RunTold S origin ((front ++ q ∷ []) ++ rs) m → RunTold S origin (front ++ (q ∷ rs)) m
        moved m t = subst (λ qs. RunTold S origin qs m) (append_assoc front (q ∷ []) rs) t

        step_on : (e : Entry) (v : Result (List Fact) StepRefusal) → entry_read q.kind q.id q.branch ≡ Some e → step_in S fs e ≡ v
            → ((gs : List Fact) → length (front ++ q ∷ []) ≡ p + 1 → Spelled (front ++ q ∷ []) (es ++ e ∷ []) → Runs S origin (es ++ e ∷ []) gs → RunTold S origin ((front ++ q ∷ []) ++ rs) (ran S gs (p + 1) rs))
            → RunTold S origin (front ++ (q ∷ rs)) (then_ran fs p q v (λ gs. ran S gs (p + 1) rs))
        step_on e (Ok gs) is h more =
            let a = step_allowed S fs e gs h in
            moved (ran S gs (p + 1) rs)
            (more gs (length-append front (q ∷ []) ∙ ap (λ k. k + 1) n) (spelled_last front es q e s (entry_is _ _ _ e is))
            (subst (λ hs. Runs S origin (es ++ e ∷ []) hs) (sym a.1) (runs_last e r a.0)))
        step_on e (Err k) is h more = stop k (λ x b a. step_refused S fs e k h (subst (Allowed S fs) (same x b) a))
          where
            same : (x : Entry) → EntryBytes q.kind q.id q.branch x → x ≡ e
            same x b = let z = is_entry _ _ _ x b in cc

        at : (o : Option Entry) → entry_read q.kind q.id q.branch ≡ o
            → ((e : Entry) (gs : List Fact) → length (front ++ q ∷ []) ≡ p + 1 → Spelled (front ++ q ∷ []) (es ++ e ∷ []) → Runs S origin (es ++ e ∷ []) gs → RunTold S origin ((front ++ q ∷ []) ++ rs) (ran S gs (p + 1) rs))
            → RunTold S origin (front ++ (q ∷ rs)) (then_ran fs p q (judged S fs o) (λ gs. ran S gs (p + 1) rs))
        at None is more = stop refusal.Node (λ e b a. none e is (is_entry _ _ _ e b))
          where
            none : (e : Entry) → entry_read q.kind q.id q.branch ≡ None → entry_read q.kind q.id q.branch ≡ Some e → ⊥
            none e u v = let z : ◌≡◌ {A = ℕ} 0 1 = cc in omega arith
        at (Some e) is more = step_on e (step_in S fs e) is refl (more e)

  pub run_told : (fs : List Fact) (rs : List RawEntry) → RunTold S fs rs (ran S fs 0 rs)
  run_told fs rs = told_from fs rs [] [] fs 0 refl tt ends

  pub run_only : (rs : List RawEntry) (es : List Entry) (fs gs : List Fact) (p : ℕ) → Spelled rs es → Runs S fs es gs → ran S fs p rs ≡ ran_to gs None
  run_only [] [] fs gs p s ends = refl
  run_only [] (e ∷ es) fs gs p s r = elim s [ ]
  run_only (q ∷ rs) [] fs gs p s r = elim s [ ]
  run_only (q ∷ rs) (e ∷ es) fs gs p s (steps a r) =
      ap (λ o. then_ran fs p q (judged S fs o) (λ hs. ran S hs (p + 1) rs)) (is_entry _ _ _ e s.0)
      ∙ ap (λ v. then_ran fs p q v (λ hs. ran S hs (p + 1) rs)) (allowed_step S fs e a)
      ∙ run_only rs es _ gs (p + 1) s.1 r

-- What a step and the telling of its refusal say of the rest of a run.
module _ (fs gs : List Fact) (p : ℕ) (r : RawEntry) (v : Result (List Fact) StepRefusal) where
  pub goes_on : (t : Result (Unit {0}) StepRefusal) → Stepped v fs gs t → (t ≡ Ok tt) → v ≡ Ok gs
  goes_on (Ok u) s is = s
  goes_on (Err k) s is = let z : ◌≡◌ {A = ℕ} 0 1 = cc in absurd (omega arith)

  pub stops_here : (t : Result (Unit {0}) StepRefusal) (m : Result (Unit {0}) CaseRefusal) → Stepped v fs gs t → (k : StepRefusal) × (t ≡ Err k) × (m ≡ Err (stopped p r k)) → (rest : List Fact → Ran)
      → (m ≡ verdict (then_ran fs p r v rest).refusal) × (gs ≡ (then_ran fs p r v rest).facts)
  stops_here (Ok u) m s (k, is, told) rest = let z : ◌≡◌ {A = ℕ} 0 1 = cc in absurd (omega arith)
  stops_here (Err e) m s (k, is, told) rest = let same : e ≡ k = cc in rw s.0 (told ∙ ap (λ i. Err (stopped p r i)) (sym same), s.1)
