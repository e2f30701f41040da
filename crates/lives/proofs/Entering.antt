-- When a step is entered, and what it leaves. Assumes nothing.
use Rattle.std.proofs.Common.{◌≡◌, ℕ, ◌+◌, ◌-◌, ◌<◌, ◌≤◌, Bool, true, false, cond, eqb, List, [], ◌∷◌, ◌++◌, length, set, Some, None, Ok, Err, Option, Result, sym, refl, ap, ◌∙◌, subst, arith}
use Rattle.std.proofs.lemmas.List.{append_assoc, append-nil}
use Rattle.std.proofs.lemmas.Bool.{eqb-false, ne_eqb}
use Rattle.model.specs.declared.Entry.{Entry}
use Rattle.model.specs.declared.Fact.{Fact}
use Rattle.model.specs.declared.refusal.StepRefusal.{StepRefusal}
use Rattle.lives.specs.declared.CallRefusal.{CallRefusal}
use Rattle.model.specs.Entries.{entry_id, fact_set, entry_read}
use Rattle.model.proofs.EntryBytes.{entry_is, is_entry}
use Rattle.schema.specs.Checks.{SchemaParts}
use Rattle.case_record.specs.declared.RawEntry.{RawEntry}
use Rattle.runs.specs.Steps.{Allowed, Runs, ends, steps, step_in}
use Rattle.runs.specs.Histories.{Spelled}
use Rattle.runs.proofs.Allows.{allowed_step, step_allowed}
use Rattle.history.specs.Stores.{StoreView, refusal, added}
use Rattle.lives.specs.Calls.{Held, held, by_store, by_schema, entered, taken, and_then, entries_taken}
use Rattle.lives.specs.Lives.{with_entry, entries_read}

err_ok : {A : Type 0} {P : Type 0} (r : CallRefusal) (a : A) → ◌≡◌ {A = Result A CallRefusal} (Err r) (Ok a) → P
err_ok r a e = absurd cc

-- the store with one entry more
abbrev more : Entry → StoreView → StoreView
more e s = record { list = s.list ++ e ∷ []; free = s.free - 1; capacity = s.capacity }

module _ (S : SchemaParts) where
  -- an entry that was entered: it was allowed, and stands at the end of the store's list
  pub record Entered (e : Entry) (h k : Held) : Type 0 where
    pub allowed : Allowed S h.facts e
    pub facts : k.facts ≡ set h.facts (entry_id e) (fact_set e)
    pub list : k.store.list ≡ h.store.list ++ e ∷ []
    pub free : k.store.free + 1 ≡ h.store.free
    pub capacity : k.store.capacity ≡ h.store.capacity

  module _ (p : Option ℕ) (e : Entry) (h : Held) where
    room : eqb h.store.free 0 ≡ false → 0 < h.store.free
    room f = let n = eqb-false h.store.free 0 f in omega (arith, n)

    by_free : (gs : List Fact) (k : Held) (b : Bool) → step_in S h.facts e ≡ Ok gs → eqb h.store.free 0 ≡ b
        → by_store p e gs h.store (cond b refusal (Ok tt)) ≡ Ok k → Entered e h k
    by_free gs k true i f q = err_ok _ k q
    by_free gs k false i f q =
        let a = step_allowed S h.facts e gs i in
        let s : added e h.store ≡ more e h.store = ap (λ b. cond b h.store (more e h.store)) f in
        let same : held gs (added e h.store) ≡ k = cc in
        let is : k ≡ held gs (more e h.store) = sym same ∙ ap (held gs) s in
        let less = room f in
        record {
          allowed = a.0;
          facts = ap (λ l. l.facts) is ∙ a.1;
          list = ap (λ l. l.store.list) is;
          free = let n = ap (λ l. l.store.free) is in omega (arith, n, less);
          capacity = ap (λ l. l.store.capacity) is;
        }

    by_judged : (k : Held) (o : Result (List Fact) StepRefusal) → step_in S h.facts e ≡ o → by_schema p e h.store o ≡ Ok k → Entered e h k
    by_judged k (Ok gs) i q = by_free gs k (eqb h.store.free 0) i refl q
    by_judged k (Err r) i q = err_ok _ k q

    pub was_entered : (k : Held) → entered S p e h ≡ Ok k → Entered e h k
    was_entered k q = by_judged k (step_in S h.facts e) refl q

    pub can_enter : Allowed S h.facts e → 0 < h.store.free → (k : Held) × (entered S p e h ≡ Ok k)
    can_enter a less =
        let f : eqb h.store.free 0 ≡ false = ne_eqb h.store.free 0 (λ z. omega (arith, z, less)) in (
          held (set h.facts (entry_id e) (fact_set e)) (added e h.store),
          ap (by_schema p e h.store) (allowed_step S h.facts e a)
              ∙ ap (λ b. by_store p e (set h.facts (entry_id e) (fact_set e)) h.store (cond b refusal (Ok tt))) f,
        )

  -- entries that were taken: they run, and stand at the end of the store's list
  pub record Taken (rs : List RawEntry) (h k : Held) : Type 0 where
    pub spelled : Spelled rs (entries_read rs)
    pub runs : Runs S h.facts (entries_read rs) k.facts
    pub list : k.store.list ≡ h.store.list ++ entries_read rs
    pub free : k.store.free + length (entries_read rs) ≡ h.store.free
    pub capacity : k.store.capacity ≡ h.store.capacity

  pub were_taken : (rs : List RawEntry) (p : ℕ) (h k : Held) → entries_taken S p rs h ≡ Ok k → Taken rs h k
  were_taken [] p h k q =
      let is : h ≡ k = cc in
      record {
        spelled = tt;
        runs = subst (λ l. Runs S h.facts [] l.facts) is ends;
        list = ap (λ l. l.store.list) (sym is) ∙ sym (append-nil h.store.list);
        free = let n = ap (λ l. l.store.free) is in omega (arith, n);
        capacity = ap (λ l. l.store.capacity) (sym is);
      }
  were_taken (r ∷ rs) p h k q =
      go (entry_read r.kind r.id r.branch) refl (taken S p r h (entry_read r.kind r.id r.branch)) refl (λ m. were_taken rs (p + 1) m k) q
    where
      go : (o : Option Entry) → entry_read r.kind r.id r.branch ≡ o → (t : Result Held CallRefusal) → taken S p r h (entry_read r.kind r.id r.branch) ≡ t
          → ((m : Held) → entries_taken S (p + 1) rs m ≡ Ok k → Taken rs m k) → and_then t (entries_taken S (p + 1) rs) ≡ Ok k → Taken (r ∷ rs) h k
      go None i t j rec q = absurd (let e = sym (ap (taken S p r h) i) ∙ j in no t e q)
        where
          no : (t : Result Held CallRefusal) → taken S p r h None ≡ t → and_then t (entries_taken S (p + 1) rs) ≡ Ok k → ⊥
          no (Ok m) e q = err_ok _ m e
          no (Err x) e q = err_ok x k q
      go (Some e) i (Err x) j rec q = err_ok x k q
      go (Some e) i (Ok m) j rec q =
          let w = was_entered (Some p) e h m (sym (ap (taken S p r h) i) ∙ j) in
          let t = rec m q in
          let same : entries_read (r ∷ rs) ≡ e ∷ entries_read rs = ap (λ o. with_entry o (entries_read rs)) i in
          record {
            spelled = subst (Spelled (r ∷ rs)) (sym same) (entry_is _ _ _ e i, t.spelled);
            runs = subst (λ es. Runs S h.facts es k.facts) (sym same) (steps w.allowed (subst (λ fs. Runs S fs (entries_read rs) k.facts) w.facts t.runs));
            list = t.list ∙ ap (λ l. l ++ entries_read rs) w.list ∙ append_assoc h.store.list (e ∷ []) (entries_read rs) ∙ ap (λ es. h.store.list ++ es) (sym same);
            free = let n = ap length same in omega (arith, n, w.free, t.free);
            capacity = t.capacity ∙ w.capacity;
          }

  pub can_take : (rs : List RawEntry) (es : List Entry) (p : ℕ) (h : Held) (gs : List Fact) → Spelled rs es → Runs S h.facts es gs → length es ≤ h.store.free
      → (k : Held) × (entries_taken S p rs h ≡ Ok k)
  can_take [] [] p h gs s r l = (h, refl)
  can_take [] (e ∷ es) p h gs s r l = elim s [ ]
  can_take (q ∷ rs) [] p h gs s r l = elim s [ ]
  can_take (q ∷ rs) (e ∷ es) p h gs s (steps a r) l =
      let m = can_enter (Some p) e h a (omega arith) in
      let w = was_entered (Some p) e h m.0 m.1 in
      let k = can_take rs es (p + 1) m.0 gs s.1 (subst (λ fs. Runs S fs es gs) (sym w.facts) r) (omega (arith, w.free)) in (
        k.0,
        ap (λ o. and_then (taken S p q h o) (entries_taken S (p + 1) rs)) (is_entry _ _ _ e s.0)
            ∙ ap (λ t. and_then t (entries_taken S (p + 1) rs)) m.1 ∙ k.1,
      )

-- one entry of a record
module _ (S : SchemaParts) (h : Held) where
  pub taken_capacity : (p : ℕ) (r : RawEntry) (o : Option Entry) (k : Held) → taken S p r h o ≡ Ok k → k.store.capacity ≡ h.store.capacity
  taken_capacity p r None k q = err_ok _ k q
  taken_capacity p r (Some e) k q = (was_entered S (Some p) e h k q).capacity

  pub taken_first : (rs : List RawEntry) (p : ℕ) (r : RawEntry) (rest : List RawEntry) → rs ≡ r ∷ rest → (o : Result Held CallRefusal)
      → taken S p r h (entry_read r.kind r.id r.branch) ≡ o → entries_taken S p rs h ≡ and_then o (entries_taken S (p + 1) rest)
  taken_first rs p r rest is o q = ap (λ qs. entries_taken S p qs h) is ∙ ap (λ t. and_then t (entries_taken S (p + 1) rest)) q
