-- A step is taken exactly if it is allowed. Assumes nothing.
use Rattle.std.proofs.Common.{◌≡◌, Bool, true, false, cond, List, set, Some, None, Ok, Err, Option, Result, sym, refl, ap, ◌∙◌}
use Rattle.model.specs.declared.Entry.{Entry}
use Rattle.model.specs.declared.Entry.TheVariants.{Start, End, Choose, Leave}
use Rattle.model.specs.declared.Fact.{Fact}
use Rattle.model.specs.declared.State.{State}
use Rattle.model.specs.declared.State.TheVariants.{NotActivated, Activated, Running, Completed, Skipped}
use Rattle.model.specs.declared.refusal.StepRefusal.{StepRefusal}
use Rattle.model.specs.declared.refusal.StepRefusal.TheVariants as refusal
use Rattle.model.specs.Entries.{entry_id, needed, fact_set}
use Rattle.schema.specs.Checks.{SchemaParts}
use Rattle.marking.specs.States.{state_in}
use Rattle.runs.specs.Steps.{fits_in, Allowed, next_fact, noted, in_state, step_in}

-- the rule names the state that is needed and the fact that is set
right_state : (e : Entry) → next_fact (needed e) e ≡ Some (fact_set e)
right_state (Start i) = refl
right_state (End i) = refl
right_state (Choose i b) = refl
right_state (Leave i) = refl

never : {P : Type 0} (f : Fact) → ◌≡◌ {A = Option Fact} None (Some f) → P
never f e = absurd cc

only_state : (s : State) (e : Entry) (f : Fact) → next_fact s e ≡ Some f → (s ≡ needed e) × (f ≡ fact_set e)
only_state Activated (Start i) f h = (refl, cc)
only_state Activated (End i) f h = never f h
only_state Activated (Choose i b) f h = (refl, cc)
only_state Activated (Leave i) f h = (refl, cc)
only_state Running (Start i) f h = never f h
only_state Running (End i) f h = (refl, cc)
only_state Running (Choose i b) f h = never f h
only_state Running (Leave i) f h = never f h
only_state NotActivated e f h = never f h
only_state Completed e f h = never f h
only_state Skipped e f h = never f h

-- what the rule sets is the step's own fact
pub sets_its_fact : (s : State) (e : Entry) (f : Fact) → Some f ≡ next_fact s e → f ≡ fact_set e
sets_its_fact s e f h = (only_state s e f (sym h)).1

module _ (S : SchemaParts) (fs : List Fact) (e : Entry) where
  abbrev after : List Fact
  after = set fs (entry_id e) (fact_set e)

  pub allowed_step : Allowed S fs e → step_in S fs e ≡ Ok after
  allowed_step a =
      ap (λ b. cond b (in_state fs e (state_in S.row S.edges fs (entry_id e))) (Err refusal.Node)) a.fits
      ∙ ap (in_state fs e) a.state
      ∙ ap (noted fs e) (right_state e)

  err_ok : {P : Type 0} (k : StepRefusal) (gs : List Fact) → ◌≡◌ {A = Result (List Fact) StepRefusal} (Err k) (Ok gs) → P
  err_ok k gs h = absurd cc

  by_fact : (s : State) (o : Option Fact) (gs : List Fact) → next_fact s e ≡ o → noted fs e o ≡ Ok gs → (s ≡ needed e) × (gs ≡ after)
  by_fact s None gs n h = err_ok refusal.State gs h
  by_fact s (Some f) gs n h =
      let o = only_state s e f n in
      let same : set fs (entry_id e) f ≡ gs = cc in
      (o.0, sym same ∙ ap (set fs (entry_id e)) o.1)

  by_state : (o : Option State) (gs : List Fact) → state_in S.row S.edges fs (entry_id e) ≡ o → in_state fs e o ≡ Ok gs → (o ≡ Some (needed e)) × (gs ≡ after)
  by_state None gs n h = err_ok refusal.State gs h
  by_state (Some s) gs n h = let r = by_fact s (next_fact s e) gs refl h in (ap (λ v. Some v) r.0, r.1)

  by_fit : (b : Bool) (gs : List Fact) → fits_in S.row e ≡ b → cond b (in_state fs e (state_in S.row S.edges fs (entry_id e))) (Err refusal.Node) ≡ Ok gs
      → Allowed S fs e × (gs ≡ after)
  by_fit true gs f h =
      let r = by_state (state_in S.row S.edges fs (entry_id e)) gs refl h in
      (record { fits = f; state = r.0 }, r.1)
  by_fit false gs f h = err_ok refusal.Node gs h

  pub step_allowed : (gs : List Fact) → step_in S fs e ≡ Ok gs → Allowed S fs e × (gs ≡ after)
  step_allowed gs h = by_fit (fits_in S.row e) gs refl h

  pub step_refused : (k : StepRefusal) → step_in S fs e ≡ Err k → Allowed S fs e → ⊥
  step_refused k h a = err_ok k after (sym h ∙ allowed_step a)
