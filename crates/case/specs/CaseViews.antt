-- The view of a case over any store and worklist: what those mean is handed in. Assumes nothing.
--   view_of store offered c   what case c is seen to hold
--   emptied n v               the view of a case that begins anew and offers nothing yet
--   refreshed v               the view of a case whose worklist was brought in step
--   Continues cost next v w   each life up to v goes on to w, and next says what its history then is
use Rattle.std.specs.Prelude.{ℕ, Bool, List}
use Rattle.model.specs.declared.Entry.{Entry}
use Rattle.agreement.specs.Laws.{no_facts}
use Rattle.history.specs.Stores.{StoreView, cleared}
use Rattle.worklist.specs.Offers.{none_offered}
use Rattle.entering.specs.Courses.{schema_of}
use Rattle.lives.specs.Views.{CaseView, in_progress}
use Rattle.lives.specs.Lives.{Life}
use Rattle.case.specs.declared.case.Case.{Case}

abbrev pub view_of : {S W C : Type 0} → (S → StoreView) → (W → ℕ → Bool) → Case S W C → CaseView
view_of store offered c = record {
  number = c.number;
  progress = record { schema = schema_of c.course; facts = c.course.facts };
  store = store c.course.store;
  offered = offered c.worklist;
}

abbrev pub emptied : ℕ → CaseView → CaseView
emptied n v = record {
  number = n;
  progress = record { schema = v.progress.schema; facts = no_facts };
  store = cleared v.store;
  offered = none_offered;
}

abbrev pub refreshed : CaseView → CaseView
refreshed v = in_progress v.number v.progress.schema v.progress.facts v.store

abbrev pub Continues : ℕ → (CaseView → List Entry → List Entry) → CaseView → CaseView → Type 0
Continues cost next v w = (H : List Entry) → Life cost H v → Life cost (next v H) w
