-- What holds of every life of every case, over every store and worklist that keep their meaning. Assumes nothing.
--   MovesAreReplays      a move is accepted exactly if the history runs on the changed schema
--   MovesLand            what a move leaves
--   MovesHaveCause       each answer to a move has its cause and no other
--   LivesKeepTheirPromises   these and all else that every life keeps
--   OffersMayBeStarted   exactly those activities are offered that may be started
use Rattle.std.specs.Prelude.{◌≡◌, ℕ, ◌<◌, ◌≤◌, ◌↔◌, true, false, List, [], ◌∷◌, ◌++◌, length, Ok, Err}
use Rattle.model.specs.declared.Entry.{Entry}
use Rattle.model.specs.declared.Entry.TheVariants.{Start, Leave}
use Rattle.model.specs.declared.Fact.{Fact}
use Rattle.model.specs.Signals.{fact_of, decided}
use Rattle.schema.specs.Checks.{SchemaParts, Admitted}
use Rattle.case_record.specs.CaseRecords.{RawCase}
use Rattle.case_record.specs.Laws.{LineOf}
use Rattle.marking.specs.States.{state_in, finished_in}
use Rattle.runs.specs.Steps.{Allowed, Runs}
use Rattle.runs.specs.Histories.{Spelled}
use Rattle.agreement.specs.Laws.{no_facts}
use Rattle.changes.specs.declared.Change.{Change}
use Rattle.draft_rules.specs.Rules.{all_admitted}
use Rattle.draft_rules.specs.Stages.{released}
use Rattle.draft_rules.specs.Plans.{PlanParts, plan_of, Released, released_of}
use Rattle.lives.specs.declared.CallRefusal.{CallRefusal}
use Rattle.lives.specs.declared.CallRefusal.TheVariants as call
use Rattle.lives.specs.Offers.{offers}
use Rattle.lives.specs.Views.{CaseView}
use Rattle.lives.specs.Calls.{step_outcome, again_outcome, load_outcome}
use Rattle.lives.specs.Moves.{move_outcome}
use Rattle.lives.specs.Lives.{Life}

-- The reduced history runs on the case's schema, and ends in the case's facts.
abbrev pub HistoryRuns : List Entry → CaseView → Type 0
HistoryRuns H v = Runs v.progress.schema no_facts H v.progress.facts

-- The store's list is the reduced history, and the worklist offers exactly the Activated activities.
abbrev pub InStep : List Entry → CaseView → Type 0
InStep H v = (v.store.list ≡ H) × (v.offered ≡ offers v.progress.schema v.progress.facts)

-- A start, finish, choose or leave is accepted exactly if the history with its entry runs, and the store has a free place.
abbrev pub StepsHaveCause : List Entry → CaseView → Type 0
StepsHaveCause H v =
    (e : Entry)
    → ((step_outcome e v).answer ≡ Ok tt) ↔ (((gs : List Fact) × Runs v.progress.schema no_facts (H ++ e ∷ []) gs) × (0 < v.store.free))

-- An again is accepted exactly if its test is there and Activated, and the free places cover what a purge costs.
abbrev pub AgainsHaveCause : ℕ → CaseView → Type 0
AgainsHaveCause cost v =
    (i free : ℕ)
    → ((again_outcome cost i free v).answer ≡ Ok tt) ↔ (Allowed v.progress.schema v.progress.facts (Leave i) × (cost ≤ v.store.free))

-- The line writes a case whose entries run on the schema and fit the store's places.
pub record Loadable (line : List ℕ) (v : CaseView) : Type 0 where
  pub record_of : RawCase
  pub written : LineOf line record_of
  pub entries : List Entry
  pub spelled : Spelled record_of.entries entries
  pub facts : List Fact
  pub runs : Runs v.progress.schema no_facts entries facts
  pub fits : length entries ≤ v.store.capacity

-- A load is accepted exactly if its line is such a one.
abbrev pub LoadsHaveCause : CaseView → Type 0
LoadsHaveCause v = (line : List ℕ) → ((load_outcome line v).answer ≡ Ok tt) ↔ Loadable line v

-- The entries run, one by one, on this schema.
abbrev pub RunsOn : SchemaParts → List Entry → Type 0
RunsOn T H = (gs : List Fact) × Runs T no_facts H gs

-- The case is not finished.
abbrev pub Unfinished : CaseView → Type 0
Unfinished v = finished_in v.progress.schema.row v.progress.facts ≡ false

-- Looking is replaying: for every list of changes that a draft admits on the case's schema, the unfinished case is moved by
-- the plan that is released of them exactly if its history runs on the changed schema.
abbrev pub MovesAreReplays : List Entry → CaseView → Type 0
MovesAreReplays H v =
    (cs : List Change) → all_admitted v.progress.schema.row [] v.progress.schema cs ≡ true → Unfinished v
    → ((move_outcome (plan_of v.progress.schema cs) v).answer ≡ Ok tt) ↔ RunsOn (released cs v.progress.schema) H

-- The case w has the changed schema; it is marked as the run of the history on that schema ends; store and number are those
-- of v, and the worklist is in step.
pub record Landed (p : PlanParts) (H : List Entry) (v w : CaseView) : Type 0 where
  pub schema : w.progress.schema ≡ released_of p
  pub runs : Runs (released_of p) no_facts H w.progress.facts
  pub states : (gs : List Fact) → Runs (released_of p) no_facts H gs → (id : ℕ)
      → state_in w.progress.schema.row w.progress.schema.edges w.progress.facts id ≡ state_in (released_of p).row (released_of p).edges gs id
  pub branches : (gs : List Fact) → Runs (released_of p) no_facts H gs → (id : ℕ) → decided (fact_of w.progress.facts id) ≡ decided (fact_of gs id)
  pub store : w.store ≡ v.store
  pub number : w.number ≡ v.number
  pub offered : w.offered ≡ offers w.progress.schema w.progress.facts

-- An accepted move lands where the replay ends; a refused one, for whatever reason and by whatever plan, changes nothing.
abbrev pub MovesLand : List Entry → CaseView → Type 0
MovesLand H v =
    (p : PlanParts) → Released p
    → ((move_outcome p v).answer ≡ Ok tt → Landed p H v (move_outcome p v).after)
    × ((r : CallRefusal) → (move_outcome p v).answer ≡ Err r → (move_outcome p v).after ≡ v)

-- A move is refused as that of a finished case exactly if it is finished; else for its base exactly if the plan's base is not
-- the case's schema; else it is accepted exactly if the history runs on the changed schema, and refused for a change if it
-- does not.
pub record MoveHasCause (H : List Entry) (v : CaseView) (p : PlanParts) : Type 0 where
  pub finished : ((move_outcome p v).answer ≡ Err call.Finished) ↔ (finished_in v.progress.schema.row v.progress.facts ≡ true)
  pub other_base : ((move_outcome p v).answer ≡ Err call.OtherBase) ↔ (Unfinished v × (p.base ≡ v.progress.schema → ⊥))
  pub accepted : ((move_outcome p v).answer ≡ Ok tt) ↔ (Unfinished v × (p.base ≡ v.progress.schema) × RunsOn (released_of p) H)
  pub change : ((place id : ℕ) × ((move_outcome p v).answer ≡ Err (call.Change place id)))
      ↔ (Unfinished v × (p.base ≡ v.progress.schema) × (RunsOn (released_of p) H → ⊥))

abbrev pub MovesHaveCause : List Entry → CaseView → Type 0
MovesHaveCause H v = (p : PlanParts) → Released p → MoveHasCause H v p

-- After every call of every life.
abbrev pub LivesKeepTheirPromises : Type 0
LivesKeepTheirPromises =
    (cost : ℕ) (H : List Entry) (v : CaseView) → Life cost H v
    → HistoryRuns H v × InStep H v × MovesAreReplays H v × MovesLand H v × MovesHaveCause H v
    × StepsHaveCause H v × AgainsHaveCause cost v × LoadsHaveCause v

-- Of a schema that passed the checks, whatever the facts, exactly those activities are offered that may be started.
abbrev pub OffersMayBeStarted : Type 0
OffersMayBeStarted =
    (S : SchemaParts) (fs : List Fact) (id : ℕ) → Admitted S → (offers S fs id ≡ true) ↔ Allowed S fs (Start id)
