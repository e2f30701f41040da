-- What each call on a case answers, and what the case then holds. Assumes nothing.
--   Outcome                 the answer, and the view after the call
--   opened n v              open, with the number n;  opened_on n S s  the same by schema and store
--   step_outcome e v        start, finish, choose and leave: e is the entry
--   again_outcome c i f v   one more round of the loop of test i, where a purge costs c places and leaves f free
--   load_outcome line v     the case that a line writes
use Rattle.std.specs.Prelude.{ℕ, ◌+◌, List, [], ◌∷◌, Some, None, Ok, Err, Option, Result}
use Rattle.model.specs.declared.Entry.{Entry}
use Rattle.model.specs.declared.Entry.TheVariants.{Leave}
use Rattle.model.specs.declared.Fact.{Fact}
use Rattle.model.specs.declared.refusal.StepRefusal.{StepRefusal}
use Rattle.model.specs.declared.refusal.StepRefusal.TheVariants as refusal
use Rattle.model.specs.declared.refusal.CaseRefusal.TheVariants as case
use Rattle.model.specs.Entries.{entry_id, entry_read}
use Rattle.facts.specs.Facts.{reset}
use Rattle.schema.specs.Checks.{SchemaParts}
use Rattle.case_record.specs.declared.RawEntry.{RawEntry}
use Rattle.case_record.specs.CaseRecords.{RawCase, case_in}
use Rattle.runs.specs.Steps.{step_in}
use Rattle.agreement.specs.Laws.{no_facts}
use Rattle.bounded.specs.declared.Full.{Full}
use Rattle.history.specs.Stores.{StoreView, cleared, add_answer, added, purge_answer}
use Rattle.rounds.specs.Rounds.{in_round, outside}
use Rattle.lives.specs.Views.{CaseView, in_progress}
use Rattle.lives.specs.declared.CallRefusal.{CallRefusal}
use Rattle.lives.specs.declared.CallRefusal.TheVariants as call

pub record Outcome : Type 0 where
  pub answer : Result (Unit {0}) CallRefusal
  pub after : CaseView

abbrev pub accepted : CaseView → Outcome
accepted v = record { answer = Ok tt; after = v }

abbrev pub refused : CallRefusal → CaseView → Outcome
refused r v = record { answer = Err r; after = v }

-- Open: no facts, store and worklist cleared, and then offered what the schema activates at once.
abbrev pub opened_on : ℕ → SchemaParts → StoreView → CaseView
opened_on n S s = in_progress n S no_facts (cleared s)

abbrev pub opened : ℕ → CaseView → CaseView
opened n v = opened_on n v.progress.schema v.store

-- What a call changes: the facts and the store.
pub record Held : Type 0 where
  pub facts : List Fact
  pub store : StoreView

abbrev pub held : List Fact → StoreView → Held
held fs s = record { facts = fs; store = s }

-- A step that the schema allows asks the store for a place.
abbrev pub by_store : Option ℕ → Entry → List Fact → StoreView → Result (Unit {0}) Full → Result Held CallRefusal
by_store p e gs s (Ok u) = Ok (held gs (added e s))
by_store p e gs s (Err f) = Err (call.Store p (entry_id e))

abbrev pub by_schema : Option ℕ → Entry → StoreView → Result (List Fact) StepRefusal → Result Held CallRefusal
by_schema p e s (Ok gs) = by_store p e gs s (add_answer s)
by_schema p e s (Err k) = Err (call.Case (case.Step p (entry_id e) k))

-- The entry at place p of a record, or that of a direct call, which has no place.
abbrev pub entered : SchemaParts → Option ℕ → Entry → Held → Result Held CallRefusal
entered S p e h = by_schema p e h.store (step_in S h.facts e)

-- A refusal changes nothing; else the worklist is brought in step.
abbrev pub by_held : CaseView → Result Held CallRefusal → Outcome
by_held v (Ok h) = accepted (in_progress v.number v.progress.schema h.facts h.store)
by_held v (Err r) = refused r v

abbrev pub step_outcome : Entry → CaseView → Outcome
step_outcome e v = by_held v (entered v.progress.schema None e (held v.progress.facts v.store))

-- The store after an accepted purge of the loop's nodes.
abbrev pub dropped : SchemaParts → ℕ → ℕ → StoreView → StoreView
dropped S i free s = record { list = outside (in_round S.row i) s.list; free = free; capacity = s.capacity }

abbrev pub by_purge : SchemaParts → ℕ → ℕ → Held → Result (Unit {0}) Full → Result Held CallRefusal
by_purge S i free h (Ok u) = Ok (held (reset (in_round S.row i) h.facts) (dropped S i free h.store))
by_purge S i free h (Err f) = Err (call.Store None i)

-- Again needs what leaving needs: an Activated test.
abbrev pub by_test : ℕ → SchemaParts → ℕ → ℕ → Held → Result (List Fact) StepRefusal → Result Held CallRefusal
by_test cost S i free h (Ok gs) = by_purge S i free h (purge_answer cost h.store)
by_test cost S i free h (Err k) = Err (call.Case (case.Step None i k))

-- One more round of the loop with test i, where a purge costs so much and leaves `free` places free.
abbrev pub repeated : ℕ → SchemaParts → ℕ → ℕ → Held → Result Held CallRefusal
repeated cost S i free h = by_test cost S i free h (step_in S h.facts (Leave i))

abbrev pub again_outcome : ℕ → ℕ → ℕ → CaseView → Outcome
again_outcome cost i free v = by_held v (repeated cost v.progress.schema i free (held v.progress.facts v.store))

-- The entry that the bytes at place p spell.
abbrev pub taken : SchemaParts → ℕ → RawEntry → Held → Option Entry → Result Held CallRefusal
taken S p r h None = Err (call.Case (case.Step (Some p) r.id refusal.Node))
taken S p r h (Some e) = entered S (Some p) e h

abbrev pub and_then : Result Held CallRefusal → (Held → Result Held CallRefusal) → Result Held CallRefusal
and_then (Ok h) more = more h
and_then (Err r) more = Err r

-- The entries from place p on, each judged in full before the next.
abbrev pub entries_taken : SchemaParts → ℕ → List RawEntry → Held → Result Held CallRefusal
entries_taken S p [] h = Ok h
entries_taken S p (r ∷ rs) h = and_then (taken S p r h (entry_read r.kind r.id r.branch)) (entries_taken S (p + 1) rs)

-- A refused load leaves the case opened and empty.
abbrev pub by_entries : ℕ → CaseView → Result Held CallRefusal → Outcome
by_entries n v (Ok h) = accepted (in_progress n v.progress.schema h.facts h.store)
by_entries n v (Err r) = refused r (opened n v)

abbrev pub by_record : CaseView → Option RawCase → Outcome
by_record v None = refused (call.Case case.Line) (opened 0 v)
by_record v (Some c) = by_entries c.number v (entries_taken v.progress.schema 0 c.entries (held no_facts (cleared v.store)))

abbrev pub load_outcome : List ℕ → CaseView → Outcome
load_outcome line v = by_record v (case_in line)
