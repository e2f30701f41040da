-- The lives of a case. Assumes nothing.
--   Life cost H v    a case can come to hold v, and its loop-reduced history is then H; a purge costs its store `cost`
use Rattle.std.specs.Prelude.{◌≡◌, ℕ, ◌+◌, ◌≤◌, List, [], ◌∷◌, ◌++◌, length, Some, None, Ok, Err, Option, Result}
use Rattle.model.specs.declared.Entry.{Entry}
use Rattle.lives.specs.declared.CallRefusal.{CallRefusal}
use Rattle.model.specs.Entries.{entry_read}
use Rattle.schema.specs.Checks.{SchemaParts, Admitted}
use Rattle.case_record.specs.declared.RawEntry.{RawEntry}
use Rattle.case_record.specs.CaseRecords.{RawCase, case_in}
use Rattle.history.specs.Stores.{StoreView}
use Rattle.rounds.specs.Rounds.{in_round, outside}
use Rattle.lives.specs.Views.{CaseView}
use Rattle.draft_rules.specs.Plans.{PlanParts, Released}
use Rattle.lives.specs.Calls.{opened, step_outcome, again_outcome, load_outcome}
use Rattle.lives.specs.Moves.{move_outcome}

-- The history after a call: it changes only where the call is accepted.
abbrev pub if_accepted : Result (Unit {0}) CallRefusal → List Entry → List Entry → List Entry
if_accepted (Ok u) new old = new
if_accepted (Err r) new old = old

-- The entries that bytes spell; bytes that spell none are passed over.
abbrev pub with_entry : Option Entry → List Entry → List Entry
with_entry None es = es
with_entry (Some e) es = e ∷ es

abbrev pub entries_read : List RawEntry → List Entry
entries_read [] = []
entries_read (r ∷ rs) = with_entry (entry_read r.kind r.id r.branch) (entries_read rs)

abbrev pub record_entries : Option RawCase → List Entry
record_entries None = []
record_entries (Some c) = entries_read c.entries

abbrev pub line_entries : List ℕ → List Entry
line_entries line = record_entries (case_in line)

abbrev pub opened_history : List Entry
opened_history = []

-- A load begins with the entries of its line if it is accepted, and with none otherwise.
abbrev pub loaded_history : List ℕ → CaseView → List Entry
loaded_history line v = if_accepted (load_outcome line v).answer (line_entries line) []

-- A step adds its entry at the end.
abbrev pub stepped_history : Entry → CaseView → List Entry → List Entry
stepped_history e v H = if_accepted (step_outcome e v).answer (H ++ e ∷ []) H

-- Again takes the entries of the nodes between the loop's start and its end out.
abbrev pub repeated_history : ℕ → ℕ → ℕ → CaseView → List Entry → List Entry
repeated_history cost i free v H = if_accepted (again_outcome cost i free v).answer (outside (in_round v.progress.schema.row i) H) H

-- A move leaves the history as it is, accepted or refused.
abbrev pub moved_history : CaseView → List Entry → List Entry
moved_history v H = H

-- The free places that a purge may leave: it takes no more than it costs, and leaves room for what stays.
pub record Leaves (cost i free : ℕ) (S : SchemaParts) (s : StoreView) : Type 0 where
  pub cheap : s.free ≤ free + cost
  pub within : free + length (outside (in_round S.row i) s.list) ≤ s.capacity

-- A life begins by opening or loading, on any schema that passed the checks, whatever number, facts, store and worklist were
-- before; it goes on with steps, agains and moves by released plans, accepted or refused.
pub data Life (cost : ℕ) : List Entry → CaseView → Type 0 where
  opens : (v : CaseView) (n : ℕ) → Admitted v.progress.schema → Life cost opened_history (opened n v)
  loads : (v : CaseView) (line : List ℕ) → Admitted v.progress.schema → Life cost (loaded_history line v) (load_outcome line v).after
  steps : {H : List Entry} {v : CaseView} (e : Entry) → Life cost H v → Life cost (stepped_history e v H) (step_outcome e v).after
  repeats : {H : List Entry} {v : CaseView} (i free : ℕ) → ((again_outcome cost i free v).answer ≡ Ok tt → Leaves cost i free v.progress.schema v.store) → Life cost H v
      → Life cost (repeated_history cost i free v H) (again_outcome cost i free v).after
  moves : {H : List Entry} {v : CaseView} (p : PlanParts) → Released p → Life cost H v → Life cost (moved_history v H) (move_outcome p v).after
