-- A case that is loaded is what it would be if it had been opened before. Assumes nothing.
use Rattle.std.proofs.Common.{◌≡◌, ℕ, List, Some, None, Ok, Err, Option, Result, refl}
use Rattle.case_record.specs.CaseRecords.{RawCase, case_in}
use Rattle.agreement.specs.Laws.{no_facts}
use Rattle.history.specs.Stores.{cleared}
use Rattle.lives.specs.declared.CallRefusal.{CallRefusal}
use Rattle.lives.specs.Views.{CaseView}
use Rattle.lives.specs.Calls.{Held, held, entries_taken, by_entries, by_record, opened_on, load_outcome}

module _ (n : ℕ) (v : CaseView) where
  abbrev opened_first : CaseView
  opened_first = opened_on n v.progress.schema v.store

  by_entries_anew : (m : ℕ) (o : Result Held CallRefusal) → by_entries m v o ≡ by_entries m opened_first o
  by_entries_anew m (Ok h) = refl
  by_entries_anew m (Err r) = refl

  by_record_anew : (o : Option RawCase) → by_record v o ≡ by_record opened_first o
  by_record_anew None = refl
  by_record_anew (Some c) = by_entries_anew c.number (entries_taken v.progress.schema 0 c.entries (held no_facts (cleared v.store)))

  pub anew : (line : List ℕ) → load_outcome line v ≡ load_outcome line opened_first
  anew line = by_record_anew (case_in line)
