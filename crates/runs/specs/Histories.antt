-- The run of a history from a record: entry by entry, each judged at its turn. Assumes nothing.
--   ran S fs p rs     the facts in which the run of the entries rs, from place p on, ends or stops, and the refusal
--   Spelled rs es     the raw entries are the bytes of the entries
--   RunTold S fs rs   what that means: all entries run, or the first at which the run stops;  RunOnly  nothing else does
use Rattle.std.specs.Prelude.{◌≡◌, ℕ, ◌+◌, List, [], ◌∷◌, ◌++◌, length, Some, None, Ok, Err, Option, Result}
use Rattle.model.specs.declared.Entry.{Entry}
use Rattle.model.specs.declared.Fact.{Fact}
use Rattle.model.specs.declared.refusal.StepRefusal.{StepRefusal}
use Rattle.model.specs.declared.refusal.CaseRefusal.{CaseRefusal}
use Rattle.model.specs.declared.refusal.CaseRefusal.TheVariants as case
use Rattle.model.specs.Entries.{EntryBytes, entry_read}
use Rattle.case_record.specs.declared.RawEntry.{RawEntry}
use Rattle.schema.specs.Checks.{SchemaParts}
use Rattle.runs.specs.Steps.{Allowed, Runs, judged}

pub record Ran : Type 0 where
  pub facts : List Fact
  pub refusal : Option CaseRefusal

abbrev pub ran_to : List Fact → Option CaseRefusal → Ran
ran_to fs r = record { facts = fs; refusal = r }

-- The facts after an entry's bytes are judged, or why they are refused.
abbrev pub judged_raw : SchemaParts → List Fact → RawEntry → Result (List Fact) StepRefusal
judged_raw S fs r = judged S fs (entry_read r.kind r.id r.branch)

abbrev pub stopped : ℕ → RawEntry → StepRefusal → CaseRefusal
stopped p r k = case.Step (Some p) r.id k

abbrev pub then_ran : List Fact → ℕ → RawEntry → Result (List Fact) StepRefusal → (List Fact → Ran) → Ran
then_ran fs p r (Ok gs) rest = rest gs
then_ran fs p r (Err k) rest = ran_to fs (Some (stopped p r k))

abbrev pub ran : SchemaParts → List Fact → ℕ → List RawEntry → Ran
ran S fs p [] = ran_to fs None
ran S fs p (r ∷ rs) = then_ran fs p r (judged_raw S fs r) (λ gs. ran S gs (p + 1) rs)

-- The answer of the call.
abbrev pub verdict : Option CaseRefusal → Result (Unit {0}) CaseRefusal
verdict None = Ok tt
verdict (Some r) = Err r

abbrev pub Spelled : List RawEntry → List Entry → Type 0
Spelled [] [] = Unit {0}
Spelled [] (e ∷ es) = ⊥
Spelled (r ∷ rs) [] = ⊥
Spelled (r ∷ rs) (e ∷ es) = EntryBytes r.kind r.id r.branch e × Spelled rs es

-- The entries before place p run, from the facts fs to the facts gs, and the one at p is no step that is allowed then.
pub record Stops (S : SchemaParts) (fs gs : List Fact) (rs : List RawEntry) (p : ℕ) : Type 0 where
  pub front : List RawEntry
  pub here : RawEntry
  pub rest : List RawEntry
  pub entries : List Entry
  pub parted : rs ≡ front ++ (here ∷ rest)
  pub place : length front ≡ p
  pub spelled : Spelled front entries
  pub runs : Runs S fs entries gs
  pub refused : (e : Entry) → EntryBytes here.kind here.id here.branch e → Allowed S gs e → ⊥

-- All entries run.
pub record Goes (S : SchemaParts) (fs gs : List Fact) (rs : List RawEntry) : Type 0 where
  pub entries : List Entry
  pub spelled : Spelled rs entries
  pub runs : Runs S fs entries gs

-- The id that is told is that of the entry at the place that is told.
abbrev pub Told : SchemaParts → List Fact → List RawEntry → List Fact → Option CaseRefusal → Type 0
Told S fs rs gs None = Goes S fs gs rs
Told S fs rs gs (Some case.Line) = ⊥
Told S fs rs gs (Some (case.Step None id k)) = ⊥
Told S fs rs gs (Some (case.Step (Some p) id k)) = (s : Stops S fs gs rs p) × (id ≡ s.here.id)

abbrev pub RunTold : SchemaParts → List Fact → List RawEntry → Ran → Type 0
RunTold S fs rs n = Told S fs rs n.facts n.refusal

-- No other outcome is right: entries that run, run to these facts.
abbrev pub RunOnly : SchemaParts → List Fact → List RawEntry → Ran → Type 0
RunOnly S fs rs n = (es : List Entry) (gs : List Fact) → Spelled rs es → Runs S fs es gs → n ≡ ran_to gs None
