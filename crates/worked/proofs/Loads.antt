-- Loading entries that are steps, over a store with places for them. Assumes nothing.
use Rattle.std.proofs.Common.{◌≡◌, ℕ, ◌+◌, ◌-◌, ◌<◌, ◌≤◌, cond, eqb, List, [], ◌∷◌, ◌++◌, length, set, false, Some, Ok, refl, ap, ◌∙◌, arith}
use Rattle.std.proofs.lemmas.Bool.{ne_eqb}
use Rattle.model.specs.declared.Entry.{Entry}
use Rattle.model.specs.declared.Entry.TheVariants.{Start, End, Choose, Leave}
use Rattle.model.specs.declared.Fact.{Fact}
use Rattle.model.specs.Entries.{entry_id, entry_kind, branch_byte, entry_read, fact_set}
use Rattle.schema.specs.Checks.{SchemaParts}
use Rattle.case_record.specs.declared.RawEntry.{RawEntry}
use Rattle.runs.specs.Steps.{step_in}
use Rattle.agreement.specs.Laws.{facts_after}
use Rattle.history.specs.Stores.{StoreView, refusal}
use Rattle.lives.specs.Calls.{held, by_store, by_schema, taken, and_then, entries_taken}

-- the bytes of entries
abbrev pub bytes_of : Entry → RawEntry
bytes_of e = record { kind = entry_kind e; id = entry_id e; branch = branch_byte e }

abbrev pub all_bytes : List Entry → List RawEntry
all_bytes [] = []
all_bytes (e ∷ es) = bytes_of e ∷ all_bytes es

-- an entry's bytes spell it
spells : (e : Entry) → entry_read (entry_kind e) (entry_id e) (branch_byte e) ≡ Some e
spells (Start i) = refl
spells (End i) = refl
spells (Choose i b) = refl
spells (Leave i) = refl

-- the store with these entries more, put in one by one
abbrev more : Entry → StoreView → StoreView
more e s = record { list = s.list ++ e ∷ []; free = s.free - 1; capacity = s.capacity }

abbrev pub stored : List Entry → StoreView → StoreView
stored [] s = s
stored (e ∷ es) s = stored es (more e s)

module _ (S : SchemaParts) where
  -- each entry is a step behind those before it
  abbrev pub AreSteps : List Fact → List Entry → Type 0
  AreSteps fs [] = Unit {0}
  AreSteps fs (e ∷ es) = (step_in S fs e ≡ Ok (set fs (entry_id e) (fact_set e))) × AreSteps (set fs (entry_id e) (fact_set e)) es

  -- the first entry of a record is taken, if it is a step and a place is free
  first_taken : (p : ℕ) (e : Entry) (rs : List RawEntry) (fs gs : List Fact) (s : StoreView) → step_in S fs e ≡ Ok gs → 0 < s.free
      → entries_taken S p (bytes_of e ∷ rs) (held fs s) ≡ entries_taken S (p + 1) rs (held gs (more e s))
  first_taken p e rs fs gs s step room =
      let f : eqb s.free 0 ≡ false = ne_eqb s.free 0 (λ z. omega (arith, z, room)) in
      ap (λ o. and_then (taken S p (bytes_of e) (held fs s) o) (entries_taken S (p + 1) rs)) (spells e)
      ∙ ap (λ o. and_then (by_schema (Some p) e s o) (entries_taken S (p + 1) rs)) step
      ∙ ap (λ b. and_then (by_store (Some p) e gs s (cond b refusal (Ok tt))) (entries_taken S (p + 1) rs)) f
      ∙ ap (λ b. entries_taken S (p + 1) rs (held gs (cond b s (more e s)))) f

  -- all are, if they are steps and there are places enough
  pub all_taken : (es : List Entry) (p : ℕ) (fs : List Fact) (s : StoreView) → AreSteps fs es → length es ≤ s.free
      → entries_taken S p (all_bytes es) (held fs s) ≡ Ok (held (facts_after fs es) (stored es s))
  all_taken [] p fs s a l = refl
  all_taken (e ∷ es) p fs s a l =
      first_taken p e (all_bytes es) fs (set fs (entry_id e) (fact_set e)) s a.0 (omega arith)
      ∙ all_taken es (p + 1) (set fs (entry_id e) (fact_set e)) (more e s) a.1 (omega arith)
