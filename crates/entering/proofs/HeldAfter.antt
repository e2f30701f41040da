-- What is held when entries are taken, entry by entry. Assumes nothing.
use Rattle.std.proofs.Common.{◌≡◌, ℕ, ◌+◌, List, ◌∷◌, Result, ap, ◌∙◌}
use Rattle.model.specs.Entries.{entry_read}
use Rattle.schema.specs.Checks.{SchemaParts}
use Rattle.case_record.specs.declared.RawEntry.{RawEntry}
use Rattle.lives.specs.declared.CallRefusal.{CallRefusal}
use Rattle.lives.specs.Calls.{Held, taken}
use Rattle.entering.specs.Changes.{by_taken, held_after}

-- the first of these entries is taken, or refused
pub held_first : (S : SchemaParts) (h : Held) (p : ℕ) (r : RawEntry) (rs rest : List RawEntry) → rs ≡ r ∷ rest → (o : Result Held CallRefusal)
    → taken S p r h (entry_read r.kind r.id r.branch) ≡ o → held_after S p rs h ≡ by_taken h o (held_after S (p + 1) rest)
held_first S h p r rs rest e o t = ap (λ l. held_after S p l h) e ∙ ap (λ q. by_taken h q (held_after S (p + 1) rest)) t
