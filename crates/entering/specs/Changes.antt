-- What entering entries makes of facts and store. Assumes nothing.
--   Changed o h k r   of h it made k and answered r, where o is what it was to do
--   Reached S es h k r   taking these entries made k of h and answered r
use Rattle.std.specs.Prelude.{◌≡◌, ℕ, ◌+◌, List, [], ◌∷◌, Ok, Err, Result}
use Rattle.model.specs.Entries.{entry_read}
use Rattle.schema.specs.Checks.{SchemaParts}
use Rattle.case_record.specs.declared.RawEntry.{RawEntry}
use Rattle.lives.specs.declared.CallRefusal.{CallRefusal}
use Rattle.lives.specs.Calls.{Held, taken, entries_taken}

-- A refusal changes nothing.
abbrev pub Changed : Result Held CallRefusal → Held → Held → Result (Unit {0}) CallRefusal → Type 0
Changed o h k (Ok u) = o ≡ Ok k
Changed o h k (Err r) = (o ≡ Err r) × (k ≡ h)

-- A refusal ends the others.
abbrev pub by_taken : Held → Result Held CallRefusal → (Held → Held) → Held
by_taken h (Ok k) more = more k
by_taken h (Err r) more = h

-- What is held when the entries from place p on are taken, up to the first that is refused.
abbrev pub held_after : SchemaParts → ℕ → List RawEntry → Held → Held
held_after S p [] h = h
held_after S p (e ∷ es) h = by_taken h (taken S p e h (entry_read e.kind e.id e.branch)) (held_after S (p + 1) es)

-- A refusal leaves the entries that were taken before it.
abbrev pub Reached : SchemaParts → List RawEntry → Held → Held → Result (Unit {0}) CallRefusal → Type 0
Reached S es h k (Ok u) = entries_taken S 0 es h ≡ Ok k
Reached S es h k (Err r) = (entries_taken S 0 es h ≡ Err r) × (k ≡ held_after S 0 es h)
