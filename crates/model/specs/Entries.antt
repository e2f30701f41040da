-- The bytes of a history's entry, its node, and what it needs and sets. Assumes nothing.
use Rattle.std.specs.Prelude.{◌≡◌, ℕ, cond, Some, None, Option, Ok, Err, Result, ok_or, ◌==◌}
use Rattle.model.specs.declared.Entry.{Entry}
use Rattle.model.specs.declared.Unspelled.{Unspelled}
use Rattle.model.specs.declared.Entry.TheVariants.{Start, End, Choose, Leave}
use Rattle.model.specs.declared.Fact.{Fact}
use Rattle.model.specs.declared.Fact.TheVariants.{Begun, Ended, Decided, Left}
use Rattle.model.specs.declared.State.{State}
use Rattle.model.specs.declared.State.TheVariants.{Activated, Running}

abbrev pub entry_id : Entry → ℕ
entry_id (Start i) = i
entry_id (End i) = i
entry_id (Choose i b) = i
entry_id (Leave i) = i

-- The kind byte of an entry.
abbrev pub entry_kind : Entry → ℕ
entry_kind (Start i) = 1
entry_kind (End i) = 2
entry_kind (Choose i b) = 3
entry_kind (Leave i) = 4

-- Its branch byte: the branch of a choice, FF for the others.
abbrev pub branch_byte : Entry → ℕ
branch_byte (Start i) = 255
branch_byte (End i) = 255
branch_byte (Choose i b) = b
branch_byte (Leave i) = 255

-- The three bytes are those of this entry.
abbrev pub EntryBytes : ℕ → ℕ → ℕ → Entry → Type 0
EntryBytes kind id branch e = (kind ≡ entry_kind e) × (id ≡ entry_id e) × (branch ≡ branch_byte e)

-- A kind byte, an id byte and a branch byte are taken as an entry exactly if they are its bytes.
abbrev pub EntrySpells : ℕ × ℕ × ℕ → Result Entry Unspelled → Type 0
EntrySpells bytes (Ok e) = EntryBytes bytes.0 bytes.1 bytes.2 e
EntrySpells bytes (Err z) = (e : Entry) → EntryBytes bytes.0 bytes.1 bytes.2 e → ⊥

abbrev pub without_branch : ℕ → Entry → Option Entry
without_branch branch e = cond (branch == 255) (Some e) None

abbrev pub entry_read : ℕ → ℕ → ℕ → Option Entry
entry_read kind id branch =
    cond (kind == 1) (without_branch branch (Start id))
    (cond (kind == 2) (without_branch branch (End id))
    (cond (kind == 3) (Some (Choose id branch))
    (cond (kind == 4) (without_branch branch (Leave id)) None)))

-- What the conversion of the three bytes answers.
abbrev pub entry_spelled : ℕ × ℕ × ℕ → Result Entry Unspelled
entry_spelled bytes = ok_or (entry_read bytes.0 bytes.1 bytes.2) (record {})

-- The state that a step needs its node to be in: a finish needs a Running activity, the others an Activated node.
abbrev pub needed : Entry → State
needed (Start i) = Activated
needed (End i) = Running
needed (Choose i b) = Activated
needed (Leave i) = Activated

-- The fact that it sets.
abbrev pub fact_set : Entry → Fact
fact_set (Start i) = Begun
fact_set (End i) = Ended
fact_set (Choose i b) = Decided b
fact_set (Leave i) = Left
