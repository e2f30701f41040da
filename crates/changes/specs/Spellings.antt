-- The four bytes of a change. Assumes nothing.
use Rattle.std.specs.Prelude.{◌≡◌, ℕ, cond, Some, None, Option, Ok, Err, Result, ok_or, ◌==◌}
use Rattle.model.specs.declared.Edge.{Edge}
use Rattle.model.specs.declared.Unspelled.{Unspelled}
use Rattle.plan_record.specs.declared.RawChange.{RawChange}
use Rattle.plan_record.specs.Changes.{change_of}
use Rattle.changes.specs.declared.Change.{Change}
use Rattle.changes.specs.declared.Change.TheVariants.{DropEdge, Delete, Insert, InsertBeside, AddEdge}

-- Its bytes: kind, a, b and c; those that it does not use are FF.
abbrev pub bytes_of : Change → RawChange
bytes_of (DropEdge e) = change_of 1 e.source e.target 255
bytes_of (Delete a) = change_of 2 a 255 255
bytes_of (Insert a g) = change_of 3 a g 255
bytes_of (InsertBeside a b c) = change_of 4 a b c
bytes_of (AddEdge e) = change_of 5 e.source e.target 255

-- Bytes are taken as a change exactly if they are its bytes.
abbrev pub ChangeSpells : RawChange → Result Change Unspelled → Type 0
ChangeSpells raw (Ok c) = raw ≡ bytes_of c
ChangeSpells raw (Err e) = (c : Change) → raw ≡ bytes_of c → ⊥

abbrev pub unused : ℕ → Option Change → Option Change
unused byte c = cond (byte == 255) c None

abbrev pub edge : ℕ → ℕ → Edge
edge a b = record { source = a; target = b }

-- The change that four bytes spell, by its kind.
abbrev pub bytes_read : ℕ → ℕ → ℕ → ℕ → Option Change
bytes_read kind a b c =
    cond (kind == 1) (unused c (Some (DropEdge (edge a b))))
    (cond (kind == 2) (unused b (unused c (Some (Delete a))))
    (cond (kind == 3) (unused c (Some (Insert a b)))
    (cond (kind == 4) (Some (InsertBeside a b c))
    (cond (kind == 5) (unused c (Some (AddEdge (edge a b)))) None))))

-- What the conversion of the bytes answers.
abbrev pub change_read : RawChange → Result Change Unspelled
change_read raw = ok_or (bytes_read raw.kind raw.a raw.b raw.c) (record {})
