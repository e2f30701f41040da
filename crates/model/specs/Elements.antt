-- The bytes of an element, and the node that it is. Assumes nothing.
use Rattle.std.specs.Prelude.{◌≡◌, ℕ, ◌<◌, cond, Some, None, Option, Ok, Err, Result, ok_or, ◌==◌, nat_lt}
use Rattle.model.specs.declared.Element.{Element}
use Rattle.model.specs.declared.Unspelled.{Unspelled}
use Rattle.model.specs.declared.Element.TheVariants.{Activity, AndSplit, Bar, AndJoin, XorSplit, XorJoin, LoopStart, LoopEnd}

-- The id of an activity, a decision or a test; other elements have none.
abbrev pub node_id : Element → Option ℕ
node_id (Activity i) = Some i
node_id AndSplit = None
node_id Bar = None
node_id AndJoin = None
node_id (XorSplit i) = Some i
node_id XorJoin = None
node_id LoopStart = None
node_id (LoopEnd i) = Some i

-- The kind byte of an element.
abbrev pub kind_byte : Element → ℕ
kind_byte (Activity i) = 1
kind_byte AndSplit = 2
kind_byte Bar = 3
kind_byte AndJoin = 4
kind_byte (XorSplit i) = 5
kind_byte XorJoin = 6
kind_byte LoopStart = 7
kind_byte (LoopEnd i) = 8

-- Its id byte: the id, or FF where it has none.
abbrev pub or_none : Option ℕ → ℕ
or_none None = 255
or_none (Some i) = i

abbrev pub id_byte : Element → ℕ
id_byte x = or_none (node_id x)

-- Ids end at 63.
abbrev pub LowId : Option ℕ → Type 0
LowId None = Unit {0}
LowId (Some i) = i < 64

-- The two bytes are those of this element.
abbrev pub BytesOf : ℕ → ℕ → Element → Type 0
BytesOf kind id x = (kind ≡ kind_byte x) × (id ≡ id_byte x) × LowId (node_id x)

-- A kind byte and an id byte are taken as an element exactly if they are its bytes.
abbrev pub Spells : ℕ × ℕ → Result Element Unspelled → Type 0
Spells bytes (Ok x) = BytesOf bytes.0 bytes.1 x
Spells bytes (Err e) = (x : Element) → BytesOf bytes.0 bytes.1 x → ⊥

-- An element with an id needs one up to 63, the others need FF.
abbrev pub with_id : ℕ → Element → Option Element
with_id id x = cond (nat_lt id 64) (Some x) None

abbrev pub without_id : ℕ → Element → Option Element
without_id id x = cond (id == 255) (Some x) None

-- The element that two bytes spell, by its kind.
abbrev pub bytes_read : ℕ → ℕ → Option Element
bytes_read kind id =
    cond (kind == 1) (with_id id (Activity id))
    (cond (kind == 2) (without_id id AndSplit)
    (cond (kind == 3) (without_id id Bar)
    (cond (kind == 4) (without_id id AndJoin)
    (cond (kind == 5) (with_id id (XorSplit id))
    (cond (kind == 6) (without_id id XorJoin)
    (cond (kind == 7) (without_id id LoopStart)
    (cond (kind == 8) (with_id id (LoopEnd id)) None)))))))

-- What the conversion of both bytes answers.
abbrev pub element_read : ℕ × ℕ → Result Element Unspelled
element_read bytes = ok_or (bytes_read bytes.0 bytes.1) (record {})
