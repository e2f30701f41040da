-- What a schema record that was taken apart says.
use Rattle.std.specs.Prelude.{◌≡◌, ℕ, List, Option, Result, MatchOption, IfSome}
use Rattle.std.specs.Option.{option_map}
use Rattle.std.specs.Result.{result_ok}
use Rattle.record.specs.Pairs.{pairs, Paired}
use Rattle.record.specs.SchemaRecords.{RawSchema, Writing, read_schema}
use Rattle.record.specs.declared.Malformed.{Malformed}
use Rattle.record.specs.declared.schemas.SchemaRecord.{SchemaRecord}

-- its version, and its bytes as pairs
abbrev pub raw : SchemaRecord → RawSchema
raw s = record { version = s.version; elements = pairs s.elements.now; edges = pairs s.edges.now }

-- neither row ends in half a pair
abbrev pub Whole : SchemaRecord → Type 0
Whole s = Paired s.elements.now × Paired s.edges.now

-- accepted bytes are the writing of what was read, and refused ones are no schema's writing
abbrev pub Written : List ℕ → Option SchemaRecord → Type 0
Written bs r = MatchOption r ((s : RawSchema) → Writing bs s → ⊥) (λ x. Writing bs (raw x))

-- what reading bytes answers: the schema record that they are, whole, which inverts its writing
pub record ReadsTo (bs : List ℕ) (r : Result SchemaRecord Malformed) : Type 0 where
  pub value : option_map raw (result_ok r) ≡ read_schema bs
  pub whole : IfSome (result_ok r) Whole
  pub written : Written bs (result_ok r)
