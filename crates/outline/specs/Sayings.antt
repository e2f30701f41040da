-- What the record of a schema says, by which its line is written. Assumes nothing.
--   raw_of    the version, the bytes of the elements and of the edges
use Rattle.std.specs.Prelude.{ℕ, map}
use Rattle.model.specs.declared.Element.{Element}
use Rattle.model.specs.declared.Edge.{Edge}
use Rattle.model.specs.Elements.{kind_byte, id_byte}
use Rattle.record.specs.SchemaRecords.{RawSchema}
use Rattle.schema.specs.Checks.{SchemaParts}

abbrev pub element_bytes : Element → ℕ × ℕ
element_bytes x = (kind_byte x, id_byte x)

abbrev pub edge_bytes : Edge → ℕ × ℕ
edge_bytes e = (e.source, e.target)

abbrev pub raw_of : SchemaParts → RawSchema
raw_of s = record { version = s.version; elements = map element_bytes s.row; edges = map edge_bytes s.edges }
