-- What an exact result says in terms of the writing.
use Rattle.std.proofs.Common.{◌≡◌, ℕ, ◌<◌, List, get_or, Some, None, Err, sym, ◌∙◌}
use Rattle.record.specs.Hex.{Spelling, decoded}
use Rattle.record.specs.declared.Malformed.{Malformed}
use Rattle.record.specs.Readings.{ReadsTo}
use Rattle.record.specs.Records.{DecodesTo}
use Rattle.record.specs.SchemaRecords.{RawSchema, Writable, Writing, schema_bytes, read_schema}
use Rattle.record.proofs.Inverses.{never, decoding_inverts_hex}
use Rattle.record.proofs.Formats.{none_written, some_written}
use Rattle.record.proofs.Writings.{read_from_written, written_from_read}

pub spells_none : (line : List ℕ) → None ≡ decoded line → (bs : List ℕ) → Spelling line bs → ⊥
spells_none line e bs h = never (e ∙ (decoding_inverts_hex line bs).1 h)

pub spells_some : (line bs : List ℕ) → Some bs ≡ decoded line → Spelling line bs
spells_some line bs e = (decoding_inverts_hex line bs).0 (sym e)

pub decodes_to_none : (line : List ℕ) → None ≡ decoded line → (e : Malformed) → DecodesTo line (Err e)
decodes_to_none line none e = record { value = none; spelled = spells_none line none }

pub writes_none : (bs : List ℕ) → None ≡ read_schema bs → (s : RawSchema) → Writing bs s → ⊥
writes_none = none_written read_schema schema_bytes Writable read_from_written written_from_read

pub writes_some : (bs : List ℕ) (s : RawSchema) → ((i : ℕ) → get_or bs i 0 < 256) → Some s ≡ read_schema bs → Writing bs s
writes_some = some_written read_schema schema_bytes Writable read_from_written written_from_read

pub reads_to_none : (bs : List ℕ) → None ≡ read_schema bs → (e : Malformed) → ReadsTo bs (Err e)
reads_to_none bs none e = record { value = none; whole = tt; written = writes_none bs none }
