-- The checks of a schema, in their order. Assumes nothing.
--   SchemaParts       what a schema consists of
--   passes            whether a row and its edges pass the checks
--   Admitted          a schema that is within the limits and passed them
--   schema_of_parts   the schema of these parts, if they pass
--   schema_checked    the schema of a record, or why it is refused
--   schema_read       the schema of a line, or why it is refused
use Rattle.std.specs.Prelude.{◌≡◌, ℕ, ◌≤◌, Bool, true, cond, not, ◌&&◌, ◌||◌, List, [], ◌∷◌, map, length, is_some, is_ok, Some, None, Ok, Err, Option, Result, nat_lt}
use Rattle.model.specs.declared.Element.{Element}
use Rattle.model.specs.declared.Edge.{Edge}
use Rattle.model.specs.declared.refusal.SchemaRefusal.{SchemaRefusal}
use Rattle.model.specs.declared.refusal.SchemaRefusal.TheVariants as refusal
use Rattle.model.specs.Elements.{node_id}
use Rattle.blocks.specs.Blocks.{fault}
use Rattle.edges.specs.Verdicts.{edges_verdict}
use Rattle.record.specs.SchemaRecords.{RawSchema, schema_in}
use Rattle.schema.specs.Reading.{used, row_read, edge_of}

pub record SchemaParts : Type 0 where
  pub version : ℕ
  pub row : List Element
  pub edges : List Edge

abbrev pub low_id : Option ℕ → Bool
low_id None = true
low_id (Some i) = nat_lt i 64

-- Ids end at 63, and each is used once.
abbrev pub distinct : List Element → Bool
distinct [] = true
distinct (x ∷ xs) = (low_id (node_id x) && not (used xs (node_id x))) && distinct xs

abbrev pub passes : List Element → List Edge → Bool
passes row es = distinct row && (not (is_some (fault [] 0 row)) && is_ok (edges_verdict row es))

-- The schema of these parts, if they pass the checks.
abbrev pub schema_of_parts : ℕ → List Element → List Edge → Option SchemaParts
schema_of_parts version row es = cond (passes row es) (Some (record { version = version; row = row; edges = es })) None

-- A schema that a reader admits: it is within the limits, and its row and edges pass.
pub record Admitted (S : SchemaParts) : Type 0 where
  pub few : length S.row ≤ 128
  pub few_edges : length S.edges ≤ 32
  pub passed : passes S.row S.edges ≡ true

-- Over 128 elements or 32 edges.
abbrev pub over : RawSchema → Bool
over raw = nat_lt 128 (length raw.elements) || nat_lt 32 (length raw.edges)

abbrev pub edges_of : RawSchema → List Edge
edges_of raw = map edge_of raw.edges

abbrev pub by_edges : ℕ → List Element → List Edge → Result (Unit {0}) (ℕ × ℕ) → Result SchemaParts SchemaRefusal
by_edges version row es (Ok u) = Ok (record { version = version; row = row; edges = es })
by_edges version row es (Err (p, s)) = Err (refusal.Edge p s)

abbrev pub by_blocks : ℕ → List Element → List Edge → Option ℕ → Result SchemaParts SchemaRefusal
by_blocks version row es None = by_edges version row es (edges_verdict row es)
by_blocks version row es (Some p) = Err (refusal.Block p)

abbrev pub by_row : ℕ → List Edge → Result (List Element) ℕ → Result SchemaParts SchemaRefusal
by_row version es (Ok row) = by_blocks version row es (fault [] 0 row)
by_row version es (Err p) = Err (refusal.Element p)

abbrev pub schema_checked : RawSchema → Result SchemaParts SchemaRefusal
schema_checked raw = cond (over raw) (Err refusal.Size) (by_row raw.version (edges_of raw) (row_read [] 0 raw.elements))

abbrev pub by_record : Option RawSchema → Result SchemaParts SchemaRefusal
by_record None = Err refusal.Line
by_record (Some raw) = schema_checked raw

abbrev pub schema_read : List ℕ → Result SchemaParts SchemaRefusal
schema_read line = by_record (schema_in line)
