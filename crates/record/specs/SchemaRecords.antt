-- A schema record: what it says, its writing and its reading.
use Rattle.std.specs.Prelude.{◌≡◌, ℕ, ◌+◌, ◌*◌, ◌/◌, ◌%◌, ◌<◌, cond, ◌&&◌, List, [], ◌∷◌, ◌++◌, length, take, drop, Some, None, Option, ◌==◌, nat_le}
use Rattle.std.specs.List.{AllByRecursion}
use Rattle.record.specs.Hex.{Byte, hex, decoded}
use Rattle.record.specs.Pairs.{pairs, unpaired}

-- what a schema record says: kind and id of each element, source and target of each edge
pub record RawSchema : Type 0 where
  pub version : ℕ
  pub elements : List (ℕ × ℕ)
  pub edges : List (ℕ × ℕ)

-- its writing: type, version, count of elements, elements, count of edges, edges
abbrev pub schema_bytes : RawSchema → List ℕ
schema_bytes s =
    1 ∷ s.version / 256 ∷ s.version % 256 ∷ length s.elements
    ∷ (unpaired s.elements ++ (length s.edges ∷ unpaired s.edges))

-- its writing as a line
abbrev pub schema_line : RawSchema → List ℕ
schema_line s = hex (schema_bytes s)

-- both of a pair are bytes
abbrev pub BytePair : ℕ × ℕ → Type 0
BytePair p = Byte p.0 × Byte p.1

-- what its fields have room for
pub record Writable (s : RawSchema) : Type 0 where
  pub version : s.version < 65536
  pub few_elements : length s.elements < 256
  pub few_edges : length s.edges < 256
  pub elements : AllByRecursion BytePair s.elements
  pub edges : AllByRecursion BytePair s.edges

-- the bytes are the writing of what they say
abbrev pub Writing : List ℕ → RawSchema → Type 0
Writing bs s = Writable s × (bs ≡ schema_bytes s)

-- the bytes of the edges, which are all that follows their count
abbrev pub edges_in : List ℕ → Option (List ℕ)
edges_in [] = None
edges_in (n ∷ es) = cond (length es == 2 * n) (Some es) None

-- the schema of a version and the bytes of its elements, if those of its edges are there
abbrev pub with_edges : ℕ → List ℕ → Option (List ℕ) → Option RawSchema
with_edges v xs None = None
with_edges v xs (Some es) = Some (record { version = v; elements = pairs xs; edges = pairs es })

-- the schema in a record's bytes; none if they are of another type or not just as many as the counts say
abbrev pub read_schema : List ℕ → Option RawSchema
read_schema [] = None
read_schema (t ∷ []) = None
read_schema (t ∷ hi ∷ []) = None
read_schema (t ∷ hi ∷ lo ∷ []) = None
read_schema (t ∷ hi ∷ lo ∷ n ∷ rest) =
    cond (t == 1 && nat_le (2 * n) (length rest))
    (with_edges (hi * 256 + lo) (take (2 * n) rest) (edges_in (drop (2 * n) rest)))
    None

-- the schema in a record that may have been refused
abbrev pub read_decoded : Option (List ℕ) → Option RawSchema
read_decoded None = None
read_decoded (Some bs) = read_schema bs

-- the whole reading of a line's characters
abbrev pub schema_in : List ℕ → Option RawSchema
schema_in line = read_decoded (decoded line)
