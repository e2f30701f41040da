-- Why a schema line is refused, in the words of the rules. Assumes nothing.
--   Spells bs xs       the pairs of bytes are those of the elements
--   Fine xs            ids end at 63, and each is used once
--   Wrong xs b         what is wrong with an element after those of xs
--   Rightly raw r      r is the answer to a record: the first cause that holds, or the schema
--   ReadRightly l r    the same for a line
use Rattle.std.specs.Prelude.{◌≡◌, ℕ, ◌<◌, ◌≤◌, ◌⊎◌, List, [], ◌∷◌, ◌++◌, length, Ok, Err, Result}
use Rattle.model.specs.declared.Element.{Element}
use Rattle.model.specs.declared.Edge.{Edge}
use Rattle.model.specs.declared.refusal.SchemaRefusal.{SchemaRefusal}
use Rattle.model.specs.declared.refusal.SchemaRefusal.TheVariants as refusal
use Rattle.model.specs.Elements.{BytesOf}
use Rattle.model.specs.Rows.{Bears, Among, Unique, Low, Precedes}
use Rattle.model.specs.Trees.{Seq, Wide, flatten, First}
use Rattle.model.specs.Relations.{Joins}
use Rattle.model.specs.Paths.{Answer, Acyclic, Ranked}
use Rattle.record.specs.SchemaRecords.{RawSchema, Writable, schema_line}
use Rattle.schema.specs.Checks.{SchemaParts, edges_of}

abbrev pub Spells : List (ℕ × ℕ) → List Element → Type 0
Spells [] [] = Unit {0}
Spells [] (x ∷ xs) = ⊥
Spells (b ∷ bs) [] = ⊥
Spells (b ∷ bs) (x ∷ xs) = BytesOf b.0 b.1 x × Spells bs xs

abbrev pub Fine : List Element → Type 0
Fine xs = Unique xs × Low xs

-- Some id of the element is that of an earlier one.
abbrev pub Reused : List Element → Element → Type 0
Reused xs x = (u : ℕ) × Bears x u × Among xs u

-- No element has its bytes, or one has and its id was used earlier.
abbrev pub Wrong : List Element → ℕ × ℕ → Type 0
Wrong xs b = ((x : Element) → BytesOf b.0 b.1 x → ⊥) ⊎ ((x : Element) × BytesOf b.0 b.1 x × Reused xs x)

-- The element at place p is wrong, and those before it are not.
pub record FirstWrong (bs : List (ℕ × ℕ)) (p : ℕ) : Type 0 where
  pub front : List (ℕ × ℕ)
  pub here : ℕ × ℕ
  pub rest : List (ℕ × ℕ)
  pub row : List Element
  pub parted : bs ≡ front ++ (here ∷ rest)
  pub place : length front ≡ p
  pub spelled : Spells front row
  pub fine : Fine row
  pub wrong : Wrong row here

-- Over 128 elements or 32 edges.
abbrev pub Large : RawSchema → Type 0
Large raw = (128 < length raw.elements) ⊎ (32 < length raw.edges)

-- Within the limits, the elements spell this row, and its ids are in order.
pub record SpelledRow (raw : RawSchema) (row : List Element) : Type 0 where
  pub small : Large raw → ⊥
  pub spelled : Spells raw.elements row
  pub fine : Fine row

-- The row of a tree whose AND and XOR blocks have 2 to 8 branches.
pub record TreeOf (row : List Element) (t : Seq) : Type 0 where
  pub wide : Wide t
  pub is : row ≡ flatten t

-- What the rules answer of the edges of a tree's row.
abbrev pub EdgesAnswer : Seq → List Edge → Result (Unit {0}) (ℕ × ℕ) → Type 0
EdgesAnswer t es r = Answer (Joins t) (Precedes t) [] 0 es r

-- A schema that passes: its edges close no cycle, and its nodes have an order that precedence and edges respect.
pub record Passed (raw : RawSchema) (s : SchemaParts) : Type 0 where
  pub version : s.version ≡ raw.version
  pub row : SpelledRow raw s.row
  pub tree : Seq
  pub nested : TreeOf s.row tree
  pub listed : s.edges ≡ edges_of raw
  pub edges : EdgesAnswer tree s.edges (Ok tt)
  pub acyclic : Acyclic (Precedes tree) s.edges
  pub ranked : Ranked (Precedes tree) s.edges

abbrev pub Rightly : RawSchema → Result SchemaParts SchemaRefusal → Type 0
Rightly raw (Ok s) = Passed raw s
Rightly raw (Err refusal.Line) = ⊥
Rightly raw (Err refusal.Size) = Large raw
Rightly raw (Err (refusal.Element p)) = (Large raw → ⊥) × FirstWrong raw.elements p
Rightly raw (Err (refusal.Block p)) = (row : List Element) × SpelledRow raw row × First row p
Rightly raw (Err (refusal.Edge p s)) =
    (row : List Element) × (t : Seq) × SpelledRow raw row × TreeOf row t × EdgesAnswer t (edges_of raw) (Err (p, s))

-- The line is the writing of this record, and short enough.
abbrev pub LineOf : List ℕ → RawSchema → Type 0
LineOf line raw = Writable raw × (line ≡ schema_line raw) × (length line ≤ 1024)

-- The line is refused as a line exactly if it is no record's writing; else the answer is that to its record.
abbrev pub ReadRightly : List ℕ → Result SchemaParts SchemaRefusal → Type 0
ReadRightly line r = (((raw : RawSchema) → LineOf line raw → ⊥) × (r ≡ Err refusal.Line)) ⊎ ((raw : RawSchema) × LineOf line raw × Rightly raw r)

-- No other answer is right: each is given exactly if its cause holds and no earlier one does.
abbrev pub OnlyRight : List ℕ → Result SchemaParts SchemaRefusal → Type 0
OnlyRight line r = (q : Result SchemaParts SchemaRefusal) → ReadRightly line q → q ≡ r
