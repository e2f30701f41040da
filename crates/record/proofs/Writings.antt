-- Reading a schema record inverts its writing.
use Rattle.std.proofs.Common.{◌≡◌, ℕ, ◌+◌, ◌*◌, ◌/◌, ◌%◌, ◌<◌, ◌≤◌, Bool, true, false, cond, ◌&&◌, eqb, leb, List, [], ◌∷◌, ◌++◌, length, take, drop, Some, None, Option, sym, refl, ap, ◌∙◌, subst, arith}
use Rattle.std.specs.List.{AllByRecursion}
use Rattle.std.proofs.ByRecursion.{All-append, All-take, All-drop}
use Rattle.std.proofs.lemmas.List.{take_at, drop_at, take-append-drop, length-append, length-take-le}
use Rattle.std.proofs.lemmas.Bool.{and_parts, cond-true, eqb-true, eq-eqb, leb-true, le-leb}
use Rattle.record.specs.Hex.{Byte}
use Rattle.record.specs.Pairs.{pairs, unpaired}
use Rattle.record.specs.SchemaRecords.{RawSchema, Writable, Writing, schema_bytes, edges_in, with_edges, read_schema, read_decoded}
use Rattle.record.specs.Laws.{ReadingInvertsWriting}
use Rattle.record.proofs.Inverses.{never}
use Rattle.record.proofs.Formats.{inverts}
use Rattle.record.proofs.Pairings.{paired, count_pairs, pairs_unpaired, unpaired_pairs, length_unpaired, all_pairs, all_unpaired}

edges_inverse : (ys es : List ℕ) → edges_in ys ≡ Some es → (m : ℕ) × (ys ≡ m ∷ es) × (length es ≡ 2 * m)
edges_inverse [] es e = never e
edges_inverse (m ∷ ys) es e = go (eqb (length ys) (2 * m)) refl e
  where
    go : (b : Bool) → eqb (length ys) (2 * m) ≡ b → cond b (Some ys) None ≡ Some es → (k : ℕ) × (m ∷ ys ≡ k ∷ es) × (length es ≡ 2 * k)
    go false eb j = never j
    go true eb j =
        let q : ys ≡ es = cc in
        (m, ap (λ zs. m ∷ zs) q, sym (ap length q) ∙ eqb-true _ _ eb)

-- the parts of a record, put together again
written : (hi lo m n : ℕ) (rest es : List ℕ) → hi < 256 → lo < 256 → n < 256 → AllByRecursion Byte rest →
    2 * n ≤ length rest → drop (2 * n) rest ≡ m ∷ es → length es ≡ 2 * m →
    Writing (1 ∷ hi ∷ lo ∷ n ∷ rest) (record { version = hi * 256 + lo; elements = pairs (take (2 * n) rest); edges = pairs es })
written hi lo m n rest es bh bl bn all room back long =
    let xs : List ℕ = take (2 * n) rest in
    let size : length xs ≡ 2 * n = length-take-le (2 * n) rest room in
    let high : hi ≡ (hi * 256 + lo) / 256 = omega arith in
    let low : lo ≡ (hi * 256 + lo) % 256 = omega arith in
    let first : n ≡ length (pairs xs) = sym (count_pairs xs n size) in
    let second : m ≡ length (pairs es) = sym (count_pairs es m long) in
    let front : xs ≡ unpaired (pairs xs) = sym (unpaired_pairs xs (paired xs n size)) in
    let end : es ≡ unpaired (pairs es) = sym (unpaired_pairs es (paired es m long)) in
    let last : AllByRecursion Byte (m ∷ es) = subst (AllByRecursion Byte) back (All-drop Byte (2 * n) rest all) in
    let whole : rest ≡ xs ++ (m ∷ es) = sym (take-append-drop (2 * n) rest) ∙ ap (λ zs. xs ++ zs) back in
    let tail : rest ≡ unpaired (pairs xs) ++ (length (pairs es) ∷ unpaired (pairs es)) = cc in
    let same : 1 ∷ hi ∷ lo ∷ n ∷ rest ≡ schema_bytes (record { version = hi * 256 + lo; elements = pairs xs; edges = pairs es }) = cc in (
      record {
        version = omega arith;
        few_elements = omega arith;
        few_edges = omega (arith, last.0);
        elements = all_pairs xs (All-take Byte (2 * n) rest all);
        edges = all_pairs es last.1;
      },
      same,
    )

pub written_from_read : (bs : List ℕ) (s : RawSchema) → AllByRecursion Byte bs → read_schema bs ≡ Some s → Writing bs s
written_from_read [] s all e = never e
written_from_read (t ∷ []) s all e = never e
written_from_read (t ∷ hi ∷ []) s all e = never e
written_from_read (t ∷ hi ∷ lo ∷ []) s all e = never e
written_from_read (t ∷ hi ∷ lo ∷ n ∷ rest) s all e = go (eqb t 1 && leb (2 * n) (length rest)) refl e
  where
    inside : t ≡ 1 → 2 * n ≤ length rest → (o : Option (List ℕ)) → edges_in (drop (2 * n) rest) ≡ o → with_edges (hi * 256 + lo) (take (2 * n) rest) o ≡ Some s → Writing (t ∷ hi ∷ lo ∷ n ∷ rest) s
    inside one room None eo j = never j
    inside one room (Some es) eo j =
        let split = edges_inverse (drop (2 * n) rest) es eo in
        let is : record { version = hi * 256 + lo; elements = pairs (take (2 * n) rest); edges = pairs es } ≡ s = cc in
        rw one (subst (Writing (1 ∷ hi ∷ lo ∷ n ∷ rest)) is
        (written hi lo split.0 n rest es all.1.0 all.1.1.0 all.1.1.1.0 all.1.1.1.1 room split.1 split.2))

    go : (b : Bool) → (eqb t 1 && leb (2 * n) (length rest)) ≡ b → cond b (with_edges (hi * 256 + lo) (take (2 * n) rest) (edges_in (drop (2 * n) rest))) None ≡ Some s → Writing (t ∷ hi ∷ lo ∷ n ∷ rest) s
    go false eb j = never j
    go true eb j =
        let tests = and_parts (eqb t 1) (leb (2 * n) (length rest)) eb in
        inside (eqb-true _ _ tests.0) (leb-true _ _ tests.1) (edges_in (drop (2 * n) rest)) refl j

pub read_from_written : (s : RawSchema) → read_schema (schema_bytes s) ≡ Some s
read_from_written s =
    let xs : List ℕ = unpaired s.elements in
    let ys : List ℕ = length s.edges ∷ unpaired s.edges in
    let n : ℕ = length s.elements in
    let size : length xs ≡ 2 * n = length_unpaired s.elements in
    let version : s.version / 256 * 256 + s.version % 256 ≡ s.version = omega arith in
    let room : 2 * n ≤ length (xs ++ ys) = simp length-append (omega arith) in
    let front : take (2 * n) (xs ++ ys) ≡ xs = take_at xs ys (2 * n) size in
    let back : drop (2 * n) (xs ++ ys) ≡ ys = drop_at xs ys (2 * n) size in
    let edges : edges_in ys ≡ Some (unpaired s.edges) = cond-true (eqb (length (unpaired s.edges)) (2 * length s.edges)) _ _ (eq-eqb _ _ (length_unpaired s.edges)) in
    rw (le-leb _ _ room, front, back, edges, version, pairs_unpaired s.elements, pairs_unpaired s.edges)

bytes_of_written : (s : RawSchema) → Writable s → AllByRecursion Byte (schema_bytes s)
bytes_of_written s w = (
  omega arith,
  (
    omega (arith, w.version),
    (
      omega arith,
      (
        w.few_elements,
        All-append Byte (unpaired s.elements) _ (all_unpaired s.elements w.elements) (w.few_edges, all_unpaired s.edges w.edges),
      ),
    ),
  ),
)

pub reading_inverts_writing : ReadingInvertsWriting
reading_inverts_writing = inverts read_schema schema_bytes Writable read_from_written written_from_read read_decoded refl (λ _. refl) (λ s. omega arith) bytes_of_written
