-- No other answer to a line is right. Assumes nothing.
use Rattle.std.proofs.Common.{◌≡◌, ℕ, zero, suc, ◌+◌, ◌<◌, ◌≤◌, Bool, true, false, cond, List, [], ◌∷◌, ◌++◌, length, take, drop, Some, None, Ok, Err, Option, Result, sym, refl, ap, ◌∙◌, subst, inl, inr, ⊎_elim, arith}
use Rattle.std.proofs.lemmas.List.{append-nil, append_assoc}
use Rattle.std.proofs.lemmas.Bool.{cases_order}
use Rattle.model.specs.declared.Element.{Element}
use Rattle.model.specs.declared.Edge.{Edge}
use Rattle.model.specs.declared.refusal.SchemaRefusal.{SchemaRefusal}
use Rattle.model.specs.declared.refusal.SchemaRefusal.TheVariants as refusal
use Rattle.model.specs.Elements.{bytes_read}
use Rattle.model.specs.Rows.{Unique}
use Rattle.model.specs.Trees.{Seq, Nested, Extends, First}
use Rattle.model.specs.Paths.{Answer}
use Rattle.model.proofs.Bytes.{read_is, is_read}
use Rattle.blocks.specs.Blocks.{fault}
use Rattle.blocks.proofs.FirstFaults.{first}
use Rattle.blocks.proofs.RowsOfTrees.{tells_ok, tree_clean}
use Rattle.edges.specs.Verdicts.{edges_verdict}
use Rattle.edges.proofs.OrderTold.{tells}
use Rattle.record.specs.SchemaRecords.{RawSchema, schema_in}
use Rattle.record.proofs.Writings.{reading_inverts_writing}
use Rattle.schema.specs.Reading.{row_taken, row_read}
use Rattle.schema.specs.Checks.{SchemaParts, over, edges_of, by_edges, by_blocks, by_row, schema_checked, by_record, schema_read}
use Rattle.schema.specs.Causes.{Spells, Fine, Reused, Wrong, FirstWrong, Large, SpelledRow, TreeOf, EdgesAnswer, Rightly, ReadRightly}
use Rattle.schema.proofs.Wrongs.{not_reused, reused, among_right}
use Rattle.schema.proofs.Rights.{decides_large}

-- a row that is spelled without fault is read
pub unique_front : (xs : List Element) (x : Element) (ys : List Element) → Unique (xs ++ (x ∷ ys)) → Reused xs x → ⊥
unique_front [] x ys o (u, b, a) = elim a [ ]
unique_front (y ∷ xs) x ys o (u, b, inl a) = o.0 u a (among_right xs (x ∷ ys) u (inl b))
unique_front (y ∷ xs) x ys o (u, b, inr a) = unique_front xs x ys o.1 (u, b, a)

reads_on : (bs : List (ℕ × ℕ)) (xs row : List Element) (p : ℕ) (more : List (ℕ × ℕ)) → Spells bs xs → Unique (row ++ xs)
    → row_read row p (bs ++ more) ≡ row_read (row ++ xs) (p + length bs) more
reads_on [] [] row p more s o = ap (λ r. row_read r p more) (sym (append-nil row)) ∙ ap (λ n. row_read (row ++ []) n more) (omega arith)
reads_on [] (x ∷ xs) row p more s o = elim s [ ]
reads_on (b ∷ bs) [] row p more s o = elim s [ ]
reads_on (b ∷ bs) (x ∷ xs) row p more s o =
    let free = not_reused row x (unique_front row x xs o) in
    let same = append_assoc row (x ∷ []) xs in
    ap (λ v. row_taken row p v (λ r. row_read r (p + 1) (bs ++ more))) (is_read b.0 b.1 x s.0)
    ∙ ap (λ v. cond v (Err p) (row_read (row ++ x ∷ []) (p + 1) (bs ++ more))) free
    ∙ reads_on bs xs (row ++ x ∷ []) (p + 1) more s.1 (subst Unique (sym same) o)
    ∙ ap (λ r. row_read r (p + 1 + length bs) more) same
    ∙ ap (λ n. row_read (row ++ (x ∷ xs)) n more) (omega arith)

reads_all : (bs : List (ℕ × ℕ)) (xs : List Element) → Spells bs xs → Fine xs → row_read [] 0 bs ≡ Ok xs
reads_all bs xs s f = ap (row_read [] 0) (sym (append-nil bs)) ∙ reads_on bs xs [] 0 [] s f.0

stops_at : (row : List Element) (b : ℕ × ℕ) (rest : List (ℕ × ℕ)) (p : ℕ) → Wrong row b → row_read row p (b ∷ rest) ≡ Err p
stops_at row b rest p (inl none) = go (bytes_read b.0 b.1) refl
  where
    go : (o : Option Element) → bytes_read b.0 b.1 ≡ o → row_taken row p o (λ r. row_read r (p + 1) rest) ≡ Err p
    go None e = refl
    go (Some x) e = absurd (none x (read_is b.0 b.1 x e))
stops_at row b rest p (inr (x, of, again)) =
    ap (λ v. row_taken row p v (λ r. row_read r (p + 1) rest)) (is_read b.0 b.1 x of)
    ∙ ap (λ v. cond v (Err p) (row_read (row ++ x ∷ []) (p + 1) rest)) (reused row x again)

first_stops : (bs : List (ℕ × ℕ)) (p : ℕ) → FirstWrong bs p → row_read [] 0 bs ≡ Err p
first_stops bs p w =
    ap (row_read [] 0) w.parted
    ∙ reads_on w.front w.row [] 0 (w.here ∷ w.rest) w.spelled w.fine.0
    ∙ ap (λ n. row_read w.row n (w.here ∷ w.rest)) (let h = w.place in omega arith)
    ∙ stops_at w.row w.here w.rest p w.wrong

-- the first place that no continuation mends is one
take_take : {A : Type 0} (xs : List A) (m n : ℕ) → m ≤ n → (k : List A) × (take n xs ≡ take m xs ++ k)
take_take xs m n h = (drop m (take n xs), parts xs m n h)
  where
    parts : {A : Type 0} (xs : List A) (m n : ℕ) → m ≤ n → take n xs ≡ take m xs ++ drop m (take n xs)
    parts xs zero n h = refl
    parts xs (suc m) zero h = absurd (omega arith)
    parts [] (suc m) (suc n) h = refl
    parts (x ∷ xs) (suc m) (suc n) h = ap (λ zs. x ∷ zs) (parts xs m n (omega arith))

extends_less : (xs : List Element) (m n : ℕ) → m ≤ n → Extends (take n xs) → Extends (take m xs)
extends_less xs m n h (ys, e) =
    let k = take_take xs m n h in
    (k.0 ++ ys, subst Nested (ap (λ zs. zs ++ ys) k.1 ∙ append_assoc (take m xs) k.0 ys) e)

below : (xs : List Element) (p q : ℕ) → First xs p → First xs q → p < q → ⊥
below xs p q f g h =
    let within = g.within in
    f.bad (omega arith) (extends_less xs (suc p) q (omega arith) g.good)

one_first : (xs : List Element) (p q : ℕ) → First xs p → First xs q → p ≡ q
one_first xs p q f g = ⊎_elim (λ e. e) (⊎_elim (λ h. absurd (below xs p q f g h)) (λ h. absurd (below xs q p g f h))) (cases_order p q)

fault_first : (xs : List Element) (p : ℕ) → First xs p → fault [] 0 xs ≡ Some p
fault_first xs p f = go (fault [] 0 xs) refl
  where
    go : (o : Option ℕ) → fault [] 0 xs ≡ o → o ≡ Some p
    go None e = absurd (f.open_end (tells_ok xs e))
    go (Some q) e = ap (λ n. Some n) (one_first xs q p (first xs q e) f)

-- the rules give one answer on edges
one_answer : (Joins Before : ℕ → ℕ → Type 0) (es earlier : List Edge) (p : ℕ) (r q : Result (Unit {0}) (ℕ × ℕ))
    → Answer Joins Before earlier p es r → Answer Joins Before earlier p es q → r ≡ q
one_answer Joins Before [] earlier p r q a b = a ∙ sym b
one_answer Joins Before (e ∷ es) earlier p r q (inl (ok, a)) (inl (ok', b)) = one_answer Joins Before es (earlier ++ e ∷ []) (p + 1) r q a b
one_answer Joins Before (e ∷ es) earlier p r q (inl (ok, a)) (inr (bad, b)) = absurd (bad ok)
one_answer Joins Before (e ∷ es) earlier p r q (inr (bad, a)) (inl (ok, b)) = absurd (bad ok)
one_answer Joins Before (e ∷ es) earlier p r q (inr (bad, a)) (inr (bad', b)) = a ∙ sym b

module _ (raw : RawSchema) where
  abbrev es : List Edge
  es = edges_of raw

  sized : (b : Bool) → over raw ≡ b → (Large raw → ⊥) → schema_checked raw ≡ by_row raw.version es (row_read [] 0 raw.elements)
  sized true e small = absurd (small ((decides_large raw).0 e))
  sized false e small = ap (λ b. cond b (Err refusal.Size) (by_row raw.version es (row_read [] 0 raw.elements))) e

  spelled : (row : List Element) → SpelledRow raw row → schema_checked raw ≡ by_blocks raw.version row es (fault [] 0 row)
  spelled row s = sized (over raw) refl s.small ∙ ap (by_row raw.version es) (reads_all raw.elements row s.spelled s.fine)

  treed : (row : List Element) (t : Seq) → SpelledRow raw row → TreeOf row t → (r : Result (Unit {0}) (ℕ × ℕ)) → EdgesAnswer t es r → schema_checked raw ≡ by_edges raw.version row es r
  treed row t s is r a =
      spelled row s
      ∙ ap (by_blocks raw.version row es) (tree_clean row (t, is.wide, is.is))
      ∙ ap (by_edges raw.version row es)
      (one_answer _ _ es [] 0 (edges_verdict row es) r (tells row es (edges_verdict row es) refl t is.is s.fine.0 s.fine.1) a)

  pub only_checked : (q : Result SchemaParts SchemaRefusal) → Rightly raw q → schema_checked raw ≡ q
  only_checked (Ok s) h =
      treed s.row h.tree h.row h.nested (Ok tt) (subst (λ ds. EdgesAnswer h.tree ds (Ok tt)) h.listed h.edges)
      ∙ ap (λ (v : ℕ). Ok (record { version = v; row = s.row; edges = es })) (sym h.version)
      ∙ ap (λ (ds : List Edge). Ok (record { version = s.version; row = s.row; edges = ds })) (sym h.listed)
  only_checked (Err refusal.Line) h = elim h [ ]
  only_checked (Err refusal.Size) h = ap (λ b. cond b (Err refusal.Size) (by_row raw.version es (row_read [] 0 raw.elements))) ((decides_large raw).1 h)
  only_checked (Err (refusal.Element p)) h = sized (over raw) refl h.0 ∙ ap (by_row raw.version es) (first_stops raw.elements p h.1)
  only_checked (Err (refusal.Block p)) h = spelled h.0 h.1 ∙ ap (by_blocks raw.version h.0 es) (fault_first h.0 p h.2)
  only_checked (Err (refusal.Edge p k)) h = treed h.0 h.1 h.2 h.3 (Err (p, k)) h.4

pub only_read : (line : List ℕ) (q : Result SchemaParts SchemaRefusal) → ReadRightly line q → q ≡ schema_read line
only_read line q (inl (none, e)) = go (schema_in line) refl
  where
    go : (o : Option RawSchema) → schema_in line ≡ o → q ≡ by_record o
    go None i = e
    go (Some raw) i = absurd (none raw ((reading_inverts_writing line raw).0 i))
only_read line q (inr (raw, of, h)) = sym (ap by_record ((reading_inverts_writing line raw).1 of) ∙ only_checked raw q h)
