-- What is written of a schema is read as the schema. Assumes nothing.
use Rattle.std.proofs.Common.{◌≡◌, ℕ, ◌+◌, ◌<◌, Bool, true, false, cond, not, List, [], ◌∷◌, ◌++◌, map, is_some, is_ok, Some, None, Ok, Err, Option, Result, sym, refl, ap, ◌∙◌, subst, inl, inr, arith}
use Rattle.std.proofs.lemmas.List.{append-nil, append_assoc, length-map}
use Rattle.std.proofs.lemmas.Bool.{and_parts}
use Rattle.model.specs.declared.Element.{Element}
use Rattle.model.specs.declared.Edge.{Edge}
use Rattle.model.specs.declared.Element.TheVariants.{Activity, AndSplit, Bar, AndJoin, XorSplit, XorJoin, LoopStart, LoopEnd}
use Rattle.model.specs.declared.refusal.SchemaRefusal.TheVariants as refusal
use Rattle.model.specs.Elements.{node_id, kind_byte, id_byte, LowId, BytesOf}
use Rattle.model.specs.Rows.{Bears}
use Rattle.model.proofs.Bytes.{is_read}
use Rattle.blocks.specs.Blocks.{fault}
use Rattle.edges.specs.Verdicts.{edges_verdict}
use Rattle.record.specs.Hex.{decoded}
use Rattle.record.specs.SchemaRecords.{schema_bytes, read_decoded}
use Rattle.record.proofs.Writings.{read_from_written}
use Rattle.schema.specs.Reading.{row_taken, row_read, edge_of}
use Rattle.schema.specs.Checks.{SchemaParts, Admitted, over, edges_of, by_edges, by_blocks, by_row, by_record, schema_read}
use Rattle.schema.specs.Causes.{Fine}
use Rattle.schema.proofs.Checked.{checked_fine, no_fault, edges_fine}
use Rattle.schema.proofs.Onlys.{unique_front}
use Rattle.schema.proofs.Rights.{decides_large}
use Rattle.schema.proofs.Wrongs.{not_reused, among_right}
use Rattle.outline.specs.Sayings.{element_bytes, edge_bytes, raw_of}

low : (x : Element) → ((u : ℕ) → Bears x u → u < 64) → LowId (node_id x)
low (Activity i) h = h i refl
low AndSplit h = tt
low Bar h = tt
low AndJoin h = tt
low (XorSplit i) h = h i refl
low XorJoin h = tt
low LoopStart h = tt
low (LoopEnd i) h = h i refl

-- The elements are read one by one.
row_again : (front xs : List Element) (p : ℕ) → Fine (front ++ xs) → row_read front p (map element_bytes xs) ≡ Ok (front ++ xs)
row_again front [] p f = ap (λ r. Ok r) (sym (append-nil front))
row_again front (x ∷ xs) p f =
    let free = not_reused front x (unique_front front x xs f.0) in
    let is : BytesOf (kind_byte x) (id_byte x) x = (refl, refl, low x (λ u b. f.1 u (among_right front (x ∷ xs) u (inl b)))) in
    let same = append_assoc front (x ∷ []) xs in
    ap (λ v. row_taken front p v (λ r. row_read r (p + 1) (map element_bytes xs))) (is_read (kind_byte x) (id_byte x) x is)
    ∙ ap (λ v. cond v (Err p) (row_read (front ++ x ∷ []) (p + 1) (map element_bytes xs))) free
    ∙ row_again (front ++ x ∷ []) xs (p + 1) (subst Fine (sym same) f)
    ∙ ap (λ r. Ok r) same

edges_again : (es : List Edge) → map edge_of (map edge_bytes es) ≡ es
edges_again [] = refl
edges_again (e ∷ es) = ap (λ fs. e ∷ fs) (edges_again es)

module _ (s : SchemaParts) (a : Admitted s) where
  -- Its record passes the checks.
  by_row_again : by_row s.version (edges_of (raw_of s)) (row_read [] 0 (map element_bytes s.row)) ≡ Ok s
  by_row_again =
      ap (by_row s.version (edges_of (raw_of s))) (row_again [] s.row 0 (checked_fine s.row s.edges a.passed))
      ∙ ap (λ es. by_blocks s.version s.row es (fault [] 0 s.row)) (edges_again s.edges)
      ∙ ap (by_blocks s.version s.row s.edges) (no_fault s.row s.edges a.passed)
      ∙ ap (by_edges s.version s.row s.edges) (edges_fine s.row s.edges a.passed)

  within : (b : Bool) → over (raw_of s) ≡ b
      → cond b (Err refusal.Size) (by_row s.version (edges_of (raw_of s)) (row_read [] 0 (map element_bytes s.row))) ≡ Ok s
  within true e =
      absurd (elim ((decides_large (raw_of s)).0 e) [
        | inl h ↦ omega (arith, h, length-map s.row element_bytes, a.few)
        | inr h ↦ omega (arith, h, length-map s.edges edge_bytes, a.few_edges)
      ])
  within false e = by_row_again

  pub read_again : (line : List ℕ) → decoded line ≡ Some (schema_bytes (raw_of s)) → schema_read line ≡ Ok s
  read_again line e =
      ap (λ o. by_record (read_decoded o)) e
      ∙ ap by_record (read_from_written (raw_of s))
      ∙ within (over (raw_of s)) refl
