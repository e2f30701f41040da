-- The answer to a line is the one that the rules give. Assumes nothing.
use Rattle.std.proofs.Common.{◌≡◌, ℕ, Bool, true, false, cond, List, [], length, Some, None, Ok, Err, Decides, Option, Result, sym, refl, ◌∙◌, inl, inr}
use Rattle.std.proofs.lemmas.Bool.Decides.{Decides-ltb, Decides-or, not_from_Decides}
use Rattle.model.specs.declared.Element.{Element}
use Rattle.model.specs.declared.Edge.{Edge}
use Rattle.model.specs.declared.refusal.SchemaRefusal.TheVariants as refusal
use Rattle.model.specs.Trees.{Seq}
use Rattle.blocks.specs.Blocks.{fault}
use Rattle.blocks.proofs.FirstFaults.{first}
use Rattle.blocks.proofs.RowsOfTrees.{tells_ok}
use Rattle.edges.specs.Verdicts.{edges_verdict}
use Rattle.edges.proofs.OrderTold.{tells, leaves}
use Rattle.record.specs.SchemaRecords.{RawSchema, schema_in}
use Rattle.record.proofs.Inverses.{never}
use Rattle.record.proofs.Writings.{reading_inverts_writing}
use Rattle.schema.specs.Reading.{row_read}
use Rattle.schema.specs.Checks.{over, edges_of, by_edges, by_blocks, by_row, schema_checked, by_record, schema_read}
use Rattle.schema.specs.Causes.{Large, SpelledRow, TreeOf, Rightly, ReadRightly}
use Rattle.schema.proofs.Wrongs.{read_fine, read_wrong}

pub decides_large : (raw : RawSchema) → Decides (over raw) (Large raw)
decides_large raw = Decides-or _ _ (Decides-ltb 128 (length raw.elements)) (Decides-ltb 32 (length raw.edges))

module _ (raw : RawSchema) where
  abbrev es : List Edge
  es = edges_of raw

  right_edges : (row : List Element) (s : SpelledRow raw row) (t : Seq) → TreeOf row t → (v : Result (Unit {0}) (ℕ × ℕ)) → v ≡ edges_verdict row es → Rightly raw (by_edges raw.version row es v)
  right_edges row s t is (Ok u) e =
      let free = leaves row es (Ok u) e t is.is s.fine.0 s.fine.1 in
      record {
        version = refl;
        row = s;
        tree = t;
        nested = is;
        listed = refl;
        edges = tells row es (Ok u) e t is.is s.fine.0 s.fine.1;
        acyclic = free.0;
        ranked = free.1;
      }
  right_edges row s t is (Err (p, k)) e = (row, t, s, is, tells row es (Err (p, k)) e t is.is s.fine.0 s.fine.1)

  right_blocks : (row : List Element) → SpelledRow raw row → (o : Option ℕ) → fault [] 0 row ≡ o → Rightly raw (by_blocks raw.version row es o)
  right_blocks row s None e =
      let n = tells_ok row e in
      right_edges row s n.0 (record { wide = n.1; is = n.2 }) (edges_verdict row es) refl
  right_blocks row s (Some p) e = (row, s, first row p e)

  right_row : (Large raw → ⊥) → (r : Result (List Element) ℕ) → row_read [] 0 raw.elements ≡ r → Rightly raw (by_row raw.version es r)
  right_row small (Ok row) e =
      let f = read_fine raw.elements row e in
      right_blocks row (record { small = small; spelled = f.0; fine = f.1 }) (fault [] 0 row) refl
  right_row small (Err p) e = (small, read_wrong raw.elements p e)

  right_size : (b : Bool) → over raw ≡ b → Rightly raw (cond b (Err refusal.Size) (by_row raw.version es (row_read [] 0 raw.elements)))
  right_size true e = (decides_large raw).0 e
  right_size false e = right_row (not_from_Decides _ (decides_large raw) e) (row_read [] 0 raw.elements) refl

  pub rightly : Rightly raw (schema_checked raw)
  rightly = right_size (over raw) refl

pub read_rightly : (line : List ℕ) → ReadRightly line (schema_read line)
read_rightly line = go (schema_in line) refl
  where
    go : (o : Option RawSchema) → schema_in line ≡ o → ReadRightly line (by_record o)
    go None e = inl (λ raw h. never (sym e ∙ (reading_inverts_writing line raw).1 h), refl)
    go (Some raw) e = inr (raw, (reading_inverts_writing line raw).0 e, rightly raw)
