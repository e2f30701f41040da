-- From a line's decoding to the answer. Assumes nothing.
use Rattle.std.proofs.Common.{◌≡◌, ℕ, Bool, true, false, cond, ◌||◌, eqb, ltb, leb, List, length, Some, None, Err, Option, sym, refl, ap, ◌∙◌, arith}
use Rattle.std.proofs.lemmas.Bool.Decides.{nat_tests}
use Rattle.record.proofs.Inverses.{never}
use Rattle.record.specs.Hex.{spelled}
use Rattle.record.specs.Lines.{Short, Overlong, held_of, whole_line}
use Rattle.model.specs.declared.refusal.SchemaRefusal.TheVariants as refusal
use Rattle.record.specs.Hex.{decoded}
use Rattle.record.specs.SchemaRecords.{RawSchema, read_schema, read_decoded}
use Rattle.schema.specs.Checks.{by_record, schema_read}

pub of_decoded : (line : List ℕ) (o : Option (List ℕ)) → o ≡ decoded line → by_record (read_decoded o) ≡ schema_read line
of_decoded line o e = ap (λ d. by_record (read_decoded d)) e

pub of_bytes : (line bs : List ℕ) (o : Option RawSchema) → Some bs ≡ decoded line → o ≡ read_schema bs → by_record o ≡ schema_read line
of_bytes line bs o e f = ap by_record f ∙ of_decoded line (Some bs) e

-- what a buffer holds of a line tells the answer
pub whole_held : (cs ds : List ℕ) → Some ds ≡ whole_line (held_of cs) → ds ≡ cs
whole_held cs ds e = go (leb (length cs) 1024) e
  where
    go : (b : Bool) → Some ds ≡ whole_line (cond b (Short cs) Overlong) → ds ≡ cs
    go true e = cc
    go false e = never (sym e)

pub part_held : (cs : List ℕ) → None ≡ whole_line (held_of cs) → Err refusal.Line ≡ schema_read cs
part_held cs e = of_decoded cs None (sym (go (leb (length cs) 1024) refl e))
  where
    long : (b : Bool) → ltb 1024 (length cs) ≡ true → cond (b || ltb 1024 (length cs)) None (spelled cs) ≡ None
    long true h = refl
    long false h = ap (λ v. cond v None (spelled cs)) h

    above : leb (length cs) 1024 ≡ false → ltb 1024 (length cs) ≡ true
    above h = grind (arith, nat_tests)

    go : (b : Bool) → leb (length cs) 1024 ≡ b → None ≡ whole_line (cond b (Short cs) Overlong) → decoded cs ≡ None
    go true h e = never e
    go false h e = long (eqb (length cs) 0) (above h)
