use Rattle.std.proofs.Common.{◌≡◌, ℕ, List, Result, sym, ◌∙◌, subst, arith}
use Rattle.std.proofs.lemmas.Grind.{common_steps}
use Rattle.model.specs.declared.refusal.SchemaRefusal.{SchemaRefusal}
use Rattle.schema.specs.Checks.{SchemaParts, schema_read}
use Rattle.schema.specs.Schemas.{shown}
use Rattle.schema.specs.Causes.{ReadRightly}
use Rattle.schema.proofs.Rights.{read_rightly}
use Rattle.schema.proofs.Onlys.{only_read}
use Rattle.schema.proofs.schema.Schema.read.Goals as goal

-- an answer that is the defined one is right, and the only one that is
right : (line : List ℕ) (v : Result SchemaParts SchemaRefusal) → v ≡ schema_read line → ReadRightly line v
right line v e = subst (ReadRightly line) (sym e) (read_rightly line)

only : (line : List ℕ) (v : Result SchemaParts SchemaRefusal) → v ≡ schema_read line → (q : Result SchemaParts SchemaRefusal) → ReadRightly line q → q ≡ v
only line v e q h = only_read line q h ∙ sym e

pub returns-in_err-record : goal.returns-in_err-record
returns-in_err-record c =
    let e : shown c.from_residual.result ≡ schema_read c.args.line.now = grind (arith, common_steps) in
    record { value = e; rightly = right _ _ e; only = only _ _ e }

pub returns-in_err-given : goal.returns-in_err-given
returns-in_err-given c =
    let e : shown c.from_residual-in_err-given.result ≡ schema_read c.args.line.now = grind (arith, common_steps) in
    record { value = e; rightly = right _ _ e; only = only _ _ e }

pub returns : goal.returns
returns c =
    let e : shown c.check.result ≡ schema_read c.args.line.now = grind (arith, common_steps) in
    record { value = e; rightly = right _ _ e; only = only _ _ e }
