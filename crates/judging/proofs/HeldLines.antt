-- What a buffer holds of a line is read as the whole line is. Assumes nothing.
use Rattle.std.proofs.Common.{◌≡◌, ℕ, Bool, true, false, cond, ◌||◌, eqb, ltb, leb, List, length, None, Ok, Err, Result, sym, refl, ap, ◌∙◌, arith}
use Rattle.std.proofs.lemmas.Bool.Decides.{nat_tests}
use Rattle.model.specs.declared.refusal.SchemaRefusal.{SchemaRefusal}
use Rattle.record.specs.Hex.{spelled, decoded}
use Rattle.record.specs.Lines.{HeldLine, Short, Overlong, held_of}
use Rattle.plan_record.specs.PlanRecords.{read_decoded}
use Rattle.case_record.specs.CaseRecords as case
use Rattle.draft_rules.specs.Plans.{PlanParts}
use Rattle.model.specs.declared.refusal.Reason.{Reason}
use Rattle.lives.specs.Views.{CaseView}
use Rattle.lives.specs.Calls as call
use Rattle.schema.specs.Checks.{SchemaParts}
use Rattle.drafts.specs.Plans.{begun, by_record}
use Rattle.judging.specs.Judgements.{by_plan, by_schema, by_load, judged}
use Rattle.judging.specs.Held.{held_characters}

-- It is spelled the same: a line that is too long spells nothing, as the empty line does.
held_decoded : (cs : List ℕ) → decoded (held_characters (held_of cs)) ≡ decoded cs
held_decoded cs = go (leb (length cs) 1024) refl
  where
    long : (b : Bool) → ltb 1024 (length cs) ≡ true → None ≡ cond (b || ltb 1024 (length cs)) None (spelled cs)
    long true h = refl
    long false h = sym (ap (λ v. cond v None (spelled cs)) h)

    above : leb (length cs) 1024 ≡ false → ltb 1024 (length cs) ≡ true
    above h = grind (arith, nat_tests)

    go : (b : Bool) → leb (length cs) 1024 ≡ b → decoded (held_characters (cond b (Short cs) Overlong)) ≡ decoded cs
    go true h = refl
    go false h = long (eqb (length cs) 0) (above h)

-- A plan line is read by what it spells.
pub plan_held : (ds : List ℕ) (held : HeldLine) (S : Result SchemaParts SchemaRefusal) → held ≡ held_of ds → by_schema (held_characters held) S ≡ by_schema ds S
plan_held ds held (Ok S) e =
    ap (λ d. by_plan (by_record (begun S) (read_decoded d))) (ap (λ h. decoded (held_characters h)) e ∙ held_decoded ds)
plan_held ds held (Err r) e = refl

-- So is a case line.
pub case_held : (cs : List ℕ) (held : HeldLine) (b : Result PlanParts Reason) (v : CaseView) → held ≡ held_of cs → judged b (held_characters held) v ≡ judged b cs v
case_held cs held (Ok p) v e =
    ap (λ d. by_load p (call.by_record (call.opened_on v.number p.base v.store) (case.read_decoded d))) (ap (λ h. decoded (held_characters h)) e ∙ held_decoded cs)
case_held cs held (Err r) v e = refl
