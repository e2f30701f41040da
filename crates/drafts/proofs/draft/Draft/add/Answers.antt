use Rattle.std.proofs.Common.{◌≡◌, ℕ, length, Err, Result, sym, ap, ◌∙◌}
use Rattle.draft_rules.specs.declared.PlanRefusal.{PlanRefusal}
use Rattle.draft_rules.specs.declared.PlanRefusal.TheVariants as plan
use Rattle.draft_rules.specs.Stages.{changed_all}
use Rattle.drafts.specs.Plans.{told, lengthened, add_answer}
use Rattle.drafts.specs.Views.{base_of, planned}
use Rattle.drafts.proofs.Adding.{added_rightly, only_right}
use Rattle.drafts.proofs.Judged.{admitted_unrefused}
use Rattle.drafts.proofs.draft.Draft.add.Goals as goal

pub take-requires : goal.take-requires
take-requires c =
    let p = c.args.self.now.plan in
    admitted_unrefused p.first.row p.changes (changed_all p.changes (base_of p)) c.args.raw c.in-Ok.change (sym c.judge.ensures ∙ c.in-Ok.is)

pub returns-in-Ok-clause-rightly : goal.returns-in-Ok-clause-rightly
returns-in-Ok-clause-rightly c =
    let p = c.args.self.now.plan in
    let judged = sym c.in-Ok.is ∙ c.judge.ensures in
    added_rightly p c.args.raw _ (ap (told (length p.changes) c.args.raw.a) judged) _ (c.take.ensures ∙ ap (lengthened (planned p)) judged)

pub returns-in-Ok-clause-only : goal.returns-in-Ok-clause-only
returns-in-Ok-clause-only c =
    let p = c.args.self.now.plan in
    only_right p c.args.raw _ (ap (told (length p.changes) c.args.raw.a) (sym c.in-Ok.is ∙ c.judge.ensures))

pub returns-in-Err-clause-rightly : goal.returns-in-Err-clause-rightly
returns-in-Err-clause-rightly c =
    let p = c.args.self.now.plan in
    let a = c.args.raw.a in
    let judged = sym c.in-Err.is ∙ c.judge.ensures in
    let answer : ◌≡◌ {A = Result (Unit {0}) PlanRefusal} (Err (plan.Change (length c.changes.result.now) a c.in-Err.refusal)) (add_answer (planned p) c.args.raw) =
    ap (λ (n : ℕ). Err (plan.Change n a c.in-Err.refusal)) (ap length c.changes.ensures) ∙ ap (told (length p.changes) a) judged in
    added_rightly p c.args.raw _ answer _ (ap (lengthened (planned p)) judged)

pub returns-in-Err-clause-only : goal.returns-in-Err-clause-only
returns-in-Err-clause-only c =
    let p = c.args.self.now.plan in
    let a = c.args.raw.a in
    let answer : ◌≡◌ {A = Result (Unit {0}) PlanRefusal} (Err (plan.Change (length c.changes.result.now) a c.in-Err.refusal)) (add_answer (planned p) c.args.raw) =
    ap (λ (n : ℕ). Err (plan.Change n a c.in-Err.refusal)) (ap length c.changes.ensures)
    ∙ ap (told (length p.changes) a) (sym c.in-Err.is ∙ c.judge.ensures) in
    only_right p c.args.raw _ answer
