use Rattle.std.proofs.Common.{◌≡◌, ◌+◌, length, Ok, Err, sym, ap, ◌∙◌, arith, rules}
use Rattle.std.proofs.lemmas.Grind.{common_steps}
use Rattle.case_record.specs.Entries.{entries_in}
use Rattle.case_record.specs.Coming.{coming}
use Rattle.model.specs.declared.refusal.StepRefusal.{StepRefusal}
use Rattle.schema.specs.Schemas.{parts}
use Rattle.runs.specs.Histories.{ran, stopped, verdict, then_ran}
use Rattle.runs.proofs.RunTold.{run_told, run_only, goes_on, stops_here}
use Rattle.runs.proofs.histories.run.Goals as goal

pub loop-place-init : goal.loop-place-init
loop-place-init c = record {
  same = sym (ap (ran (parts c.args.schema.now) c.args.facts.now 0) c.iter-raw-items.ensures.items);
  few = omega (arith, c.iter-raw-items.ensures.few);
}

pub returns-in_err-map_err : goal.returns-in_err-map_err
returns-in_err-map_err c =
    let S = parts c.args.schema.now in
    let rs = entries_in c.args.history.entries.now in
    let at = c.loop-place in
    let p = at.place-counter in
    let raw = c.in-Some.raw in
    let k : (k : StepRefusal) × (c.take.result ≡ Err k) × (c.from_residual.result ≡ Err (stopped p raw k)) = search (rules, common_steps) in
    let e = at.invariant.same ∙ ap (ran S at.facts p) c.in-Some.ensures.steps in
    let h = stops_here _ _ p raw _ _ c.from_residual.result c.take.ensures k _ in
    record {
      value = h.0 ∙ sym (ap (λ n. verdict n.refusal) e);
      after = h.1 ∙ sym (ap (λ n. n.facts) e);
      told = run_told S c.args.facts.now rs;
      only = λ es gs. run_only S rs es _ gs 0;
    }

pub overflow_step-place : goal.overflow_step-place
overflow_step-place c = omega (arith, c.loop-place.invariant.few, ap length c.in-Some.ensures.steps)

pub loop-place-preserved : goal.loop-place-preserved
loop-place-preserved c =
    let S = parts c.args.schema.now in
    let at = c.loop-place in
    let p = at.place-counter in
    let raw = c.in-Some.raw in
    let more = c.in-Some.ensures.steps in
    let ok : c.take.result ≡ Ok tt = grind (arith, common_steps) in
    let taken = goes_on _ _ p raw _ _ c.take.ensures ok in
    record {
      same = at.invariant.same ∙ ap (ran S at.facts p) more ∙ ap (λ v. then_ran at.facts p raw v (λ gs. ran S gs (p + 1) (coming c.next.new.self))) taken;
      few = omega (arith, at.invariant.few, ap length more);
    }

pub returns : goal.returns
returns c =
    let S = parts c.args.schema.now in
    let rs = entries_in c.args.history.entries.now in
    let at = c.loop-place in
    let e = at.invariant.same ∙ ap (ran S at.facts at.place-counter) c.in-None.ensures.steps.0 in
    record {
      value = sym (ap (λ n. verdict n.refusal) e);
      after = sym (ap (λ n. n.facts) e);
      told = run_told S c.args.facts.now rs;
      only = λ es gs. run_only S rs es _ gs 0;
    }
