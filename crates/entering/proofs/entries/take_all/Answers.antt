use Rattle.std.proofs.Common.{◌≡◌, length, Err, sym, refl, ap, ◌∙◌, subst, arith, rules}
use Rattle.std.proofs.lemmas.Grind.{common_steps}
use Rattle.model.specs.Entries.{entry_read}
use Rattle.case_record.specs.Entries.{entries_in}
use Rattle.schema.specs.Schemas.{parts}
use Rattle.lives.specs.Calls.{held, taken, entries_taken}
use Rattle.lives.proofs.Entering.{taken_first, taken_capacity}
use Rattle.entering.specs.Changes.{held_after, Reached}
use Rattle.entering.proofs.HeldAfter.{held_first}
use Rattle.entering.proofs.entries.take_all.Goals as goal

pub loop-place-init : goal.loop-place-init
loop-place-init g c =
    let S = parts c.args.schema.now in
    let h = held c.args.facts.now (g.S.Store.view c.args.store.now) in
    record {
      same = sym (ap (λ rs. entries_taken S 0 rs h) c.iter-raw-items.ensures.items);
      held = sym (ap (λ rs. held_after S 0 rs h) c.iter-raw-items.ensures.items);
      few = omega (arith, c.iter-raw-items.ensures.few);
      capacity = refl;
    }

pub overflow_step-place : goal.overflow_step-place
overflow_step-place g c = omega (arith, c.loop-place.invariant.few, ap length c.in-Some.ensures.steps)

pub loop-place-preserved : goal.loop-place-preserved
loop-place-preserved g c =
    let S = parts c.args.schema.now in
    let at = c.loop-place in
    let p = at.place in
    let h = held at.facts (g.S.Store.view at.store) in
    let raw = c.in-Some.raw in
    let more = c.in-Some.ensures.steps in
    let t = c.in_ok-take.ensures in
    record {
      same = at.invariant.same ∙ taken_first S h _ p raw _ more _ t;
      held = at.invariant.held ∙ held_first S h p raw _ _ more _ t;
      few = omega (arith, at.invariant.few, ap length more);
      capacity = taken_capacity S h p raw _ _ t ∙ at.invariant.capacity;
    }

pub returns-in_err-take-clause-after : goal.returns-in_err-take-clause-after
returns-in_err-take-clause-after g c =
    let S = parts c.args.schema.now in
    let at = c.loop-place in
    let p = at.place in
    let h = held at.facts (g.S.Store.view at.store) in
    let k = held c.take.new.facts (g.S.Store.view c.take.new.store) in
    let raw = c.in-Some.raw in
    let e = c.in_err-take.field-0.0 in
    let t : taken S p raw h (entry_read raw.kind raw.id raw.branch) ≡ Err e = c.in_err-take.ensures.0 in
    let answer : c.from_residual.result ≡ Err e = search (rules, common_steps) in
    let all = at.invariant.same ∙ taken_first S h _ p raw _ c.in-Some.ensures.steps _ t in
    let kept = c.in_err-take.ensures.1 ∙ sym (at.invariant.held ∙ held_first S h p raw _ _ c.in-Some.ensures.steps _ t) in
    subst (Reached S (entries_in c.args.history.entries.now) (held c.args.facts.now (g.S.Store.view c.args.store.now)) k) (sym answer) (all, kept)
