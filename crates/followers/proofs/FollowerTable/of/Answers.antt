use Rattle.std.proofs.Common.{◌≡◌, ◌≤◌, length, ap, ◌∙◌, arith}
use Rattle.std.proofs.lemmas.Grind.{common_steps}
use Rattle.followers.specs.Backwards.{gap, step}
use Rattle.followers.proofs.Noting.{noted_none, noted_more}
use Rattle.followers.proofs.FollowerTable.of.Goals as goal

pub loop-gap-init : goal.loop-gap-init
loop-gap-init c =
    let all_left : c.into_iter-gap-iterator.result.iter.iter.rest.now ≡ c.args.row.now = grind (arith, common_steps) in
    record {
      from_the_first = grind (arith, common_steps);
      noted = rw (all_left, c.new-around.ensures, c.empty-here.ensures.value) (noted_none _);
    }

pub loop-gap-preserved : goal.loop-gap-preserved
loop-gap-preserved c =
    let l = c.loop-gap in
    let s = c.in-Some.ensures.steps in
    let x = c.in-Some.element.now in
    let few : length c.args.row.now ≤ 128 = omega (arith, c.as_slice.ensures.few, ap length c.as_slice.ensures.items) in
    let at_gap : c.in-Some.gap ≡ length c.next.new.self.iter.iter.rest.now = omega (arith, s.1.1, l.invariant.from_the_first) in
    let next : gap c.follow-here.result c.follow-here.new.self ≡ step x (gap l.here l.around) = grind (arith, common_steps) in
    record {
      from_the_first = s.0 ∙ l.invariant.from_the_first;
      noted = rw (c.put.ensures, at_gap) (noted_more _ _ x _ _ _ few next (rw s.1.0 at l.invariant.noted));
    }
