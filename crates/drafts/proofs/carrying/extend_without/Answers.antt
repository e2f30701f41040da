use Rattle.std.proofs.Common.{not, ◌<◌, length, take, ap, arith}
use Rattle.std.proofs.lemmas.Grind.{common_steps}
use Rattle.std.proofs.lemmas.List.{length-take-le}
use Rattle.changes.specs.Effects.{is_activity}
use Rattle.drafts.proofs.Rooms.{filter_short}
use Rattle.drafts.proofs.carrying.extend_without.Goals as goal

pub unwrap-requires : goal.unwrap-requires
unwrap-requires c =
    let i = c.loop-element.element-index in
    let kept = ap length c.loop-element.invariant in
    let short = filter_short (λ x. not (is_activity x c.args.id)) (take i c.args.old.now) in
    let long = length-take-le i c.args.old.now (omega arith) in
    let few : length c.loop-element.row < 128 = omega (arith, c.loop-element-test.true, c.requires.few) in
    grind (arith, common_steps)
