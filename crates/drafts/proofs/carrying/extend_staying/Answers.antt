use Rattle.std.proofs.Common.{◌<◌, length, take, ap, arith}
use Rattle.std.proofs.lemmas.Grind.{common_steps}
use Rattle.std.proofs.lemmas.List.{length-take-le}
use Rattle.drafts.specs.Carrying.{stays}
use Rattle.drafts.proofs.Rooms.{filter_short}
use Rattle.drafts.proofs.carrying.extend_staying.Goals as goal

pub unwrap-requires : goal.unwrap-requires
unwrap-requires c =
    let i = c.loop-edge.edge-index in
    let kept = ap length c.loop-edge.invariant in
    let short = filter_short (stays c.args.change) (take i c.args.old.now) in
    let long = length-take-le i c.args.old.now (omega arith) in
    let few : length c.loop-edge.edges < 32 = omega (arith, c.loop-edge-test.true, c.requires.few) in
    grind (arith, common_steps)
