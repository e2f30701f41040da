use Rattle.std.proofs.Common.{◌<◌, length, arith}
use Rattle.std.proofs.lemmas.Grind.{common_steps}
use Rattle.layout.proofs.Narrow.{step_narrow}
use Rattle.layout.proofs.Layout.of.Goals as goal

pub loop-i-preserved : goal.loop-i-preserved
loop-i-preserved c =
    let l = c.loop-i in
    let room : length l.outer < 128 = omega (arith, l.invariant.0.few) in (
      rw (c.follow-here.ensures.state, c.follow-here.ensures.room room, c.moves-next.ensures, c.top.ensures.value) (step_narrow _ _ _ _ _ l.invariant.0),
      grind (arith, common_steps),
      grind (arith, common_steps),
    )
