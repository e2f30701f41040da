use Rattle.std.proofs.Common.{arith, of_calls}
use Rattle.std.specs.Fn.{CalledAt}
use Rattle.std.proofs.lemmas.Fn.{called_at}
use Rattle.places.proofs.Retaining.{kept_one, dropped_one, all_tested}
use Rattle.places.proofs.compaction.retain.Goals as goal
use Rattle.places.proofs.compaction.retain.Goals.{then-keeps, else-keeps}

pub loop-i-preserved : goal.loop-i-preserved
loop-i-preserved g c =
    let at = c.loop-i in
    let R = CalledAt g.F.FnMut in
    elim c.if-keeps.branch [
      | then-keeps w ↦ (
        search of_calls,
        rw (w.items-is, w.kept-is)
            (kept_one R c.args.keeps c.args.items.now at.keeps _ at.items at.kept at.i _ at.invariant.1 (omega arith) at.auto.items c.index-items-i.is (called_at g.F.FnMut c.keeps.ensures w.if-keeps.true)),
      )
      | else-keeps w ↦ (
        search of_calls,
        rw (w.items-is, w.kept-is)
            (dropped_one R c.args.keeps c.args.items.now at.keeps _ at.items at.kept at.i _ at.invariant.1 (omega arith) at.auto.items c.index-items-i.is (called_at g.F.FnMut c.keeps.ensures w.if-keeps.false)),
      )
    ]

pub returns-clause-filtered : goal.returns-clause-filtered
returns-clause-filtered g c =
    let at = c.loop-i in
    all_tested (CalledAt g.F.FnMut) _ _ at.keeps at.items at.kept at.i at.invariant.1 (omega arith)
