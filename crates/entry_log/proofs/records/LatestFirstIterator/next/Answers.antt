use Rattle.std.proofs.Common.{length, sym, ap, ◌∙◌, arith}
use Rattle.entry_log.proofs.Backwards.{back_purged, back_taken, back_noted}
use Rattle.entry_log.proofs.records.LatestFirstIterator.next.Goals as goal

pub loop-record-preserved-in-Purged : goal.loop-record-preserved-in-Purged
loop-record-preserved-in-Purged c =
    back_purged _ _ _ _ c.in-Some.ensures.steps c.in-Purged.ids _ c.union-self.ensures.members c.in-Purged.is ∙ c.loop-record.invariant

pub loop-record-preserved : goal.loop-record-preserved
loop-record-preserved c = back_taken _ _ _ _ c.in-Some.ensures.steps c.in-Noted.entry _ c.id.ensures c.in-Noted.is c.if-not-has.ensures ∙ c.loop-record.invariant

pub returns-in-Noted : goal.returns-in-Noted
returns-in-Noted c =
    let e = sym c.loop-record.invariant ∙ back_noted _ _ _ _ c.in-Some.ensures.steps c.in-Noted.entry _ c.id.ensures c.in-Noted.is c.if-not-has.ensures in
    record { steps = e; goes = record { on = λ _. (tt, tt, omega (arith, ap length e)); keeps = tt; rests = λ _. tt } }
