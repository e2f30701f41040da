use Rattle.worklist.proofs.Partways.{Partway}
use Rattle.worklist.proofs.step.bring_in_step.Given as goal

abbrev pub invariant-loop : goal.invariant-loop
invariant-loop g l =
    Partway g.W.Worklist.offered g.W.Worklist.offering g.W.Worklist.withdrawing l.wanted l.initial.worklist l.counter l.rest l.worklist
