use Rattle.marking.proofs.nearby.+signal_at.Given as goal

abbrev pub decreases-signal_at : goal.decreases-signal_at
decreases-signal_at l = l.gap
