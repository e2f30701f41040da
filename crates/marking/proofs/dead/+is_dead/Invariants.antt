use Rattle.marking.proofs.dead.+is_dead.Given as goal

abbrev pub decreases-is_dead : goal.decreases-is_dead
decreases-is_dead l = l.place
