use Rattle.agreement.proofs.GrowRuns.{ran, ran_first}
use Rattle.agreement.proofs.growth.facts_and_signals_only_grow.Goals as goal

pub returns : goal.returns
returns c S es ds fs gs checked r q =
    let before = ran_first S checked fs es r in
    let after = ran S checked fs gs ds before.long before.sound q in
    (after.grown, after.leqs)
