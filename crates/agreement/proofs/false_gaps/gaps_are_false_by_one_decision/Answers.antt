use Rattle.std.proofs.Common.{◌≡◌, sym, refl, subst}
use Rattle.model.specs.Trees.{flatten}
use Rattle.model.specs.Signals.{tree_signals}
use Rattle.marking.specs.Machine.{signals, start}
use Rattle.marking.proofs.TreeSignals.{on_tree}
use Rattle.agreement.specs.FalseGaps.{decisions_around}
use Rattle.agreement.proofs.GrowRuns.{ran_first}
use Rattle.agreement.proofs.Deciders.{Sure, Rights, on_gaps}
use Rattle.agreement.proofs.false_gaps.gaps_are_false_by_one_decision.Goals as goal

pub returns : goal.returns
returns c S gs es t checked r is =
    let a : signals gs start S.row ≡ tree_signals gs t = on_tree gs S.row _ refl t is in
    let F : Sure gs (flatten t) (tree_signals gs t) =
    subst (λ us. Sure gs (flatten t) us) a (subst (λ xs. Sure gs xs (signals gs start S.row)) is (ran_first S checked gs es r).sound) in
    subst (λ us. Rights gs us (decisions_around t)) (sym a) (on_gaps gs t F)
