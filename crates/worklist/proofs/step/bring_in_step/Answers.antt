use Rattle.std.proofs.Common.{◌≡◌, ℕ, false, ap, ap₂, ◌∙◌, ⊎_elim, arith, rules}
use mathlib.Core.Path.{fun_ext}
use Rattle.std.proofs.lemmas.Bool.{cases_lt}
use Rattle.ids.specs.Sets.{has, union, difference}
use Rattle.ids.proofs.Laws.{has_past}
use Rattle.worklist.proofs.Partways.{at_first, all_stepped, none_below, one_on}
use Rattle.worklist.proofs.step.bring_in_step.Goals as goal

pub loop-init : goal.loop-init
loop-init g c =
    let now = c.ids-offered.result in
    let wanted = c.args.wanted in
    let rest : c.union-rest.result ≡ union (difference now wanted) (difference wanted now) =
    c.union-rest.ensures.value ∙ ap₂ union c.difference.ensures.value c.difference-2.ensures.value in
    at_first g.W.Worklist.offered g.W.Worklist.offering g.W.Worklist.withdrawing wanted c.args.worklist.now now c.union-rest.result c.ids-offered.ensures rest

pub returns-in_default-clause-difference : goal.returns-in_default-clause-difference
returns-in_default-clause-difference g c =
    let none : (i : ℕ) → has c.loop.rest i ≡ false = search rules in
    all_stepped g.W.Worklist.offered g.W.Worklist.offering g.W.Worklist.withdrawing c.args.wanted c.args.worklist.now
    c.loop.counter c.loop.rest c.loop.worklist c.loop.invariant (λ i _. none i)

pub loop-preserved : goal.loop-preserved
loop-preserved g c =
    one_on g.W.Worklist.offered g.W.Worklist.offering g.W.Worklist.withdrawing c.args.wanted c.args.worklist.now
    c.loop.counter c.loop.rest c.loop.worklist c.bring_id_in_step.new.worklist c.in-Some.id c.difference-rest.result c.loop.invariant
    (search rules) c.bring_id_in_step.ensures.after c.bring_id_in_step.ensures.difference
    (c.difference-rest.ensures.value ∙ ap (difference c.loop.rest) c.only.ensures.value)

pub returns-clause-after : goal.returns-clause-after
returns-clause-after g c =
    let none = none_below g.W.Worklist.offered g.W.Worklist.offering g.W.Worklist.withdrawing c.args.wanted c.args.worklist.now
    c.loop.counter c.loop.rest c.loop.worklist c.loop.invariant (omega (arith, c.loop-test.false)) in
    fun_ext (λ i. ⊎_elim (λ h. c.loop.invariant.settled i (none i h)) (λ h. grind (arith, has_past, g.W.Worklist.bounded)) (cases_lt i 64))

pub returns-clause-difference : goal.returns-clause-difference
returns-clause-difference g c =
    let none = none_below g.W.Worklist.offered g.W.Worklist.offering g.W.Worklist.withdrawing c.args.wanted c.args.worklist.now
    c.loop.counter c.loop.rest c.loop.worklist c.loop.invariant (omega (arith, c.loop-test.false)) in
    all_stepped g.W.Worklist.offered g.W.Worklist.offering g.W.Worklist.withdrawing c.args.wanted c.args.worklist.now
    c.loop.counter c.loop.rest c.loop.worklist c.loop.invariant none
