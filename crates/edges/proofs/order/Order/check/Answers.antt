use Rattle.std.proofs.Common.{◌≡◌, get_or, Ok, Err, ◌∙◌, arith}
use Rattle.std.proofs.lemmas.Grind.{common_steps}
use Rattle.edges.specs.Verdicts.{edges_checked}
use Rattle.edges.proofs.OrderTold.{tells, leaves, of_order}
use Rattle.edges.proofs.order.Order.check.Goals as goal

pub returns-then-not-takes : goal.returns-then-not-takes
returns-then-not-takes c =
    let es = c.args.edges.now in
    let p = c.loop-place.place in
    let v : Err (p, (get_or es p (record { source = 0; target = 0 })).source) ≡ edges_checked c.args.self.now es = grind (arith, common_steps) in
    record { value = v; tree = λ xs o. tells xs _ _ (v ∙ of_order xs _ _ o); free = λ xs o. tt }

pub returns : goal.returns
returns c =
    let v : Ok tt ≡ edges_checked c.args.self.now c.args.edges.now = grind (arith, common_steps) in
    record { value = v; tree = λ xs o. tells xs _ _ (v ∙ of_order xs _ _ o); free = λ xs o. leaves xs _ _ (v ∙ of_order xs _ _ o) }
