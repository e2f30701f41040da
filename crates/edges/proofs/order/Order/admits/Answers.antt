use Rattle.std.proofs.Common.{◌≡◌, ◌∙◌, arith}
use Rattle.std.proofs.lemmas.Grind.{common_steps}
use Rattle.edges.specs.Verdicts.{edge_admitted}
use Rattle.edges.proofs.OrderTold.{judges, of_order_edge}
use Rattle.edges.proofs.order.Order.admits.Goals as goal

pub returns : goal.returns
returns c =
    let es = c.args.edges.now in
    let o = c.args.self.now in
    let v : c.takes.result ≡ edge_admitted o es c.args.edge = grind (arith, common_steps) in
    record { value = v; tree = λ xs is. judges xs _ _ _ (v ∙ of_order_edge xs o es c.args.edge is) }
