use Rattle.std.proofs.Common.{ap, ◌∙◌}
use Rattle.edges.specs.Edges.{within}
use Rattle.edges.proofs.OrderTold.{ordered}
use Rattle.edges.proofs.order.Order.precedes.Goals as goal

pub returns : goal.returns
returns c = record {
  value = c.within.ensures;
  tree = λ xs is. ordered xs _ _ _ (c.within.ensures ∙ ap (λ sets. within sets c.args.first c.args.second) is.before);
}
