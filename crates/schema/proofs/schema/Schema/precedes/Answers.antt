use Rattle.std.proofs.Common.{ap, ◌∙◌}
use Rattle.edges.specs.Edges.{within}
use Rattle.schema.proofs.Checked.{ordered, checked_fine}
use Rattle.schema.proofs.schema.Schema.precedes.Goals as goal

pub returns : goal.returns
returns c =
    let s = c.args.self.now in
    let o = ordered _ s.order s.ordered in
    let f = checked_fine _ _ s.passed in
    record {
      value = c.precedes.ensures.value ∙ ap (λ sets. within sets c.args.first c.args.second) o.before;
      tree = λ t q. c.precedes.ensures.tree _ o t q f.0 f.1;
    }
