use Rattle.std.proofs.Common.{ap, ◌∙◌, subst}
use Rattle.edges.specs.Edges.{proper, closed}
use Rattle.edges.specs.Places.{partners}
use Rattle.edges.specs.Verdicts.{Judges}
use Rattle.schema.proofs.Checked.{ordered}
use Rattle.schema.proofs.schema.Schema.admits.Goals as goal

pub returns : goal.returns
returns c =
    let s = c.args.self.now in
    let o = ordered _ s.order s.ordered in
    let e = c.args.edge in
    let es = c.as_slice.ensures.items in
    record {
      value =
          c.admits.ensures.value
          ∙ ap (λ ds. proper s.order.partners (closed s.order.before ds) ds e) es
          ∙ ap (λ sets. proper sets (closed s.order.before s.edges) s.edges e) o.partners
          ∙ ap (λ sets. proper (partners s.row) (closed sets s.edges) s.edges e) o.before;
      tree = subst (λ ds. Judges s.row ds e c.admits.result) es (c.admits.ensures.tree _ o);
    }
