use Rattle.std.proofs.Common.{get_or, None, ap, ◌∙◌}
use Rattle.schema.proofs.Checked.{laid, checked_nested}
use Rattle.schema.proofs.schema.Schema.end.Goals as goal

pub returns : goal.returns
returns c =
    let s = c.args.self.now in
    let l = laid _ s.layout s.laid in
    let n = checked_nested _ _ s.passed in
    record {
      value = c.end.ensures.value ∙ ap (λ table. get_or table c.args.start None) l.ends;
      tree = c.end.ensures.tree _ l n.0 n.2;
    }
