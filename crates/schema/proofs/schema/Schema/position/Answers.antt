use Rattle.std.proofs.Common.{cond, ltb, length, get_or, Some, None, ap, ◌∙◌}
use Rattle.layout.specs.Pass.{outside}
use Rattle.schema.proofs.Checked.{laid, checked_nested}
use Rattle.schema.proofs.schema.Schema.position.Goals as goal

pub returns : goal.returns
returns c =
    let s = c.args.self.now in
    let l = laid _ s.layout s.laid in
    let n = checked_nested _ _ s.passed in
    let p = c.args.place in
    record {
      value =
          c.position.ensures.value
          ∙ ap (λ len. cond (ltb p len) (Some (get_or s.layout.positions p outside)) None) l.len
          ∙ ap (λ table. cond (ltb p (length s.row)) (Some (get_or table p outside)) None) l.positions;
      tree = c.position.ensures.tree _ l n.0 n.2;
    }
