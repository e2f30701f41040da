use Rattle.std.proofs.Common.{get_or, None, ap, ◌∙◌}
use Rattle.schema.proofs.Checked.{laid}
use Rattle.schema.proofs.schema.Schema.place.Goals as goal

pub returns : goal.returns
returns c =
    let s = c.args.self.now in
    let l = laid _ s.layout s.laid in
    record { value = c.place.ensures.value ∙ ap (λ table. get_or table c.args.id None) l.places; node = c.place.ensures.node _ l }
