use Rattle.std.proofs.Common.{rules, ap, ◌∙◌}
use Rattle.history.specs.Entries.{last_place}
use Rattle.table.proofs.LastFound.{last_found}
use Rattle.table.proofs.CompactedTableStore.place.Goals as goal

pub returns : goal.returns
returns c =
    record {
      answer = last_found c.args.kind c.args.id _ _ (λ x b q k. search rules) _ _ _ c.rposition.ensures.ran ∙ ap (last_place c.args.kind c.args.id) (c.iter.ensures.rest ∙ c.items.ensures);
    }
