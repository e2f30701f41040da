use Rattle.std.proofs.Common.{length, ap, arith}
use Rattle.std.proofs.lemmas.List.{get_or_past}
use Rattle.ids.specs.Sets.{has}
use Rattle.model.specs.declared.Fact.TheVariants.{Nothing}
use Rattle.facts.proofs.Resets.{reset_is}
use Rattle.facts.proofs.Facts.forget.Goals as goal

pub returns : goal.returns
returns c = reset_is (has c.args.ids) _ _ (omega (arith, c.self.invariant, ap length c.self.view_is)) (λ id. grind (arith, c.loop-id.invariant.1 id, get_or_past c.args.self.now id Nothing))
