use Rattle.std.proofs.Common.{rules, ◌≡◌, length, take, ap, arith, length-take}
use Rattle.std.proofs.lemmas.Fn.{filter_same}
use Rattle.history.specs.Entries.{stays, kept}
use Rattle.places.proofs.compaction.compact.Goals as goal

pub returns : goal.returns
returns c =
    let out = c.retain.ensures in
    let front : take c.retain.result c.retain.new.items ≡ kept c.args.ids c.args.entries.now = filter_same _ (stays c.args.ids) _ (λ x b f k. search rules) _ _ out.filtered in
    record { count = omega (arith, ap length front, length-take c.retain.result c.retain.new.items, out.bound, c.retain.auto.items); front = front; rest = out.rest }
