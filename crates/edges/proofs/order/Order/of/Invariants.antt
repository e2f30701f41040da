use Rattle.std.proofs.Common.{◌≡◌, ◌≤◌, length, drop}
use Rattle.edges.specs.Places.{befores, partners, noted, state, preceding, joinable}
use Rattle.edges.proofs.order.Order.of.Given as goal

abbrev pub invariant-loop-element : goal.invariant-loop-element
invariant-loop-element l =
    let rest = drop l.element-index l.row in
    (length l.blocks ≤ l.element-index)
    × (befores l.row ≡ noted preceding l.order.before (state l.spot l.blocks) rest)
    × (partners l.row ≡ noted joinable l.order.partners (state l.spot l.blocks) rest)
