use Rattle.std.proofs.Common.{◌≡◌, drop}
use Rattle.edges.specs.Edges.{closed}
use Rattle.edges.proofs.order.Order.admits.Given as goal

abbrev pub invariant-loop-earlier : goal.invariant-loop-earlier
invariant-loop-earlier l =
    (l.order.partners ≡ l.self.partners)
    × (closed l.self.before l.edges ≡ closed l.order.before (drop l.earlier-index l.edges))
