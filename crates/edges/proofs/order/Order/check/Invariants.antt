use Rattle.std.proofs.Common.{◌≡◌, take, drop}
use Rattle.edges.specs.Edges.{judged}
use Rattle.edges.specs.Verdicts.{edges_checked}
use Rattle.edges.proofs.order.Order.check.Given as goal

abbrev pub invariant-loop-place : goal.invariant-loop-place
invariant-loop-place l = edges_checked l.self l.edges
    ≡ judged l.order.partners l.order.before (take l.place l.edges) l.place (drop l.place l.edges)
