use Rattle.std.proofs.Common.{◌≡◌, map, take}
use Rattle.record.specs.Pairs.{pairs}
use Rattle.schema.specs.Reading.{edge_of}
use Rattle.schema.proofs.rows.read_edges.Given as goal

abbrev pub invariant-loop-source : goal.invariant-loop-source
invariant-loop-source l = l.list ≡ map edge_of (take l.source-index (pairs l.edges))
