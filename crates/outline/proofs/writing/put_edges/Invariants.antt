use Rattle.std.proofs.Common.{◌≡◌, ◌++◌, map, take}
use Rattle.record.specs.Pairs.{unpaired}
use Rattle.outline.specs.Sayings.{edge_bytes}
use Rattle.outline.proofs.writing.put_edges.Given as goal

abbrev pub invariant-loop-edge : goal.invariant-loop-edge
invariant-loop-edge l = l.bytes.items ≡ l.initial.bytes.items ++ unpaired (map edge_bytes (take l.edge-index l.edges))
