use Rattle.std.proofs.Common.{◌≡◌, ◌++◌, map, take}
use Rattle.record.specs.Pairs.{unpaired}
use Rattle.outline.specs.Sayings.{element_bytes}
use Rattle.outline.proofs.writing.put_row.Given as goal

abbrev pub invariant-loop-element : goal.invariant-loop-element
invariant-loop-element l = l.bytes.items ≡ l.initial.bytes.items ++ unpaired (map element_bytes (take l.element-index l.row))
