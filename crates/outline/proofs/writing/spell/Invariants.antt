use Rattle.std.proofs.Common.{◌≡◌, take}
use Rattle.record.specs.Hex.{hex}
use Rattle.outline.proofs.writing.spell.Given as goal

abbrev pub invariant-loop-byte : goal.invariant-loop-byte
invariant-loop-byte l = l.line.items ≡ hex (take l.byte-index l.bytes)
