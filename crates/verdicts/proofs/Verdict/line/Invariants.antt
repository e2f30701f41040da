use Rattle.std.proofs.Common.{◌≡◌, ◌*◌, length, take}
use Rattle.record.specs.Hex.{hex}
use Rattle.verdicts.proofs.Verdict.line.Given as goal

abbrev pub invariant-loop-place : goal.invariant-loop-place
invariant-loop-place l = (length l.line ≡ 20) × (take (2 * l.place) l.line ≡ hex (take l.place l.byte-items))
