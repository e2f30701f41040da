use Rattle.std.proofs.Common.{◌≡◌, false, []}
use Rattle.record.specs.Lines.{Short}
use Rattle.input.proofs.next_line.Given as goal

abbrev pub invariant-loop : goal.invariant-loop
invariant-loop g l = l.begun ≡ false → l.line ≡ Short []
