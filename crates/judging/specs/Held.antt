-- What is read of a line that a buffer holds. Assumes nothing.
use Rattle.std.specs.Prelude.{ℕ, List, []}
use Rattle.record.specs.Lines.{HeldLine, Short, Overlong}

-- An empty line stands for one that is too long: either is refused as a line.
abbrev pub held_characters : HeldLine → List ℕ
held_characters (Short cs) = cs
held_characters Overlong = []
