-- What a line buffer holds of the line that comes in.
use Rattle.std.specs.Prelude.{ℕ, cond, List, [], ◌∷◌, ◌++◌, length, Some, None, Option, nat_le, nat_lt}

-- the whole line so far, or only that it is too long
pub data HeldLine : Type 0 where
  Short : List ℕ → HeldLine
  Overlong : HeldLine

-- what is held of a line that has these characters so far
abbrev pub held_of : List ℕ → HeldLine
held_of cs = cond (nat_le (length cs) 1024) (Short cs) Overlong

-- what is held after one more character
abbrev pub pushed : HeldLine → ℕ → HeldLine
pushed (Short cs) c = cond (nat_lt (length cs) 1024) (Short (cs ++ c ∷ [])) Overlong
pushed Overlong c = Overlong

-- the line, if all of it is held
abbrev pub whole_line : HeldLine → Option (List ℕ)
whole_line (Short cs) = Some cs
whole_line Overlong = None
