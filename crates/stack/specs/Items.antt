-- The values of a stack, the last pushed first. Assumes nothing.
--   head, tail    the value on top, and what stands below it
--   pushed v xs   with v on top, if there is room
use Rattle.std.specs.Prelude.{cond, List, [], ◌∷◌, length, Some, None, Option, nat_lt}

abbrev pub head : {T : Type 0} → List T → Option T
head [] = None
head (x ∷ xs) = Some x

abbrev pub tail : {T : Type 0} → List T → List T
tail [] = []
tail (x ∷ xs) = xs

-- A stack has 128 places.
abbrev pub pushed : {T : Type 0} → T → List T → List T
pushed v xs = cond (nat_lt (length xs) 128) (v ∷ xs) xs
