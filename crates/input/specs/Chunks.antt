-- The part of a line that stands at the front of a chunk of input. Assumes nothing.
--   parted n cs    how many bytes the part takes, counted from n, and whether a newline ends it
--   filled h cs    what is held of the line once its characters came
use Rattle.std.specs.Prelude.{ℕ, ◌+◌, Bool, true, false, cond, List, [], ◌∷◌, ◌==◌}
use Rattle.record.specs.Lines.{HeldLine, pushed}

-- A newline is the byte 10, and no character of the line.
abbrev pub parted : ℕ → List ℕ → ℕ × Bool
parted n [] = (n, false)
parted n (c ∷ cs) = cond (c == 10) (n + 1, true) (parted (n + 1) cs)

abbrev pub filled : HeldLine → List ℕ → HeldLine
filled h [] = h
filled h (c ∷ cs) = cond (c == 10) h (filled (pushed h c) cs)
