-- What a move does. Assumes nothing.
--   reached m           the state after it
--   blocks_after m bs   the open blocks after it, of these before it, the innermost first
--   followed m bs       those that a stack has after it
use Rattle.std.specs.Prelude.{List, ◌∷◌}
use Rattle.stack.specs.declared.moves.Move.{Move}
use Rattle.stack.specs.declared.moves.Move.TheVariants.{Stay, Open, Turn, Close}
use Rattle.stack.specs.Items.{tail, pushed}

abbrev pub reached : {S B : Type 0} → Move S B → S
reached (Stay s) = s
reached (Open s b) = s
reached (Turn s b) = s
reached (Close s) = s

abbrev pub blocks_after : {S B : Type 0} → Move S B → List B → List B
blocks_after (Stay s) bs = bs
blocks_after (Open s b) bs = b ∷ bs
blocks_after (Turn s b) bs = b ∷ tail bs
blocks_after (Close s) bs = tail bs

-- A full stack takes no more.
abbrev pub followed : {S B : Type 0} → Move S B → List B → List B
followed (Stay s) bs = bs
followed (Open s b) bs = pushed b bs
followed (Turn s b) bs = pushed b (tail bs)
followed (Close s) bs = tail bs
