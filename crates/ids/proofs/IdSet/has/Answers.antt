use Rattle.std.proofs.Common.{sym, refl, ◌∙◌, arith}
use Rattle.std.proofs.lemmas.Bool.{le-ltb}
use Rattle.ids.specs.Sets.{has}
use Rattle.ids.proofs.Laws.{has_past}
use Rattle.ids.proofs.IdSet.has.Goals as goal

pub returns-then-id-lt64 : goal.returns-then-id-lt64
unfolding has
returns-then-id-lt64 c = refl

pub returns-else-id-lt64 : goal.returns-else-id-lt64
returns-else-id-lt64 c = le-ltb _ _ c.if-id-lt64.false ∙ sym (has_past _ _ (omega arith) c.if-id-lt64.false)
