-- Which decision fell against an element of a row. Assumes nothing.
--   decisions_at xs p      the decisions of the XOR blocks around the element at place p, each with the number of the branch
--                          that holds the element, the innermost first
--   decided_against fs ds  the outermost of these that decided for another branch
use Rattle.std.specs.Prelude.{ℕ, zero, suc, cond, List, [], ◌∷◌, length, Some, None, Option, slice_index_or}
use Rattle.std.specs.Option.{option_or}
use Rattle.model.specs.declared.Element.{Element}
use Rattle.model.specs.declared.Element.TheVariants.{Activity, AndSplit, Bar, AndJoin, XorSplit, XorJoin, LoopStart, LoopEnd}
use Rattle.model.specs.declared.Fact.{Fact}
use Rattle.layout.specs.declared.Position.{Position}
use Rattle.schema.specs.Tables.{position_in}
use Rattle.agreement.specs.FalseGaps.{otherwise}

-- A block that an XOR split begins adds its decision.
abbrev pub with_decision : Element → ℕ → List (ℕ × ℕ) → List (ℕ × ℕ)
with_decision (Activity i) b ds = ds
with_decision AndSplit b ds = ds
with_decision Bar b ds = ds
with_decision AndJoin b ds = ds
with_decision (XorSplit i) b ds = (i, b) ∷ ds
with_decision XorJoin b ds = ds
with_decision LoopStart b ds = ds
with_decision (LoopEnd i) b ds = ds

-- From the block that begins at place s outwards.
abbrev pub from_block : List Element → ℕ → Option ℕ → (ℕ → List (ℕ × ℕ)) → List (ℕ × ℕ)
from_block xs b None outer = []
from_block xs b (Some s) outer = with_decision (slice_index_or xs s AndSplit) b (outer s)

abbrev pub from_position : List Element → Option Position → (ℕ → List (ℕ × ℕ)) → List (ℕ × ℕ)
from_position xs None outer = []
from_position xs (Some h) outer = from_block xs h.branch h.block outer

-- Of the n innermost blocks around the element at place p.
abbrev pub decisions_within : List Element → ℕ → ℕ → List (ℕ × ℕ)
decisions_within xs zero p = []
decisions_within xs (suc n) p = from_position xs (position_in xs p) (λ s. decisions_within xs n s)

-- No element has more blocks around it than there are elements.
abbrev pub decisions_at : List Element → ℕ → List (ℕ × ℕ)
decisions_at xs p = decisions_within xs (length xs) p

-- In a case that ran at most one of them did.
abbrev pub decided_against : List Fact → List (ℕ × ℕ) → Option ℕ
decided_against fs [] = None
decided_against fs (d ∷ ds) = option_or (decided_against fs ds) (cond (otherwise fs d) (Some d.0) None)
