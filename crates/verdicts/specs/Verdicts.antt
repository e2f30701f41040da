-- The verdict on a case and its writing as a record. Assumes nothing.
--   verdict_bytes v   type 4, the case's number, answer, layer, place, id; numbers with the high byte first
--   verdict_line v    their characters
use Rattle.std.specs.Prelude.{ℕ, ◌/◌, ◌%◌, List, [], ◌∷◌, Some, None, Option}
use Rattle.model.specs.declared.refusal.Reason.{Reason}
use Rattle.record.specs.Hex.{hex}
use Rattle.verdicts.specs.declared.Verdict.{Verdict}

-- Of a moved case answer and layer are 0.
abbrev pub answer_of : Option Reason → ℕ
answer_of None = 0
answer_of (Some r) = r.number

abbrev pub layer_of : Option Reason → ℕ
layer_of None = 0
layer_of (Some r) = r.layer

-- No place is FFFF, no id FF.
abbrev pub place_or_none : Option ℕ → ℕ
place_or_none None = 65535
place_or_none (Some p) = p

abbrev pub place_of : Option Reason → ℕ
place_of None = 65535
place_of (Some r) = place_or_none r.place

abbrev pub id_or_none : Option ℕ → ℕ
id_or_none None = 255
id_or_none (Some i) = i

abbrev pub id_of : Option Reason → ℕ
id_of None = 255
id_of (Some r) = id_or_none r.id

abbrev pub verdict_bytes : Verdict → List ℕ
verdict_bytes v =
    4 ∷ v.case / 16777216 ∷ v.case / 65536 % 256 ∷ v.case / 256 % 256 ∷ v.case % 256
    ∷ answer_of v.refusal ∷ layer_of v.refusal ∷ place_of v.refusal / 256 % 256 ∷ place_of v.refusal % 256 ∷ id_of v.refusal ∷ []

abbrev pub verdict_line : Verdict → List ℕ
verdict_line v = hex (verdict_bytes v)
