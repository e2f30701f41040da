-- A decoded record, which is seen as its bytes, and the line that spells them.
use Rattle.std.specs.Prelude.{◌≡◌, ℕ, List, Option, Result, MatchOption}
use Rattle.std.specs.Result.{result_ok}
use Rattle.record.specs.Hex.{Spelling, decoded}
use Rattle.record.specs.declared.Malformed.{Malformed}
use Rattle.record.specs.declared.Record.{Record}

-- an accepted line spells the record, and a refused one spells no bytes at all
abbrev pub Spelled : List ℕ → Option Record → Type 0
Spelled line r = MatchOption r ((bs : List ℕ) → Spelling line bs → ⊥) (Spelling line)

-- what reading a line answers: the bytes that it spells, which inverts their spelling
pub record DecodesTo (line : List ℕ) (r : Result Record Malformed) : Type 0 where
  pub value : result_ok r ≡ decoded line
  pub spelled : Spelled line (result_ok r)
