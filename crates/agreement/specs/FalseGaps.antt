-- Which decision makes a gap false, along runs on schemas that passed the checks. Assumes nothing.
use Rattle.std.specs.Prelude.{◌≡◌, ℕ, ◌+◌, ◌≤◌, Bool, false, cond, not, List, [], ◌∷◌, Option, ◌==◌, nat_lt, slice_index_or}
use Rattle.std.specs.declared.option.Option.TheVariants as option
use Rattle.model.specs.declared.Entry.{Entry}
use Rattle.model.specs.declared.Fact.{Fact}
use Rattle.model.specs.declared.Signal.TheVariants.{None}
use Rattle.model.specs.Trees.{Seq, nil, cons, Item, activity, loop, and, xor, Branches, last, bar, flatten}
use Rattle.model.specs.Signals.{fact_of, is_false, decided}
use Rattle.schema.specs.Checks.{SchemaParts}
use Rattle.marking.specs.Machine.{signals, start}
use Rattle.runs.specs.Steps.{Runs}
use Rattle.agreement.specs.Laws.{Checked, no_facts}

-- The decisions around each gap of a tree, each with the number of its branch that holds the gap, the innermost first;
-- c are those around the whole tree, and `rest` follows.
abbrev mutual
  pub enclosing : Seq → List (ℕ × ℕ) → List (List (ℕ × ℕ)) → List (List (ℕ × ℕ))
  enclosing nil c rest = rest
  enclosing (cons x t) c rest = enclosing_item x c (enclosing t c rest)

  -- The gap before an item has no more around it than the item.
  pub enclosing_item : Item → List (ℕ × ℕ) → List (List (ℕ × ℕ)) → List (List (ℕ × ℕ))
  enclosing_item (activity i) c rest = c ∷ rest
  enclosing_item (loop t i) c rest = c ∷ enclosing t c (c ∷ rest)
  enclosing_item (and b) c rest = c ∷ enclosing_and b c rest
  enclosing_item (xor i b) c rest = c ∷ enclosing_xor b i 0 c rest

  -- The branches of an AND block add no decision.
  pub enclosing_and : Branches → List (ℕ × ℕ) → List (List (ℕ × ℕ)) → List (List (ℕ × ℕ))
  enclosing_and (last t) c rest = enclosing t c (c ∷ rest)
  enclosing_and (bar t b) c rest = enclosing t c (c ∷ enclosing_and b c rest)

  -- The branches of the XOR block of decision d, from number i on, add d with their number.
  pub enclosing_xor : Branches → ℕ → ℕ → List (ℕ × ℕ) → List (List (ℕ × ℕ)) → List (List (ℕ × ℕ))
  enclosing_xor (last t) d i c rest = enclosing t ((d, i) ∷ c) (((d, i) ∷ c) ∷ rest)
  enclosing_xor (bar t b) d i c rest = enclosing t ((d, i) ∷ c) (((d, i) ∷ c) ∷ enclosing_xor b d (i + 1) c rest)

-- The decisions around each gap of a tree's row.
abbrev pub decisions_around : Seq → List (List (ℕ × ℕ))
decisions_around t = enclosing t [] ([] ∷ [])

-- A branch was decided, and it is not b.
abbrev pub is_other : Option ℕ → ℕ → Bool
is_other option.None b = false
is_other (option.Some j) b = not (j == b)

-- The decision was decided for another branch than the one it comes with.
abbrev pub otherwise : List Fact → ℕ × ℕ → Bool
otherwise fs p = is_other (decided (fact_of fs p.0)) p.1

-- How many of these were decided otherwise.
abbrev pub against : List Fact → List (ℕ × ℕ) → ℕ
against fs [] = 0
against fs (p ∷ c) = cond (otherwise fs p) (1 + against fs c) (against fs c)

-- After a run, a gap is false exactly if one enclosing decision was decided otherwise, and then exactly one was.
abbrev pub GapsAreFalseByOneDecision : Type 0
GapsAreFalseByOneDecision =
    (S : SchemaParts) (gs : List Fact) (es : List Entry) (t : Seq) → Checked S → Runs S no_facts es gs → S.row ≡ flatten t
    → (p : ℕ)
    → (is_false (slice_index_or (signals gs start S.row) p None) ≡ nat_lt 0 (against gs (slice_index_or (decisions_around t) p [])))
    × (against gs (slice_index_or (decisions_around t) p []) ≤ 1)
