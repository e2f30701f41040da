-- What a new activity without a fact does to the own signals of the other nodes. Assumes nothing.
--   Halts xs ys a g fs   row ys, which has a new activity a at gap g of row xs, differs from xs in this alone: the followers
--                        of the gap, if the gap was true, have no signal yet
--   TrueWithFacts xs fs  every node of the row that has a fact has the own signal true, as after every run
use Rattle.std.specs.Prelude.{◌≡◌, ℕ, true, false, ◌⊎◌, List, Some}
use Rattle.model.specs.declared.Element.{Element}
use Rattle.model.specs.declared.Fact.{Fact}
use Rattle.model.specs.declared.Fact.TheVariants.{Nothing}
use Rattle.model.specs.declared.Signal.{Signal}
use Rattle.model.specs.declared.Signal.TheVariants.{True, None}
use Rattle.model.specs.Signals.{fact_of, is_true, is_false}
use Rattle.schema.specs.Checks.{SchemaParts, Admitted}
use Rattle.marking.specs.States.{own_in}
use Rattle.agreement.specs.Growth.{has_fact}
use Rattle.changes.specs.declared.Change.TheVariants.{Insert, InsertBeside}
use Rattle.changes.specs.Effects.{row_after}
use Rattle.draft_rules.specs.Laws.{Admissible}
use Rattle.marking.specs.Nearby.{signal_in}
use Rattle.conditions.specs.Conditions.{is_follower}

abbrev pub TrueWithFacts : List Element → List Fact → Type 0
TrueWithFacts xs fs = (id : ℕ) (g : Signal) → has_fact (fact_of fs id) ≡ true → own_in xs fs id ≡ Some g → g ≡ True

pub record Halts (xs ys : List Element) (a g : ℕ) (fs : List Fact) : Type 0 where
  -- Each old node has the own signal that it had, or is a follower whose signal was true and is none now.
  pub seen : (id : ℕ) → (id ≡ a → ⊥) → (own_in ys fs id ≡ own_in xs fs id) ⊎ ((is_follower xs g id ≡ true) × (own_in xs fs id ≡ Some True) × (own_in ys fs id ≡ Some None))
  -- Unless the gap is true, nothing changes.
  pub idle : is_true (signal_in xs fs g) ≡ false → (id : ℕ) → (id ≡ a → ⊥) → own_in ys fs id ≡ own_in xs fs id
  -- Unless it is false, its followers have no signal, where nodes with facts have true ones.
  pub stopped : TrueWithFacts xs fs → is_false (signal_in xs fs g) ≡ false → (id : ℕ) → is_follower xs g id ≡ true → own_in ys fs id ≡ Some None

-- An activity at a gap halts the gap's followers.
abbrev pub AnInsertHaltsFollowers : Type 0
AnInsertHaltsFollowers =
    (S : SchemaParts) (a g : ℕ) → Admitted S → Admissible S (Insert a g) → (fs : List Fact) → fact_of fs a ≡ Nothing
    → Halts S.row (row_after (Insert a g) S.row) a g fs

-- One beside items halts the followers of the gap behind them.
abbrev pub AnInsertBesideHaltsFollowers : Type 0
AnInsertBesideHaltsFollowers =
    (S : SchemaParts) (a b c : ℕ) → Admitted S → Admissible S (InsertBeside a b c) → (fs : List Fact) → fact_of fs a ≡ Nothing
    → Halts S.row (row_after (InsertBeside a b c) S.row) a c fs
