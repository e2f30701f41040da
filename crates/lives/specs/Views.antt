-- What a case is seen to hold. Assumes nothing.
--   Progress          its schema, and what has happened to the nodes
--   CaseView          that, its number, what its store holds, and the ids that its worklist offers
--   in_progress       a case of which the worklist is in step
use Rattle.std.specs.Prelude.{ℕ, Bool, List}
use Rattle.model.specs.declared.Fact.{Fact}
use Rattle.schema.specs.Checks.{SchemaParts}
use Rattle.history.specs.Stores.{StoreView}
use Rattle.lives.specs.Offers.{offers}

pub record Progress : Type 0 where
  pub schema : SchemaParts
  pub facts : List Fact

pub record CaseView : Type 0 where
  pub number : ℕ
  pub progress : Progress
  pub store : StoreView
  pub offered : ℕ → Bool

abbrev pub in_progress : ℕ → SchemaParts → List Fact → StoreView → CaseView
in_progress n S fs s = record { number = n; progress = record { schema = S; facts = fs }; store = s; offered = offers S fs }
