-- What the course of a case holds; what a store means is handed in. Assumes nothing.
--   schema_of c           its schema
--   held_in view c        its facts, and what its store holds
--   progress_of c         its schema and its facts
--   Becomes view P c d    a call made course d of course c: the schema stays, and P says what became of what c held
use Rattle.std.specs.Prelude.{◌≡◌}
use Rattle.schema.specs.Checks.{SchemaParts}
use Rattle.schema.specs.Schemas.{parts}
use Rattle.history.specs.Stores.{StoreView}
use Rattle.lives.specs.Views.{Progress}
use Rattle.lives.specs.Calls.{Held, held}
use Rattle.entering.specs.declared.course.Course.{Course}

module _ {S C : Type 0} where
  abbrev pub schema_of : Course S C → SchemaParts
  schema_of c = parts c.schema.now

  abbrev pub held_in : (S → StoreView) → Course S C → Held
  held_in view c = held c.facts (view c.store)

  abbrev pub progress_of : Course S C → Progress
  progress_of c = record { schema = schema_of c; facts = c.facts }

  pub record Becomes (view : S → StoreView) (P : Held → Held → Type 0) (c d : Course S C) : Type 0 where
    pub schema : d.schema ≡ c.schema
    pub change : P (held_in view c) (held_in view d)
