-- What a released plan consists of. Assumes nothing.
--   PlanParts            the schema that the draft began with, and its changes in order
--   Released p           what every released plan is
--   released_of p        the schema that it gives
--   same_schema S T      S and T, compared whole, are the same
use Rattle.std.specs.Prelude.{◌≡◌, Bool, true, ◌&&◌, List, [], ◌==◌}
use lib.Pointwise.{pointwise}
use Rattle.model.specs.declared.Element.{Element}
use Rattle.model.specs.Elements.{kind_byte, id_byte}
use Rattle.edges.specs.Edges.{same}
use Rattle.schema.specs.Checks.{SchemaParts, Admitted}
use Rattle.changes.specs.declared.Change.{Change}
use Rattle.draft_rules.specs.Stages.{released}
use Rattle.draft_rules.specs.Rules.{all_admitted}

pub record PlanParts : Type 0 where
  pub base : SchemaParts
  pub changes : List Change

abbrev pub plan_of : SchemaParts → List Change → PlanParts
plan_of S cs = record { base = S; changes = cs }

-- A schema that passed the checks, and changes that a draft of it admits.
pub record Released (p : PlanParts) : Type 0 where
  pub checked : Admitted p.base
  pub admitted : all_admitted p.base.row [] p.base p.changes ≡ true

abbrev pub released_of : PlanParts → SchemaParts
released_of p = released p.changes p.base

abbrev pub same_element : Element → Element → Bool
same_element x y = kind_byte x == kind_byte y && id_byte x == id_byte y

abbrev pub same_schema : SchemaParts → SchemaParts → Bool
same_schema S T = S.version == T.version && (pointwise same_element S.row T.row && pointwise same S.edges T.edges)
