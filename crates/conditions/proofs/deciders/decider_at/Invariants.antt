use Rattle.std.proofs.Common.{◌≡◌}
use Rattle.schema.specs.Schemas.{parts}
use Rattle.conditions.specs.Deciders.{decisions_at, decided_against}
use Rattle.conditions.proofs.Against.{left_over}
use Rattle.conditions.proofs.deciders.decider_at.Given as goal

-- what the blocks say that are left, and then what those passed say
abbrev pub invariant-loop : goal.invariant-loop
invariant-loop l =
    (l.row ≡ (parts l.schema).row)
    × (decided_against l.facts (decisions_at (parts l.schema).row l.fn.place) ≡ left_over l.facts (parts l.schema).row l.counter l.place l.decider)
