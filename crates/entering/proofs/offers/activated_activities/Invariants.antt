use Rattle.std.proofs.Common.{◌≡◌, ℕ, ◌&&◌, ltb, take}
use Rattle.ids.specs.Sets.{has}
use Rattle.schema.specs.Schemas.{parts}
use Rattle.marking.specs.States.{state_in}
use Rattle.changes.specs.Effects.{has_activity}
use Rattle.lives.specs.Offers.{is_activated}
use Rattle.entering.proofs.offers.activated_activities.Given as goal

abbrev pub invariant-loop-element : goal.invariant-loop-element
invariant-loop-element l =
    let S = parts l.fn.schema in
    (id : ℕ) → has l.ids id ≡ (ltb id 64 && (has_activity (take l.element-index S.row) id && is_activated (state_in S.row S.edges l.fn.facts id)))
