use Rattle.std.proofs.Common.{◌≡◌, ℕ, ◌&&◌, cond, ltb, length}
use Rattle.ids.specs.Sets.{has}
use Rattle.model.specs.declared.Fact.TheVariants.{Nothing}
use Rattle.model.specs.Signals.{fact_of}
use Rattle.facts.proofs.Facts.forget.Given as goal

abbrev pub invariant-loop-id : goal.invariant-loop-id
invariant-loop-id l = (length l.fact-items ≡ 64)
    × ((id : ℕ) → fact_of l.fact-items id ≡ cond (ltb id l.id && has l.ids id) Nothing (fact_of l.fn.self id))
