-- The facts after a run. Assumes nothing.
use Rattle.std.proofs.Common.{◌≡◌, List, [], ◌∷◌, refl}
use Rattle.model.specs.declared.Entry.{Entry}
use Rattle.model.specs.declared.Fact.{Fact}
use Rattle.schema.specs.Checks.{SchemaParts}
use Rattle.runs.specs.Steps.{Runs, ends, steps}
use Rattle.agreement.specs.Laws.{facts_after}

pub after_entries : (S : SchemaParts) (fs gs : List Fact) (es : List Entry) → Runs S fs es gs → gs ≡ facts_after fs es
after_entries S fs gs [] ends = refl
after_entries S fs gs (e ∷ es) (steps a r) = after_entries S _ gs es r
