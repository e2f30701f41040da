use Rattle.std.proofs.Common.{◌≡◌, ◌-◌, get_or, sym, ◌∙◌, arith}
use Rattle.model.specs.declared.Element.TheVariants.{AndSplit}
use Rattle.marking.specs.declared.nearby.Before.TheVariants.{Head}
use Rattle.marking.specs.Nearby.{before}
use Rattle.marking.proofs.Behind.{plain_head}
use Rattle.marking.proofs.nearby.+signal_at.Goals as goal

-- at the head of a branch of a block without a decision
pub returns-in-None : goal.returns-in-None
returns-in-None t c =
    let row = c.args.schema.now.row in
    let e : Head c.in-Head.split c.in-Head.branch ≡ before (get_or row (c.args.gap - 1) AndSplit) (c.args.gap - 1) c.in-Some.position = cc in
    c.signal_at.ensures
    ∙ sym (plain_head row c.args.facts.now _ c.args.gap (omega arith) _ c.in-Some.ensures.tree _ _ e (sym c.decision.ensures ∙ c.in-None.is))
