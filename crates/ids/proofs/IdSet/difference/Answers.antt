use Rattle.std.proofs.Common.{◌≡◌, ap, ◌∙◌}
use lib.Bits.{bit_xor}
use Rattle.ids.specs.declared.IdSet.{IdSet}
use Rattle.ids.specs.Sets.{has, intersection, difference}
use Rattle.ids.proofs.Laws.{has_difference}
use Rattle.ids.proofs.IdSet.difference.Goals as goal

pub returns : goal.returns
unfolding difference intersection
returns c =
    let e : record { bits = bit_xor c.args.self.bits c.intersection.result.bits } ≡ difference c.args.self c.args.other =
    ap (λ (s : IdSet). record { bits = bit_xor c.args.self.bits s.bits }) c.intersection.ensures.value in
    record { value = e; members = λ i. ap (λ s. has s i) e ∙ has_difference c.args.self c.args.other i }
