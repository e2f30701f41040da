use Rattle.std.proofs.Common.{◌≡◌, ◌+◌, ◌*◌, ◌/◌, ◌%◌, ℕ, List, length, get_or, set, take, ap, ◌∙◌, arith, length-set}
use Rattle.record.specs.Hex.{digit}
use Rattle.verdicts.proofs.Spelled.{written_more}
use Rattle.verdicts.proofs.Verdict.line.Goals as goal

pub loop-place-preserved : goal.loop-place-preserved
loop-place-preserved c =
    let line = c.loop-place.line in
    let p = c.loop-place.place in
    let bs = c.bytes.result in
    let long = c.loop-place.invariant.0 in
    let ten : length bs ≡ 10 = ap length c.bytes.ensures in
    let two = c.digits.ensures in
    let same : set (set line (2 * p) (get_or c.digits.result 0 0)) (2 * p + 1) (get_or c.digits.result 1 0)
    ≡ set (set line (2 * p) (digit (get_or bs p 0 / 16))) (2 * p + 1) (digit (get_or bs p 0 % 16)) =
    ap (λ (cs : List ℕ). set (set line (2 * p) (get_or cs 0 0)) (2 * p + 1) (get_or cs 1 0)) two in (
      length-set _ (2 * p + 1) _ ∙ length-set line (2 * p) _ ∙ long,
      ap (take (2 * (p + 1))) same ∙ written_more line bs p (omega (arith, long, c.loop-place-test.true)) (omega (arith, ten, c.loop-place-test.true)) c.loop-place.invariant.1,
    )
