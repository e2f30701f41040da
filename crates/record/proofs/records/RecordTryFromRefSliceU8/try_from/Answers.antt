use Rattle.std.proofs.Common.{◌≡◌, ℕ, ◌/◌, ◌<◌, List, [], Option, length, take, Some, None, sym, refl, ap, ◌∙◌, arith, rules, length-set}
use Rattle.std.proofs.lemmas.Bool.{eqb-true}
use Rattle.std.proofs.lemmas.List.{take_more_set}
use Rattle.record.specs.Hex.{after, decoded}
use Rattle.record.proofs.Flags.{told_more}
use Rattle.record.proofs.Meanings.{decodes_to_none, spells_some}
use Rattle.record.proofs.Spellings.{decoded_is, decoded_empty, decoded_odd, decoded_long, spelled_by, spelled_chunks, spelled_all}
use Rattle.record.proofs.records.RecordTryFromRefSliceU8.try_from.Goals as goal
use Rattle.record.proofs.records.RecordTryFromRefSliceU8.try_from.Goals.{then-is_empty-via-then-is_empty, then-is_empty-via-else-is_empty+then-line-ne0, then-is_empty-via-else-is_empty+else-line-ne0+then-line-gt-LINE_LIMIT}

pub returns-then-is_empty : goal.returns-then-is_empty
returns-then-is_empty c =
    let none : None ≡ decoded c.args.line.now = elim c.then-is_empty.branch [
      | then-is_empty-via-then-is_empty w ↦ sym (decoded_empty _ (eqb-true _ _ (sym w.if-is_empty.ensures)))
      | then-is_empty-via-else-is_empty+then-line-ne0 w ↦ sym (decoded_odd _ w.if-line-ne0.true)
      | then-is_empty-via-else-is_empty+else-line-ne0+then-line-gt-LINE_LIMIT w ↦ sym (decoded_long _ w.if-line-gt-LINE_LIMIT.true)
    ] in
    decodes_to_none _ none _

-- nothing in front changes nothing
after_nothing : (o : Option (List ℕ)) → o ≡ after [] o
after_nothing None = refl
after_nothing (Some bs) = refl

pub loop-i-init : goal.loop-i-init
loop-i-init c =
    let chunks = spelled_chunks _ c.if-line-ne0.false ∙ ap spelled_by (sym c.as_chunks.ensures.front) in
    record { long = refl; told = record { digits = λ small. chunks ∙ after_nothing _; other = λ big. absurd (omega arith) } }

pub loop-i-preserved : goal.loop-i-preserved
loop-i-preserved c =
    let within : c.loop-i.i < length c.loop-i.bytes = omega (arith, c.loop-i.invariant.long, c.loop-i-test.true, c.as_chunks.ensures.front_len, c.if-line-gt-LINE_LIMIT.false) in
    let more = told_more c.args.line.now c.as_chunks.result.0.now c.loop-i.i c.loop-i-test.true (take c.loop-i.i c.loop-i.bytes)
    c.loop-i.seen c.digit_value-high.result c.digit_value-low.result _ c.loop-i.invariant.told
    record { digit = c.digit_value-high.ensures.digit; other = c.digit_value-high.ensures.other }
    record { digit = c.digit_value-low.ensures.digit; other = c.digit_value-low.ensures.other }
    (λ high low. omega arith) in
    record { long = length-set c.loop-i.bytes c.loop-i.i _ ∙ c.loop-i.invariant.long; told = rw (take_more_set c.loop-i.bytes c.loop-i.i _ within) more }

pub returns-then-seen-ge16 : goal.returns-then-seen-ge16
returns-then-seen-ge16 c =
    let some : 0 < length c.args.line.now = search rules in
    let none : None ≡ decoded c.args.line.now =
    sym (decoded_is _ some c.if-line-gt-LINE_LIMIT.false ∙ c.loop-i.invariant.told.other c.if-seen-ge16.true) in
    decodes_to_none _ none _

pub invariant_of-result : goal.invariant_of-result
invariant_of-result c = (omega (arith, c.if-line-gt-LINE_LIMIT.false), c.loop-i.invariant.long)

pub returns : goal.returns
returns c =
    let some : 0 < length c.args.line.now = search rules in
    let all : c.loop-i.i ≡ length c.args.line.now / 2 = omega (arith, c.loop-i-test.false, c.as_chunks.ensures.front_len) in
    let is : Some (take (length c.args.line.now / 2) c.loop-i.bytes) ≡ decoded c.args.line.now =
    sym (decoded_is _ some c.if-line-gt-LINE_LIMIT.false ∙ c.loop-i.invariant.told.digits c.if-seen-ge16.false
    ∙ spelled_all _ _ _ c.loop-i-test.false ∙ ap (λ n. Some (take n c.loop-i.bytes)) all) in
    record { value = is; spelled = spells_some _ _ is }
