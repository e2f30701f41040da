use Rattle.std.proofs.Common.{◌≡◌, ◌*◌, ◌≤◌, map, length, get_or, Some, None, sym, ap, ◌∙◌, subst, arith, rules}
use Rattle.std.specs.List.{All}
use Rattle.record.proofs.Pieces.{pieces_whole}
use Rattle.plan_record.specs.Changes.{change_from}
use Rattle.plan_record.specs.PlanRecords.{read_plan}
use Rattle.plan_record.proofs.Meanings.{writes_none, writes_some}
use Rattle.plan_record.proofs.Partings.{read_at}
use Rattle.plan_record.proofs.Quadruples.{changes_pieces}
use Rattle.plan_record.proofs.plans.PlanRecordTryFromRefSliceU8.try_from.Goals as goal

pub returns-in-2 : goal.returns-in-2
returns-in-2 c =
    let bs = c.args.bytes.now in
    let two : 2 ≤ length bs = search rules in
    let plan : get_or bs 0 0 ≡ 2 = search rules in
    let front = c.as_chunks.ensures.front in
    let same = ap (map change_from) front ∙ sym (changes_pieces _) in
    let is = ap (λ xs. Some (record { changes = xs })) same ∙ read_at bs two plan (c.if-changes-from.true ∙ ap (λ n. 4 * n) c.from.ensures) in
    record {
      value = is;
      whole = subst (All (λ piece. length piece ≡ 4)) (sym front) (pieces_whole 4 _ _ (omega arith));
      written = writes_some bs _ (λ i. omega (arith, c.type_inv.bytes i)) is;
    }

pub returns-in_default : goal.returns-in_default
returns-in_default c =
    let none : None ≡ read_plan c.args.bytes.now = search rules in
    record { value = none; whole = tt; written = writes_none _ none }
