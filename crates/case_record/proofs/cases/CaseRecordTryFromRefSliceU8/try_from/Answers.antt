use Rattle.std.proofs.Common.{◌≡◌, ◌≤◌, length, get_or, ◌∙◌, arith, rules}
use Rattle.case_record.proofs.Meanings.{reads_to_none, writes_some}
use Rattle.case_record.proofs.Partings.{read_at, refused_at}
use Rattle.case_record.proofs.Triples.{threefold}
use Rattle.case_record.proofs.cases.CaseRecordTryFromRefSliceU8.try_from.Goals as goal

pub returns-then-entries-from : goal.returns-then-entries-from
returns-then-entries-from c =
    let seven : 7 ≤ length c.args.bytes.now = search rules in
    let none = refused_at c.args.bytes.now _ seven (c.from.ensures ∙ c.from_be_bytes.ensures) c.if-entries-from.true in
    reads_to_none _ none _

pub returns : goal.returns
returns c =
    let seven : 7 ≤ length c.args.bytes.now = search rules in
    let three : get_or c.args.bytes.now 0 0 ≡ 3 = search rules in
    let is = read_at c.args.bytes.now _ _ seven three c.from_be_bytes-2.ensures (c.from.ensures ∙ c.from_be_bytes.ensures) c.if-entries-from.false in
    record {
      value = is;
      whole = threefold _ _ c.if-entries-from.false;
      written = writes_some c.args.bytes.now _ (λ i. omega (arith, c.type_inv.bytes i)) is;
    }
