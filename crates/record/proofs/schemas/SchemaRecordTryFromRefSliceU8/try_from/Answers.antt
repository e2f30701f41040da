use Rattle.std.proofs.Common.{◌≡◌, ℕ, ◌*◌, ◌<◌, ◌≤◌, length, get_or, Some, None, MatchOption, IfSome, sym, ap, ◌∙◌, subst, arith, rules}
use Rattle.std.specs.List.{IsSplitAt}
use Rattle.std.specs.Option.{option_map}
use Rattle.std.proofs.lemmas.Result.{err_from_is_err_and}
use Rattle.std.proofs.lemmas.Grind.{common_steps}
use Rattle.record.specs.Pairs.{pairs, Paired}
use Rattle.record.specs.SchemaRecords.{RawSchema, read_schema}
use Rattle.record.proofs.Meanings.{reads_to_none, writes_some}
use Rattle.record.proofs.Pairings.{paired}
use Rattle.record.proofs.Partings.{rest_of, read_by, refused_at}
use Rattle.record.proofs.schemas.SchemaRecordTryFromRefSliceU8.try_from.Goals as goal

pub returns-in_err-elements : goal.returns-in_err-elements
returns-in_err-elements c =
    let four : 4 ≤ length c.args.bytes.now = search rules in
    let short : 2 * c.from-length.result ≤ length (rest_of 4 c.args.bytes.now) → ⊥ = λ room. grind (arith, common_steps) in
    let none = refused_at c.args.bytes.now _ four c.from-length.ensures short in
    let told = err_from_is_err_and c.from_residual.result c.from_residual.ensures.1 in
    rw told.1 (reads_to_none _ none _)

pub returns-in_err-edges : goal.returns-in_err-edges
returns-in_err-edges c =
    let four : 4 ≤ length c.args.bytes.now = search rules in
    let one : get_or c.args.bytes.now 0 0 ≡ 1 = search rules in
    let rest = rest_of 4 c.args.bytes.now in
    let at = 2 * c.from-length.result in
    let parts = subst (λ o. MatchOption o (length rest < at) (λ p. IsSplitAt rest at p.0.now p.1.now)) c.in_ok-elements.ensures.ok_part c.split_at_checked.ensures.cases in
    let no_edges : None ≡ c.edges_in.result = grind (arith, common_steps) in
    let none = read_by c.args.bytes.now _ _ _ None four one c.from-length.ensures parts.0 parts.1 parts.2 (ap (option_map (λ x. x.now)) no_edges ∙ c.edges_in.ensures.value) in
    let told = err_from_is_err_and c.from_residual-in_err-edges.result c.from_residual-in_err-edges.ensures.1 in
    rw told.1 (reads_to_none _ none _)

pub returns : goal.returns
returns c =
    let four : 4 ≤ length c.args.bytes.now = search rules in
    let one : get_or c.args.bytes.now 0 0 ≡ 1 = search rules in
    let rest = rest_of 4 c.args.bytes.now in
    let at = 2 * c.from-length.result in
    let parts = subst (λ o. MatchOption o (length rest < at) (λ p. IsSplitAt rest at p.0.now p.1.now)) c.in_ok-elements.ensures.ok_part c.split_at_checked.ensures.cases in
    let there = c.in_ok-edges.ensures.ok_part in
    let edges = ap (option_map (λ x. x.now)) (sym there) ∙ c.edges_in.ensures.value in
    let s : ℕ → RawSchema = λ v. record { version = v; elements = pairs c.in_ok-elements.elements.now; edges = pairs c.in_ok-edges.edges.now } in
    let is : Some (s c.from_be_bytes.result) ≡ read_schema c.args.bytes.now =
    ap (λ v. Some (s v)) c.from_be_bytes.ensures ∙ read_by c.args.bytes.now _ _ _ _ four one c.from-length.ensures parts.0 parts.1 parts.2 edges in
    record {
      value = is;
      whole = (paired _ _ parts.3, subst (λ o. IfSome o (λ es. Paired es.now)) there c.edges_in.ensures.whole);
      written = writes_some c.args.bytes.now _ (λ i. omega (arith, c.type_inv.bytes i)) is;
    }
