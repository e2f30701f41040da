use Rattle.std.proofs.Common.{◌≡◌, ◌+◌, ◌≤◌, ◌<◌, [], ◌∷◌, ◌++◌, length, drop, None, Err, sym, ap, ◌∙◌, arith, length-append}
use Rattle.std.proofs.lemmas.List.{at_drop_all}
use Rattle.std.proofs.lemmas.Result.{err_from_is_err_and}
use Rattle.std.proofs.lemmas.Grind.{common_steps}
use Rattle.ids.specs.Sets.{has, with_id}
use Rattle.record.specs.Pairs.{pair_of, pairs}
use Rattle.record.proofs.Pieces.{items_long, item_at}
use Rattle.model.specs.Elements.{node_id}
use Rattle.schema.specs.Reading.{among, row_read}
use Rattle.schema.proofs.Taking.{stops, goes, keeps}
use Rattle.schema.proofs.rows.read_row.Goals as goal

pub loop-place-init : goal.loop-place-init
loop-place-init c = record {
  long = ap length c.requires.empty;
  seen = λ u. c.empty-seen.ensures.members u ∙ ap (λ xs. among xs u) (sym c.requires.empty);
  so_far = ap (λ xs. row_read xs 0 (pairs c.args.elements.now)) (sym c.requires.empty);
}

pub returns-in_err-element : goal.returns-in_err-element
returns-in_err-element c =
    let ps = pairs c.args.elements.now in
    let at = item_at pair_of _ ps c.pairs-kind-items.ensures c.loop-place.place (0, 0) c.loop-place-test.true in
    let none : None ≡ c.unseen.result = grind (arith, common_steps) in
    let p = err_from_is_err_and c.from_residual.result c.from_residual.ensures.1 in
    let told : c.from_residual.result ≡ Err c.loop-place.place = grind (arith, common_steps) in
    rw told (c.loop-place.invariant.so_far ∙ stops ps _ _ c.loop-place.invariant.seen _ at.0 _ at.1 (none ∙ c.unseen.ensures))

pub unwrap-requires : goal.unwrap-requires
unwrap-requires c =
    let few : length c.loop-place.row < 128 = omega (arith, items_long pair_of _ _ c.pairs-kind-items.ensures, c.loop-place-test.true, c.loop-place.invariant.long, c.requires.few) in
    grind (arith, common_steps)

pub loop-place-preserved : goal.loop-place-preserved
loop-place-preserved c =
    let ps = pairs c.args.elements.now in
    let at = item_at pair_of _ ps c.pairs-kind-items.ensures c.loop-place.place (0, 0) c.loop-place-test.true in
    let s = c.loop-place.invariant.seen in
    let row = c.loop-place.row in
    let x = c.in_ok-element.element in
    let e = sym c.in_ok-element.ensures.ok_part ∙ c.unseen.ensures in
    let grown : c.push.new.self ≡ row ++ x ∷ [] = grind (arith, common_steps) in
    let more : c.with-seen.result ≡ with_id c.loop-place.seen (node_id x) = c.with-seen.ensures.value ∙ ap (with_id c.loop-place.seen) c.id.ensures in
    record {
      long = ap length grown ∙ length-append row (x ∷ []) ∙ ap (λ n. n + 1) c.loop-place.invariant.long;
      seen = λ u. ap (λ t. has t u) more ∙ keeps ps _ row s _ at.0 _ at.1 x e u ∙ ap (λ xs. among xs u) (sym grown);
      so_far = c.loop-place.invariant.so_far
          ∙ goes ps _ row s _ at.0 _ at.1 x e
          ∙ ap (λ xs. row_read xs (c.loop-place.place + 1) (drop (c.loop-place.place + 1) ps)) (sym grown);
    }

pub returns : goal.returns
returns c =
    let past : length (pairs c.args.elements.now) ≤ c.loop-place.place = omega (arith, items_long pair_of _ _ c.pairs-kind-items.ensures) in
    c.loop-place.invariant.so_far ∙ at_drop_all (row_read _ _) _ _ past
