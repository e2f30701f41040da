use Rattle.std.proofs.Common.{◌≡◌, ◌≤◌, ◌<◌, [], ◌∷◌, ◌++◌, map, length, get_or, take, sym, ap, ◌∙◌, arith}
use Rattle.std.proofs.lemmas.List.{take_more, take_all, length-map, length-take-le, map-append}
use Rattle.std.proofs.lemmas.Grind.{common_steps}
use Rattle.record.specs.Pairs.{pair_of, pairs}
use Rattle.record.proofs.Pieces.{items_long, item_at}
use Rattle.schema.specs.Reading.{edge_of}
use Rattle.schema.proofs.rows.read_edges.Goals as goal

pub unwrap-requires : goal.unwrap-requires
unwrap-requires c =
    let ps = pairs c.args.edges.now in
    let within : c.loop-source.source-index < length ps = omega (arith, items_long pair_of _ ps c.pairs-source-items.ensures, c.loop-source-test.true) in
    let long = ap length c.loop-source.invariant ∙ length-map (take c.loop-source.source-index ps) edge_of ∙ length-take-le c.loop-source.source-index ps (omega arith) in
    let few : length c.loop-source.list < 32 = omega (arith, long, within, c.requires.few) in
    grind (arith, common_steps)

pub loop-source-preserved : goal.loop-source-preserved
loop-source-preserved c =
    let ps = pairs c.args.edges.now in
    let p = c.loop-source.source-index in
    let at = item_at pair_of _ ps c.pairs-source-items.ensures p (0, 0) c.loop-source-test.true in
    let grown : c.push.new.self ≡ c.loop-source.list ++ edge_of (pair_of (get_or c.pairs-source-items.result.now p [])) ∷ [] = grind (arith, common_steps) in
    grown
    ∙ ap (λ xs. xs ++ edge_of (pair_of (get_or c.pairs-source-items.result.now p [])) ∷ []) c.loop-source.invariant
    ∙ ap (λ b. map edge_of (take p ps) ++ edge_of b ∷ []) at.1
    ∙ sym (ap (map edge_of) (take_more ps p (0, 0) at.0) ∙ map-append edge_of (take p ps) _)

pub returns : goal.returns
returns c =
    let past : length (pairs c.args.edges.now) ≤ c.loop-source.source-index = omega (arith, items_long pair_of _ _ c.pairs-source-items.ensures) in
    c.loop-source.invariant ∙ ap (map edge_of) (take_all _ _ past)
