use Rattle.std.proofs.Common.{◌<◌, length, ap, ◌∙◌, arith}
use Rattle.outline.specs.Sayings.{edge_bytes}
use Rattle.outline.proofs.Written.{pairs_more, pairs_long}
use Rattle.outline.proofs.writing.put_edges.Goals as goal

pub push-requires : goal.push-requires
push-requires c =
    let i = c.loop-edge.edge-index in
    let long = ap length c.loop-edge.invariant ∙ pairs_long edge_bytes c.args.bytes.now.items c.args.edges.now i (omega (arith, c.loop-edge-test.true)) in
    let few : length c.loop-edge.bytes.items < 325 = omega (arith, long, c.loop-edge-test.true, c.requires) in
    (omega arith, few)

pub push-requires-in-loop-edge : goal.push-requires-in-loop-edge
push-requires-in-loop-edge c =
    let i = c.loop-edge.edge-index in
    let long = ap length c.loop-edge.invariant ∙ pairs_long edge_bytes c.args.bytes.now.items c.args.edges.now i (omega (arith, c.loop-edge-test.true)) in
    let few : length c.push.new.self.items < 325 = omega (arith, long, c.loop-edge-test.true, c.requires, c.push.ensures.len) in
    (omega arith, few)

pub loop-edge-preserved : goal.loop-edge-preserved
loop-edge-preserved c =
    rw (c.push-in-loop-edge.ensures.items, c.push.ensures.items, c.loop-edge.invariant) (pairs_more edge_bytes c.args.bytes.now.items c.args.edges.now c.loop-edge.edge-index _ c.loop-edge-test.true)
