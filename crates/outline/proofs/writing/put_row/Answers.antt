use Rattle.std.proofs.Common.{◌<◌, length, ap, ◌∙◌, arith}
use Rattle.outline.specs.Sayings.{element_bytes}
use Rattle.outline.proofs.Written.{pairs_more, pairs_long}
use Rattle.outline.proofs.writing.put_row.Goals as goal

pub push-requires : goal.push-requires
push-requires c =
    let i = c.loop-element.element-index in
    let long = ap length c.loop-element.invariant ∙ pairs_long element_bytes c.args.bytes.now.items c.args.row.now i (omega (arith, c.loop-element-test.true)) in
    let few : length c.loop-element.bytes.items < 325 = omega (arith, long, c.loop-element-test.true, c.requires) in
    (omega arith, few)

pub push-requires-in-loop-element : goal.push-requires-in-loop-element
push-requires-in-loop-element c =
    let i = c.loop-element.element-index in
    let long = ap length c.loop-element.invariant ∙ pairs_long element_bytes c.args.bytes.now.items c.args.row.now i (omega (arith, c.loop-element-test.true)) in
    let few : length c.push.new.self.items < 325 = omega (arith, long, c.loop-element-test.true, c.requires, c.push.ensures.len) in
    (omega arith, few)

pub loop-element-preserved : goal.loop-element-preserved
loop-element-preserved c =
    rw (c.push-in-loop-element.ensures.items, c.push.ensures.items, c.loop-element.invariant, c.kind_byte.ensures, c.id_byte.ensures)
    (pairs_more element_bytes c.args.bytes.now.items c.args.row.now c.loop-element.element-index _ c.loop-element-test.true)
