use Rattle.std.proofs.Common.{◌<◌, length, ap, ◌∙◌, arith}
use Rattle.outline.proofs.Written.{hex_more, hex_long, hex_all, spelled}
use Rattle.outline.proofs.writing.spell.Goals as goal

pub push-requires : goal.push-requires
push-requires c =
    let long = ap length c.loop-byte.invariant ∙ hex_long c.args.bytes.now c.loop-byte.byte-index (omega (arith, c.loop-byte-test.true)) in
    let few : length c.loop-byte.line.items < 650 = omega (arith, long, c.loop-byte-test.true, c.requires.few) in
    (omega arith, few)

pub push-requires-in-loop-byte : goal.push-requires-in-loop-byte
push-requires-in-loop-byte c =
    let long = ap length c.loop-byte.invariant ∙ hex_long c.args.bytes.now c.loop-byte.byte-index (omega (arith, c.loop-byte-test.true)) in
    let few : length c.push.new.self.items < 650 = omega (arith, long, c.push.ensures.len, c.loop-byte-test.true, c.requires.few) in
    (omega arith, few)

pub loop-byte-preserved : goal.loop-byte-preserved
loop-byte-preserved c =
    rw (c.push-in-loop-byte.ensures.items, c.push.ensures.items, c.loop-byte.invariant, c.digits.ensures)
    (hex_more c.args.bytes.now c.loop-byte.byte-index c.loop-byte-test.true)

pub returns-clause-decoded : goal.returns-clause-decoded
returns-clause-decoded c =
    rw (c.loop-byte.invariant ∙ hex_all c.args.bytes.now c.loop-byte.byte-index c.loop-byte-test.false)
    (spelled c.args.bytes.now (λ i. omega (arith, c.type_inv.bytes i)) c.requires.some c.requires.few)
