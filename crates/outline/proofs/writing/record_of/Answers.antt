use Rattle.std.proofs.Common.{◌≡◌, ◌<◌, length, ap, ◌∙◌, arith}
use Rattle.outline.specs.Sayings.{element_bytes, edge_bytes}
use Rattle.outline.proofs.Written.{all_long}
use Rattle.outline.proofs.writing.record_of.Goals as goal

pub push-requires-5 : goal.push-requires-5
push-requires-5 c =
    let start : length c.push-4.new.self.items ≡ 4 = omega (arith, ap length c.new-bytes.ensures, c.push.ensures.len, c.push-2.ensures.len, c.push-3.ensures.len, c.push-4.ensures.len) in
    let long = ap length c.put_row.ensures ∙ all_long element_bytes c.push-4.new.self.items c.row-row.result.now in
    let few : length c.put_row.new.bytes.items < 325 = omega (arith, start, long, c.row-row.ensures.few) in
    (omega arith, few)

pub put_edges-requires : goal.put_edges-requires
put_edges-requires c =
    let start : length c.push-4.new.self.items ≡ 4 = omega (arith, ap length c.new-bytes.ensures, c.push.ensures.len, c.push-2.ensures.len, c.push-3.ensures.len, c.push-4.ensures.len) in
    let long = ap length c.put_row.ensures ∙ all_long element_bytes c.push-4.new.self.items c.row-row.result.now in
    omega (arith, start, long, c.push-5.ensures.len, c.row-row.ensures.few, ap length c.edges-edges.ensures, c.args.schema.now.few_edges)

pub returns-clause-few : goal.returns-clause-few
returns-clause-few c =
    let start : length c.push-4.new.self.items ≡ 4 = omega (arith, ap length c.new-bytes.ensures, c.push.ensures.len, c.push-2.ensures.len, c.push-3.ensures.len, c.push-4.ensures.len) in
    let long = ap length c.put_row.ensures ∙ all_long element_bytes c.push-4.new.self.items c.row-row.result.now in
    let longer = ap length c.put_edges.ensures ∙ all_long edge_bytes c.push-5.new.self.items c.edges-edges.result.now in
    omega (arith, start, long, longer, c.push-5.ensures.len, c.row-row.ensures.few, ap length c.edges-edges.ensures, c.args.schema.now.few_edges)
