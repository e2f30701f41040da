use Rattle.std.proofs.Common.{◌∙◌, rules, tests}
use Rattle.std.proofs.lemmas.Iterator.{YieldsList-from_slice}
use Rattle.std.proofs.lemmas.Iterator.Search.{all_from_yields_List}
use Rattle.schema.specs.Schemas.{parts}
use Rattle.marking.specs.Machine.{signals, start}
use Rattle.marking.proofs.Frees.{lets, all_free}
use Rattle.marking.proofs.dead.is_free.Goals as goal

pub returns : goal.returns
returns c =
    let s = parts c.args.schema.now in
    let fs = c.args.facts.now in
    let gs = signals fs start s.row in
    let test = lets s.row gs fs c.args.id in
    all_from_yields_List test _ _ c.all.result c.all.ensures.ran (YieldsList-from_slice s.edges cc) (λ x b q k. search (rules, tests)) ∙ all_free s.row gs fs c.args.id s.edges
