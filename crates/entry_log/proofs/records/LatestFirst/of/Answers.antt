use Rattle.std.proofs.Common.{length, reverse, ap, ◌∙◌, arith}
use Rattle.std.proofs.lemmas.List.{length-reverse}
use Rattle.history.specs.Entries.{kept}
use Rattle.entry_log.specs.Logs.{live, live_short}
use Rattle.entry_log.proofs.Backwards.{kept_all}
use Rattle.entry_log.proofs.records.LatestFirst.of.Goals as goal

pub returns : goal.returns
returns c =
    let rs = c.args.records.now in
    let none = kept_all c.empty.result c.empty.ensures.members (live rs) in
    let e = ap (λ rs. reverse (kept c.empty.result (live rs))) c.iter.ensures.rest ∙ ap reverse none in
    record {
      items = e;
      few = omega (arith, ap length e, length-reverse (live rs), live_short rs, c.iter.ensures.bound, ap length c.iter.ensures.rest);
    }
