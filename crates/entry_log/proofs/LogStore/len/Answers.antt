use Rattle.std.proofs.Common.{◌∙◌}
use Rattle.std.proofs.lemmas.Iterator.Consumers.{YieldsList-from_first, count_from_yields_List}
use Rattle.std.proofs.lemmas.List.{length-reverse}
use Rattle.entry_log.specs.Backwards.{latest}
use Rattle.entry_log.proofs.LogStore.len.Goals as goal

pub returns : goal.returns
returns c =
    record {
      answer =
          count_from_yields_List _ _ c.count.ensures.ran (YieldsList-from_first (λ e. e) latest _ c.latest_first.ensures.items) ∙ length-reverse _;
    }
