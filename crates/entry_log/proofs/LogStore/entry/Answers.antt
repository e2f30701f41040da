use Rattle.std.proofs.Common.{◌∙◌, sym, arith}
use Rattle.std.proofs.lemmas.Iterator.Consumers.{YieldsList-from_first, nth_from_yields_List}
use Rattle.std.proofs.lemmas.Iterator.Adapters.{option_map_id}
use Rattle.entry_log.specs.Backwards.{latest}
use Rattle.entry_log.proofs.Backwards.{nth_reversed}
use Rattle.entry_log.proofs.LogStore.entry.Goals as goal

pub returns : goal.returns
returns c =
    record {
      answer =
          sym (option_map_id c.nth.result)
          ∙ nth_from_yields_List _ c.nth.new.self c.in_ok-behind.behind c.nth.ensures.ran (YieldsList-from_first (λ e. e) latest _ c.latest_first.ensures.items)
          ∙ nth_reversed _ c.args.place c.in_ok-behind.behind (omega (arith, c.len.ensures.answer, c.in_ok-checked_sub.ensures, c.in_ok-behind.ensures));
    }
