use Rattle.std.proofs.Common.{◌-◌, Some, rules, sym, ap, ◌∙◌}
use Rattle.entry_log.specs.Logs.{log_view}
use Rattle.entry_log.proofs.Backwards.{last_counted}
use Rattle.entry_log.proofs.LogStore.place.Goals as goal

pub returns-in_err-behind : goal.returns-in_err-behind
returns-in_err-behind c =
    let none = last_counted c.args.kind c.args.id _ _ (λ x b q t. search rules) _ c.position.new.self (log_view c.args.self.now).list _ _ c.latest_first.ensures.items c.position.ensures.ran c.in_err-behind.was in
    record { answer = c.from_residual.ensures ∙ sym none }

pub returns : goal.returns
returns c =
    let some = last_counted c.args.kind c.args.id _ _ (λ x b q t. search rules) _ c.position.new.self (log_view c.args.self.now).list _ _ c.latest_first.ensures.items c.position.ensures.ran c.in_ok-behind.was in
    record {
      answer = ap (λ n. Some (n - 1 - c.in_ok-behind.behind)) c.len.ensures.answer ∙ sym some;
    }
