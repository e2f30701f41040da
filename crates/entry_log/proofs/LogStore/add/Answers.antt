use Rattle.history.proofs.Views.{added_is}
use Rattle.entry_log.specs.Logs.{log_view}
use Rattle.entry_log.proofs.Marks.{live_pushed}
use Rattle.entry_log.proofs.LogStore.add.Goals as goal

pub returns-clause-after : goal.returns-clause-after
returns-clause-after c =
    let v = log_view c.args.self.now in
    let e = c.push.ensures in
    added_is c.args.entry v _ _ _ (live_pushed c.args.entry v.free _ _ e.items) e.room e.places
