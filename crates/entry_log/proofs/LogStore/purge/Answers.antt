use Rattle.entry_log.specs.Logs.{log_view, log_within}
use Rattle.entry_log.proofs.Marks.{live_marked}
use Rattle.entry_log.proofs.Costs.{mark_after, mark_bounds}
use Rattle.entry_log.proofs.LogStore.purge.Goals as goal

pub returns-clause-after : goal.returns-clause-after
returns-clause-after c =
    let v = log_view c.args.self.now in
    let e = c.push.ensures in
    mark_after c.args.ids v _ _ _ (live_marked c.args.ids v.free _ _ e.items) e.room e.places

pub returns-clause-bounds : goal.returns-clause-bounds
returns-clause-bounds c =
    let v = log_view c.args.self.now in
    let e = c.push.ensures in
    mark_bounds c.args.ids v _ _ _ (live_marked c.args.ids v.free _ _ e.items) e.room e.places (log_within c.args.self.now)
