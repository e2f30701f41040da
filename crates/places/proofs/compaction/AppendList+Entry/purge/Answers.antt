use Rattle.std.proofs.Common.{◌-◌, length-drop}
use Rattle.history.specs.Entries.{stays}
use Rattle.places.proofs.Compacting.{purged_items, purged_size, purged_room}
use Rattle.places.proofs.compaction.AppendList+Entry.purge.Goals as goal

pub returns : goal.returns
returns c =
    let row = c.args.self.now.row.now in
    let used = c.args.self.now.used in
    let e = c.compact-self.ensures in
    let p = stays c.args.ids in
    let within = c.min-used.ensures in
    let same = c.compact-self.auto.entries in
    let rest = length-drop (c.min-used.result - 0) row in
    record {
      items = purged_items p row _ _ used _ _ within e.count e.front;
      room = purged_room p row _ _ used _ _ within e.count e.front same rest;
      places = purged_size p row _ _ used _ _ within e.count e.front same rest;
    }
