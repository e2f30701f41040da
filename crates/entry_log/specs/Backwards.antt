-- What is still to come of a log that is read from its last record back. Assumes nothing.
use Rattle.std.specs.Prelude.{List, reverse}
use Rattle.std.specs.Slice.Iter.{iter_rest}
use Rattle.model.specs.declared.Entry.{Entry}
use Rattle.history.specs.Entries.{kept}
use Rattle.entry_log.specs.declared.records.LatestFirst.{LatestFirst}
use Rattle.entry_log.specs.Logs.{live}

-- The live entries of the records that are left, without those that the marks behind take; the last comes first.
abbrev pub latest : LatestFirst → List Entry
latest l = reverse (kept l.gone (live (iter_rest l.records)))
