-- What an iterator over entries has still to give.
use Rattle.std.specs.Prelude.{List, map}
use Rattle.std.specs.Slice.Iter.{iter_rest}
use Rattle.case_record.specs.declared.RawEntry.{RawEntry}
use Rattle.case_record.specs.declared.entries.Entries.{Entries}
use Rattle.case_record.specs.Entries.{entry_from}

-- an entry for each piece that is left
abbrev pub coming : Entries → List RawEntry
coming e = map entry_from (iter_rest e.pieces)
