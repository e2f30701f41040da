-- What a compacted table holds. Assumes nothing.
--   table_view t    the entries in its places, without gaps
--   Tight v         each place is free or holds an entry
--   ATableIsTight   so in every table
use Rattle.std.specs.Prelude.{◌≡◌, ◌+◌, ◌-◌, ◌≤◌, length}
use Rattle.std.proofs.Common.{arith}
use Rattle.history.specs.Stores.{StoreView}
use Rattle.places.specs.AppendLists.{held, left, size, each_place}
use Rattle.table.specs.declared.CompactedTable.{CompactedTable}

abbrev pub table_view : CompactedTable → StoreView
table_view t = record { list = held t.entries; free = left t.entries; capacity = size t.entries }

abbrev pub Tight : StoreView → Type 0
Tight v = v.free ≡ v.capacity - length v.list

-- It never holds more than its places.
pub table_within : (t : CompactedTable) → (table_view t).free + length (table_view t).list ≤ (table_view t).capacity
table_within t = omega (arith, each_place t.entries)

-- Its free places are always its capacity without its length.
abbrev pub ATableIsTight : Type 0
ATableIsTight = (t : CompactedTable) → Tight (table_view t)

pub table_tight : ATableIsTight
table_tight t = omega (arith, each_place t.entries)
