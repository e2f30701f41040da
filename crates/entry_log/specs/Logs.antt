-- What a log holds: a record of each entry and a mark of each purge. Assumes nothing.
--   taken id rs    one of these marks purges the node
--   live rs        the entries that no later mark takes, in their order
--   log_view l     the live entries; each record keeps its place
use Rattle.std.specs.Prelude.{ℕ, suc, ◌+◌, ◌≤◌, Bool, true, false, cond, ◌||◌, List, [], ◌∷◌, length}
use Rattle.std.proofs.Common.{arith}
use Rattle.ids.specs.Sets.{has}
use Rattle.model.specs.declared.Entry.{Entry}
use Rattle.model.specs.Entries.{entry_id}
use Rattle.history.specs.Stores.{StoreView}
use Rattle.places.specs.AppendLists.{held, left, size, each_place}
use Rattle.entry_log.specs.declared.LogRecord.{LogRecord}
use Rattle.entry_log.specs.declared.LogRecord.TheVariants.{Noted, Purged}
use Rattle.entry_log.specs.declared.Log.{Log}

abbrev pub taken : ℕ → List LogRecord → Bool
taken id [] = false
taken id (Noted e ∷ rs) = taken id rs
taken id (Purged ids ∷ rs) = has ids id || taken id rs

abbrev pub live : List LogRecord → List Entry
live [] = []
live (Noted e ∷ rs) = cond (taken (entry_id e) rs) (live rs) (e ∷ live rs)
live (Purged ids ∷ rs) = live rs

abbrev pub log_view : Log → StoreView
log_view l = record { list = live (held l.records); free = left l.records; capacity = size l.records }

pub live_short : (rs : List LogRecord) → length (live rs) ≤ length rs
live_short [] = omega arith
live_short (Purged ids ∷ rs) = omega (arith, live_short rs)
live_short (Noted e ∷ rs) = go (taken (entry_id e) rs) (live_short rs)
  where
    go : (b : Bool) → length (live rs) ≤ length rs → length (cond b (live rs) (e ∷ live rs)) ≤ suc (length rs)
    go true h = omega arith
    go false h = omega arith

-- It never holds more than its places.
pub log_within : (l : Log) → (log_view l).free + length (log_view l).list ≤ (log_view l).capacity
log_within l = omega (arith, each_place l.records, live_short (held l.records))
