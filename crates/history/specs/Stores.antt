-- What a store of a history holds, what it answers and what it holds afterwards. Assumes nothing.
--   StoreView                    its list of entries, how many of its places are free, how many it has
--   fresh n                      no entries, and each of n places free
--   cleared v                    the same places, and no entries
--   add_answer v, added e v      one more entry at the end, refused if no place is free
--   purge_answer cost v          refused if fewer places are free than a purge costs
--   purged cost ids free v       without the entries of these nodes
--   PurgeBounds                  how many places are free after a purge
use Rattle.std.specs.Prelude.{◌≡◌, ℕ, ◌+◌, ◌-◌, ◌<◌, ◌≤◌, cond, List, [], ◌∷◌, ◌++◌, length, Ok, Err, Result, ◌==◌, nat_lt}
use Rattle.ids.specs.declared.IdSet.{IdSet}
use Rattle.model.specs.declared.Entry.{Entry}
use Rattle.bounded.specs.declared.Full.{Full}
use Rattle.history.specs.Entries.{kept}

pub record StoreView : Type 0 where
  pub list : List Entry
  pub free : ℕ
  pub capacity : ℕ

-- What a store that has too few free places answers.
abbrev pub refusal : Result (Unit {0}) Full
refusal = Err (record {})

abbrev pub fresh : ℕ → StoreView
fresh n = record { list = []; free = n; capacity = n }

abbrev pub cleared : StoreView → StoreView
cleared v = fresh v.capacity

abbrev pub add_answer : StoreView → Result (Unit {0}) Full
add_answer v = cond (v.free == 0) refusal (Ok tt)

-- A refusal changes nothing.
abbrev pub added : Entry → StoreView → StoreView
added e v =
    cond (v.free == 0) v
    (record { list = v.list ++ e ∷ []; free = v.free - 1; capacity = v.capacity })

abbrev pub purge_answer : ℕ → StoreView → Result (Unit {0}) Full
purge_answer cost v = cond (nat_lt v.free cost) refusal (Ok tt)

-- A store may free places in a purge, so how many are free then is handed in.
abbrev pub purged : ℕ → IdSet → ℕ → StoreView → StoreView
purged cost ids free v =
    cond (nat_lt v.free cost) v
    (record { list = kept ids v.list; free = free; capacity = v.capacity })

-- A purge takes no more places than it costs, and what is left stays within the places that there are.
pub record PurgeBounds (cost : ℕ) (ids : IdSet) (free : ℕ) (v : StoreView) : Type 0 where
  pub cheap : cost ≤ v.free → v.free ≤ free + cost
  pub within : cost ≤ v.free → free + length (kept ids v.list) ≤ v.capacity
  pub refused : v.free < cost → free ≡ v.free
