-- How a pass over a row keeps the ids that it met. Assumes nothing.
use Rattle.std.specs.Prelude.{◌≡◌, ℕ, Bool, false, cond, not, ◌&&◌, List, Some, None, Ok, Err, Option, Result}
use Rattle.ids.specs.declared.IdSet.{IdSet}
use Rattle.ids.specs.Sets.{has}
use Rattle.model.specs.declared.Element.{Element}
use Rattle.model.specs.Elements.{node_id}
use Rattle.schema.specs.Checks.{low_id}

abbrev pub seen_before : IdSet → Option ℕ → Bool
seen_before seen None = false
seen_before seen (Some i) = has seen i

-- Its id, if it has one, ends at 63 and was not seen.
abbrev pub fresh : IdSet → Element → Bool
fresh seen x = low_id (node_id x) && not (seen_before seen (node_id x))

-- The element, unless its id was seen.
abbrev pub unseen : IdSet → Option Element → Option Element
unseen seen None = None
unseen seen (Some x) = cond (seen_before seen (node_id x)) None (Some x)

-- The row that was written is the one that was read, or the place of the fault is told.
abbrev pub RowTold : Result (List Element) ℕ → List Element → Result (Unit {0}) ℕ → Type 0
RowTold v xs (Ok u) = v ≡ Ok xs
RowTold v xs (Err p) = v ≡ Err p
