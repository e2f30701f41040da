-- The entries of a history: which of them is meant, which a purge keeps, where one last stands. Assumes nothing.
--   kind_of e                what e says, apart from its node
--   is_of kind id e          e is of this kind and of this node
--   kept ids es              the entries of es whose node is not among ids, in their order
--   last_place kind id es    the last place in es of an entry of this kind and node, if one stands there
--   before p q               both places are there, and p comes first
use Rattle.std.specs.Prelude.{ℕ, suc, Bool, false, cond, not, ◌&&◌, List, [], ◌∷◌, Some, None, filter, Option, ◌==◌, nat_lt}
use Rattle.ids.specs.declared.IdSet.{IdSet}
use Rattle.ids.specs.Sets.{has}
use Rattle.model.specs.declared.Entry.{Entry}
use Rattle.model.specs.declared.Entry.TheVariants as entry
use Rattle.model.specs.Entries.{entry_id, entry_kind}
use Rattle.history.specs.declared.EntryKind.{EntryKind}
use Rattle.history.specs.declared.EntryKind.TheVariants.{Start, End, Choose, Leave}

-- The kind byte of the entries of a kind.
abbrev pub kind_byte : EntryKind → ℕ
kind_byte Start = 1
kind_byte End = 2
kind_byte Choose = 3
kind_byte Leave = 4

-- What an entry says.
abbrev pub kind_of : Entry → EntryKind
kind_of (entry.Start i) = Start
kind_of (entry.End i) = End
kind_of (entry.Choose i b) = Choose
kind_of (entry.Leave i) = Leave

abbrev pub is_of : EntryKind → ℕ → Entry → Bool
is_of kind id e = entry_kind e == kind_byte kind && entry_id e == id

-- A purge of these nodes leaves the entry.
abbrev pub stays : IdSet → Entry → Bool
stays ids e = not (has ids (entry_id e))

abbrev pub kept : IdSet → List Entry → List Entry
kept ids es = filter (stays ids) es

-- The last place in a list, from the last place behind its first entry and whether the first is one.
abbrev pub place_from : Bool → Option ℕ → Option ℕ
place_from first (Some p) = Some (suc p)
place_from first None = cond first (Some 0) None

abbrev pub last_place : EntryKind → ℕ → List Entry → Option ℕ
last_place kind id [] = None
last_place kind id (e ∷ es) = place_from (is_of kind id e) (last_place kind id es)

abbrev pub before : Option ℕ → Option ℕ → Bool
before (Some p) (Some q) = nat_lt p q
before (Some p) None = false
before None q = false
