-- Why a change is refused, in the words of the rules. Assumes nothing.
--   Misformed, IsThere, Taken, Over, IsProper    the causes, in their order; of IsThere and IsProper it is that they do not hold
--   ChangeRightly base done S raw r    r is the right answer to four bytes
use Rattle.std.specs.Prelude.{◌≡◌, ℕ, ◌<◌, ◌≤◌, ◌⊎◌, List, [], ◌∷◌, ◌++◌, length, Ok, Err, Result}
use Rattle.model.specs.declared.Element.{Element}
use Rattle.model.specs.declared.Element.TheVariants.{Activity}
use Rattle.model.specs.Paths.{Listed, Proper}
use Rattle.model.specs.Relations.{Joins}
use Rattle.model.specs.Rows.{Among, Precedes}
use Rattle.model.specs.Trees.{Seq, flatten, Nested}
use Rattle.schema.specs.Checks.{SchemaParts}
use Rattle.plan_record.specs.declared.RawChange.{RawChange}
use Rattle.changes.specs.declared.Change.{Change}
use Rattle.changes.specs.declared.Change.TheVariants.{DropEdge, Delete, Insert, InsertBeside, AddEdge}
use Rattle.changes.specs.Effects.{stretch, row_after, edges_after}
use Rattle.changes.specs.Kept.{Brings}
use Rattle.changes.specs.Spellings.{bytes_of}
use Rattle.draft_rules.specs.declared.ChangeRefusal.{ChangeRefusal}
use Rattle.draft_rules.specs.declared.ChangeRefusal.TheVariants as refused

-- An id that it names is above 63.
abbrev pub High : Change → Type 0
High (DropEdge e) = (64 ≤ e.source) ⊎ (64 ≤ e.target)
High (Delete a) = 64 ≤ a
High (Insert a g) = 64 ≤ a
High (InsertBeside a b c) = 64 ≤ a
High (AddEdge e) = (64 ≤ e.source) ⊎ (64 ≤ e.target)

abbrev pub PutsIn : Change → Type 0
PutsIn (DropEdge e) = ⊥
PutsIn (Delete a) = ⊥
PutsIn (Insert a g) = Unit {0}
PutsIn (InsertBeside a b c) = Unit {0}
PutsIn (AddEdge e) = Unit {0}

abbrev pub SomePutsIn : List Change → Type 0
SomePutsIn [] = ⊥
SomePutsIn (c ∷ cs) = PutsIn c ⊎ SomePutsIn cs

-- An id above 63; or a drop or a delete after a change that put something in.
abbrev pub Misformed : List Change → Change → Type 0
Misformed done c = High c ⊎ ((PutsIn c → ⊥) × SomePutsIn done)

-- The row has this activity.
abbrev pub HasActivity : List Element → ℕ → Type 0
HasActivity xs a = (before after : List Element) × (xs ≡ before ++ Activity a ∷ after)

-- What a change speaks of is there: its edge, its activities, its gap, or whole items between its gaps.
abbrev pub IsThere : SchemaParts → Change → Type 0
IsThere S (DropEdge e) = Listed e.source e.target S.edges
IsThere S (Delete a) = HasActivity S.row a
IsThere S (Insert a g) = g ≤ length S.row
IsThere S (InsertBeside a b c) = (b < c) × (c ≤ length S.row) × Nested (stretch b c S.row)
IsThere S (AddEdge e) = HasActivity S.row e.source × HasActivity S.row e.target

-- One of these changes put this id in.
abbrev pub Brought : List Change → ℕ → Type 0
Brought [] a = ⊥
Brought (c ∷ cs) a = Brings c a ⊎ Brought cs a

-- The new id is in the row that the draft began with, or was put in since.
abbrev pub Taken : List Element → List Change → Change → Type 0
Taken base done c = (a : ℕ) × Brings c a × (Among base a ⊎ Brought done a)

-- It is the seventeenth change, or too many elements or edges would be left.
abbrev pub Over : List Change → SchemaParts → Change → Type 0
Over done S c = (16 ≤ length done) ⊎ ((128 < length (row_after c S.row)) ⊎ (32 < length (edges_after c S.edges)))

-- An added edge joins what may be joined, is not listed, and closes no cycle.
abbrev pub IsProper : SchemaParts → Change → Type 0
IsProper S (DropEdge e) = Unit {0}
IsProper S (Delete a) = Unit {0}
IsProper S (Insert a g) = Unit {0}
IsProper S (InsertBeside a b c) = Unit {0}
IsProper S (AddEdge e) = (t : Seq) → S.row ≡ flatten t → Proper (Joins t) (Precedes t) S.edges e

-- The bytes spell this change, and none of the causes holds that come before the one that is told.
pub record Formed (done : List Change) (raw : RawChange) (c : Change) : Type 0 where
  pub spelled : raw ≡ bytes_of c
  pub formed : Misformed done c → ⊥

pub record Found (done : List Change) (S : SchemaParts) (raw : RawChange) (c : Change) : Type 0 where
  pub formed : Formed done raw c
  pub there : IsThere S c

pub record Fresh (base : List Element) (done : List Change) (S : SchemaParts) (raw : RawChange) (c : Change) : Type 0 where
  pub found : Found done S raw c
  pub fresh : Taken base done c → ⊥

pub record Fitting (base : List Element) (done : List Change) (S : SchemaParts) (raw : RawChange) (c : Change) : Type 0 where
  pub fresh : Fresh base done S raw c
  pub fits : Over done S c → ⊥

abbrev pub ChangeRightly : List Element → List Change → SchemaParts → RawChange → Result Change ChangeRefusal → Type 0
ChangeRightly base done S raw (Ok c) = Fitting base done S raw c × IsProper S c
ChangeRightly base done S raw (Err refused.Form) = (c : Change) → raw ≡ bytes_of c → Misformed done c
ChangeRightly base done S raw (Err refused.Missing) = (c : Change) × Formed done raw c × (IsThere S c → ⊥)
ChangeRightly base done S raw (Err refused.Used) = (c : Change) × Found done S raw c × Taken base done c
ChangeRightly base done S raw (Err refused.Full) = (c : Change) × Fresh base done S raw c × Over done S c
ChangeRightly base done S raw (Err refused.Edge) = (c : Change) × Fitting base done S raw c × (IsProper S c → ⊥)
