-- What hinders a change under a running case, sentence by sentence; t is the tree of the schema's row. Assumes nothing.
--   Busy S fs u               node u is Running or Completed
--   FreeGap S fs t g          something may be put in at gap g
--   HinderedBy S fs t g id    it may not, by node id
--   Before k a l b es         the last entry of kind k and node a stands before the last of kind l and node b
--   FellAgainst xs fs a d     d is the decision that fell against node a
--   InOrder S fs es e         what a new edge e asks for happened in its order
--   Accepted S fs es t c      change c is accepted
--   FailsBy S fs es t c id    it fails by node id
--   Judged S fs es t c r      r is the answer
use Rattle.std.specs.Prelude.{◌≡◌, ℕ, ◌<◌, ◌≤◌, true, ◌⊎◌, ◌↔◌, List, [], ◌∷◌, ◌++◌, Some, None, Option, slice_index_or}
use Rattle.model.specs.declared.Edge.{Edge}
use Rattle.model.specs.declared.Element.{Element}
use Rattle.model.specs.declared.Entry.{Entry}
use Rattle.model.specs.declared.Fact.{Fact}
use Rattle.model.specs.declared.Fact.TheVariants.{Decided}
use Rattle.model.specs.declared.Signal.TheVariants as signal
use Rattle.model.specs.declared.State.TheVariants.{Running, Completed, Skipped}
use Rattle.model.specs.Trees.{Seq, flatten}
use Rattle.model.specs.Signals.{fact_of, tree_signals}
use Rattle.schema.specs.Checks.{SchemaParts, Admitted}
use Rattle.schema.specs.Tables.{place_in}
use Rattle.marking.specs.States.{state_in}
use Rattle.history.specs.declared.EntryKind.{EntryKind}
use Rattle.history.specs.declared.EntryKind.TheVariants.{Start, End, Choose}
use Rattle.history.specs.Entries.{last_place}
use Rattle.followers.specs.Followers.{follower}
use Rattle.changes.specs.declared.Change.{Change}
use Rattle.changes.specs.declared.Change.TheVariants.{DropEdge, Delete, Insert, InsertBeside, AddEdge}
use Rattle.conditions.specs.Deciders.{decisions_at}
use Rattle.conditions.specs.Conditions.{hindrance}

abbrev pub Busy : SchemaParts → List Fact → ℕ → Type 0
Busy S fs u = (state_in S.row S.edges fs u ≡ Some Running) ⊎ (state_in S.row S.edges fs u ≡ Some Completed)

-- Node u comes next at gap g, and is Running or Completed.
abbrev pub BusyFollower : SchemaParts → List Fact → Seq → ℕ → ℕ → Type 0
BusyFollower S fs t g u = (follower t g u ≡ true) × Busy S fs u

-- The gap is false: nothing comes there any more.
abbrev pub FalseGap : List Fact → Seq → ℕ → Type 0
FalseGap fs t g = slice_index_or (tree_signals fs t) g signal.None ≡ signal.False

abbrev pub FreeGap : SchemaParts → List Fact → Seq → ℕ → Type 0
FreeGap S fs t g = FalseGap fs t g ⊎ ((u : ℕ) → BusyFollower S fs t g u → ⊥)

-- The least that hinders is told.
pub record HinderedBy (S : SchemaParts) (fs : List Fact) (t : Seq) (g : ℕ) (id : ℕ) : Type 0 where
  pub alive : FalseGap fs t g → ⊥
  pub busy : BusyFollower S fs t g id
  pub least : (u : ℕ) → BusyFollower S fs t g u → id ≤ u

pub record Before (k : EntryKind) (a : ℕ) (l : EntryKind) (b : ℕ) (es : List Entry) : Type 0 where
  pub first : ℕ
  pub second : ℕ
  pub first_at : last_place k a es ≡ Some first
  pub second_at : last_place l b es ≡ Some second
  pub ordered : first < second

-- The decision was decided, and not for the branch that it comes with.
abbrev pub Against : List Fact → ℕ × ℕ → Type 0
Against fs d = (j : ℕ) × (fact_of fs d.0 ≡ Decided j) × (j ≡ d.1 → ⊥)

abbrev pub NoneAgainst : List Fact → List (ℕ × ℕ) → Type 0
NoneAgainst fs [] = Unit {0}
NoneAgainst fs (d ∷ ds) = (Against fs d → ⊥) × NoneAgainst fs ds

-- Of these decisions, the innermost first, d is the outermost that was decided otherwise.
pub record Outermost (fs : List Fact) (ds : List (ℕ × ℕ)) (d : ℕ) : Type 0 where
  pub inner : List (ℕ × ℕ)
  pub branch : ℕ
  pub outer : List (ℕ × ℕ)
  pub parted : ds ≡ inner ++ (d, branch) ∷ outer
  pub against : Against fs (d, branch)
  pub last : NoneAgainst fs outer

pub record FellAgainst (xs : List Element) (fs : List Fact) (a d : ℕ) : Type 0 where
  pub place : ℕ
  pub found : place_in xs a ≡ Some place
  pub outermost : Outermost fs (decisions_at xs place) d

-- The decision that fell against node a was made before node b was started.
pub record DecidedBefore (xs : List Element) (fs : List Fact) (es : List Entry) (a b : ℕ) : Type 0 where
  pub decision : ℕ
  pub fell : FellAgainst xs fs a decision
  pub made : Before Choose decision Start b es

-- The target is not begun; or the source was finished before the target was started; or the source is Skipped, and the
-- decision that fell against it was made before that.
abbrev pub InOrder : SchemaParts → List Fact → List Entry → Edge → Type 0
InOrder S fs es e =
    (Busy S fs e.target → ⊥)
    ⊎ (((state_in S.row S.edges fs e.source ≡ Some Completed) × Before End e.source Start e.target es)
    ⊎ ((state_in S.row S.edges fs e.source ≡ Some Skipped) × DecidedBefore S.row fs es e.source e.target))

abbrev pub Accepted : SchemaParts → List Fact → List Entry → Seq → Change → Type 0
Accepted S fs es t (DropEdge e) = Unit {0}
Accepted S fs es t (Delete a) = Busy S fs a → ⊥
Accepted S fs es t (Insert a g) = FreeGap S fs t g
Accepted S fs es t (InsertBeside a b c) = FreeGap S fs t c
Accepted S fs es t (AddEdge e) = InOrder S fs es e

-- A delete fails by its activity, what puts an activity in by the least node that hinders at its gap, a new edge by its
-- target.
abbrev pub FailsBy : SchemaParts → List Fact → List Entry → Seq → Change → ℕ → Type 0
FailsBy S fs es t (DropEdge e) id = ⊥
FailsBy S fs es t (Delete a) id = Busy S fs a × (id ≡ a)
FailsBy S fs es t (Insert a g) id = HinderedBy S fs t g id
FailsBy S fs es t (InsertBeside a b c) id = HinderedBy S fs t c id
FailsBy S fs es t (AddEdge e) id = (InOrder S fs es e → ⊥) × (id ≡ e.target)

abbrev pub Judged : SchemaParts → List Fact → List Entry → Seq → Change → Option ℕ → Type 0
Judged S fs es t c None = Accepted S fs es t c
Judged S fs es t c (Some id) = FailsBy S fs es t c id

-- Of a schema that passed the checks, each answer is given exactly where it is right, whatever the facts and the entries.
abbrev pub HindrancesAreTold : Type 0
HindrancesAreTold =
    (S : SchemaParts) (fs : List Fact) (es : List Entry) (t : Seq) (c : Change) → Admitted S → S.row ≡ flatten t
    → (r : Option ℕ) → (r ≡ hindrance S fs es c) ↔ Judged S fs es t c r
