-- The steps that a schema and a case's facts allow. Assumes nothing.
--   fits_in xs e          the row has a node of the entry's kind with its id, and the branch of a choice, by its tables
--   NodeTold xs e         what that means: the row's tree has that node
--   Allowed S fs e        e is a step that the marking allows
--   Runs S fs es gs       from the facts fs the entries es are steps, one after the other, and end in the facts gs
--   step_in S fs e        what one step gives: the facts after it, or why it is refused
--   Sets v fs e r         r is the fact that step e sets, or why it is refused, where it gives v
use Rattle.std.specs.Prelude.{◌≡◌, ℕ, Bool, true, false, cond, List, [], ◌∷◌, Some, None, Ok, Err, Decides, Option, Result, nat_le, slice_index_or, slice_set}
use Rattle.model.specs.declared.Element.{Element}
use Rattle.model.specs.declared.Element.TheVariants.{Activity, AndSplit, Bar, AndJoin, XorSplit, XorJoin, LoopStart, LoopEnd}
use Rattle.model.specs.declared.Entry.{Entry}
use Rattle.model.specs.declared.Entry.TheVariants.{Start, End, Choose, Leave}
use Rattle.model.specs.declared.Fact.{Fact}
use Rattle.model.specs.declared.Fact.TheVariants.{Begun, Ended, Decided, Left}
use Rattle.model.specs.declared.State.{State}
use Rattle.model.specs.declared.State.TheVariants.{NotActivated, Activated, Running, Completed, Skipped}
use Rattle.model.specs.declared.refusal.StepRefusal.{StepRefusal}
use Rattle.model.specs.declared.refusal.StepRefusal.TheVariants as refusal
use Rattle.model.specs.Entries.{entry_id, needed, fact_set}
use Rattle.model.specs.Nodes.{HasNode}
use Rattle.model.specs.Trees.{Seq, flatten}
use Rattle.layout.specs.declared.Position.{Position}
use Rattle.schema.specs.Checks.{SchemaParts}
use Rattle.schema.specs.Tables.{place_in, position_in, end_in}
use Rattle.marking.specs.States.{state_in}

-- The join of a block stands in its last branch, so branches up to that one exist.
abbrev pub up_to : ℕ → Option Position → Bool
up_to b None = false
up_to b (Some h) = nat_le b h.branch

abbrev pub by_end : List Element → ℕ → Option ℕ → Bool
by_end xs b None = false
by_end xs b (Some e) = up_to b (position_in xs e)

-- Branch b of the block that begins at place p exists.
abbrev pub branch_in : List Element → ℕ → ℕ → Bool
branch_in xs p b = by_end xs b (end_in xs p)

-- Activities are started and finished, decisions choose an existing branch, tests are left.
abbrev pub fits_element : List Element → ℕ → Element → Entry → Bool
fits_element xs p (Activity i) (Start j) = true
fits_element xs p (Activity i) (End j) = true
fits_element xs p (Activity i) (Choose j b) = false
fits_element xs p (Activity i) (Leave j) = false
fits_element xs p (XorSplit i) (Start j) = false
fits_element xs p (XorSplit i) (End j) = false
fits_element xs p (XorSplit i) (Choose j b) = branch_in xs p b
fits_element xs p (XorSplit i) (Leave j) = false
fits_element xs p (LoopEnd i) (Start j) = false
fits_element xs p (LoopEnd i) (End j) = false
fits_element xs p (LoopEnd i) (Choose j b) = false
fits_element xs p (LoopEnd i) (Leave j) = true
fits_element xs p AndSplit e = false
fits_element xs p Bar e = false
fits_element xs p AndJoin e = false
fits_element xs p XorJoin e = false
fits_element xs p LoopStart e = false

abbrev pub fits_at : List Element → Entry → Option ℕ → Bool
fits_at xs e None = false
fits_at xs e (Some p) = fits_element xs p (slice_index_or xs p (Activity 0)) e

abbrev pub fits_in : List Element → Entry → Bool
fits_in xs e = fits_at xs e (place_in xs (entry_id e))

-- On the row of a tree the tables tell exactly whether the tree has the node of the step: the activity of a start or a
-- finish, the decision of a choice with more branches than the one chosen, the loop whose test is left.
abbrev pub NodeTold : List Element → Entry → Type 0
NodeTold xs e = (t : Seq) → xs ≡ flatten t → Decides (fits_in xs e) (HasNode t e)

-- Its node is there, of its kind, and in the state that the step needs.
pub record Allowed (S : SchemaParts) (fs : List Fact) (e : Entry) : Type 0 where
  pub fits : fits_in S.row e ≡ true
  pub state : state_in S.row S.edges fs (entry_id e) ≡ Some (needed e)

-- Nothing to do; or a step that is allowed, which sets its fact, and then the others.
pub data Runs (S : SchemaParts) : List Fact → List Entry → List Fact → Type 0 where
  ends : {fs : List Fact} → Runs S fs [] fs
  steps : {fs gs : List Fact} {e : Entry} {es : List Entry} → Allowed S fs e → Runs S (slice_set fs (entry_id e) (fact_set e)) es gs → Runs S fs (e ∷ es) gs

-- The step rule: the fact that a step sets in a node of this state, if it may.
abbrev pub next_fact : State → Entry → Option Fact
next_fact Activated (Start i) = Some Begun
next_fact Activated (End i) = None
next_fact Activated (Choose i b) = Some (Decided b)
next_fact Activated (Leave i) = Some Left
next_fact Running (Start i) = None
next_fact Running (End i) = Some Ended
next_fact Running (Choose i b) = None
next_fact Running (Leave i) = None
next_fact NotActivated e = None
next_fact Completed e = None
next_fact Skipped e = None

abbrev pub noted : List Fact → Entry → Option Fact → Result (List Fact) StepRefusal
noted fs e None = Err refusal.State
noted fs e (Some f) = Ok (slice_set fs (entry_id e) f)

abbrev pub in_state : List Fact → Entry → Option State → Result (List Fact) StepRefusal
in_state fs e None = Err refusal.State
in_state fs e (Some s) = noted fs e (next_fact s e)

abbrev pub step_in : SchemaParts → List Fact → Entry → Result (List Fact) StepRefusal
step_in S fs e =
    cond (fits_in S.row e) (in_state fs e (state_in S.row S.edges fs (entry_id e))) (Err refusal.Node)

-- The fact that a step sets, where it may be taken; else why it is refused.
abbrev pub Sets : Result (List Fact) StepRefusal → List Fact → Entry → Result Fact StepRefusal → Type 0
Sets v fs e (Ok f) = (f ≡ fact_set e) × (v ≡ Ok (slice_set fs (entry_id e) f))
Sets v fs e (Err r) = v ≡ Err r

-- An entry's bytes, judged at its turn.
abbrev pub judged : SchemaParts → List Fact → Option Entry → Result (List Fact) StepRefusal
judged S fs None = Err refusal.Node
judged S fs (Some e) = step_in S fs e

-- What the facts are after a step: those that it gives, or the old ones where it is refused.
abbrev pub Stepped : Result (List Fact) StepRefusal → List Fact → List Fact → Result (Unit {0}) StepRefusal → Type 0
Stepped v fs gs (Ok u) = v ≡ Ok gs
Stepped v fs gs (Err r) = (v ≡ Err r) × (gs ≡ fs)
