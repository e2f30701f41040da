-- Whether changes may be made under a running case: by the signal of a gap, the states of a few nodes and the places of two
-- entries. Assumes nothing.
--   hindrance S fs es c    the node by which change c of schema S fails in a case with facts fs and entries es; none if the
--                          change is accepted
--   failing S fs es p cs   the first change that fails, each judged on the schema that those before it left, and the node
use Rattle.std.specs.Prelude.{ℕ, zero, suc, ◌+◌, Bool, true, false, cond, not, ◌&&◌, ◌||◌, List, [], ◌∷◌, drop, Some, None, Option}
use Rattle.ids.specs.declared.IdSet.{IdSet}
use Rattle.ids.specs.Sets.{has}
use Rattle.model.specs.declared.Edge.{Edge}
use Rattle.model.specs.declared.Element.{Element}
use Rattle.model.specs.declared.Entry.{Entry}
use Rattle.model.specs.declared.Fact.{Fact}
use Rattle.model.specs.declared.State.{State}
use Rattle.model.specs.declared.State.TheVariants.{NotActivated, Activated, Running, Completed, Skipped}
use Rattle.model.specs.Signals.{is_false}
use Rattle.schema.specs.Checks.{SchemaParts}
use Rattle.schema.specs.Tables.{place_in}
use Rattle.marking.specs.Nearby.{signal_in}
use Rattle.marking.specs.States.{state_in}
use Rattle.history.specs.declared.EntryKind.TheVariants.{Start, End, Choose}
use Rattle.history.specs.Entries.{last_place, before}
use Rattle.followers.specs.Backwards.{followers}
use Rattle.changes.specs.declared.Change.{Change}
use Rattle.changes.specs.declared.Change.TheVariants.{DropEdge, Delete, Insert, InsertBeside, AddEdge}
use Rattle.draft_rules.specs.Stages.{changed}
use Rattle.conditions.specs.Deciders.{decisions_at, decided_against}

-- Running or Completed.
abbrev pub is_busy : Option State → Bool
is_busy None = false
is_busy (Some NotActivated) = false
is_busy (Some Activated) = false
is_busy (Some Running) = true
is_busy (Some Completed) = true
is_busy (Some Skipped) = false

abbrev pub is_completed : Option State → Bool
is_completed None = false
is_completed (Some NotActivated) = false
is_completed (Some Activated) = false
is_completed (Some Running) = false
is_completed (Some Completed) = true
is_completed (Some Skipped) = false

abbrev pub is_skipped : Option State → Bool
is_skipped None = false
is_skipped (Some NotActivated) = false
is_skipped (Some Activated) = false
is_skipped (Some Running) = false
is_skipped (Some Completed) = false
is_skipped (Some Skipped) = true

-- The least of the n ids from i on of which P holds.
abbrev pub least_from : (ℕ → Bool) → ℕ → ℕ → Option ℕ
least_from P i zero = None
least_from P i (suc n) = cond (P i) (Some i) (least_from P (i + 1) n)

unfoldable pub least : (ℕ → Bool) → Option ℕ
least P = least_from P 0 64

-- The least node of a set that is Running or Completed.
unfoldable pub least_busy : SchemaParts → List Fact → IdSet → Option ℕ
least_busy S fs ids = least (λ id. has ids id && is_busy (state_in S.row S.edges fs id))

abbrev pub is_follower : List Element → ℕ → ℕ → Bool
is_follower xs g id = has (followers (drop g xs)) id

abbrev pub busy_follower : SchemaParts → List Fact → ℕ → ℕ → Bool
busy_follower S fs g id = is_follower S.row g id && is_busy (state_in S.row S.edges fs id)

-- What is put in at gap g is hindered by the least of the gap's followers that are Running or Completed, unless the gap is
-- false.
abbrev pub hindered_at : SchemaParts → List Fact → ℕ → Option ℕ
hindered_at S fs g = cond (is_false (signal_in S.row fs g)) None (least (busy_follower S fs g))

-- The decision that fell against the branch of node a was made before node b was started.
abbrev pub decided_before : List Entry → ℕ → Option ℕ → Bool
decided_before es b None = false
decided_before es b (Some d) = before (last_place Choose d es) (last_place Start b es)

abbrev pub decisions_around_node : List Element → Option ℕ → List (ℕ × ℕ)
decisions_around_node xs None = []
decisions_around_node xs (Some p) = decisions_at xs p

abbrev pub decider : List Element → List Fact → ℕ → Option ℕ
decider xs fs a = decided_against fs (decisions_around_node xs (place_in xs a))

-- What a new edge asks for happened in its order: its target is not begun; or its source was finished before the target was
-- started; or it is Skipped, and the decision that fell against it was made before that.
abbrev pub in_order : SchemaParts → List Fact → List Entry → Edge → Bool
in_order S fs es e =
    not (is_busy (state_in S.row S.edges fs e.target))
    || ((is_completed (state_in S.row S.edges fs e.source) && before (last_place End e.source es) (last_place Start e.target es))
    || (is_skipped (state_in S.row S.edges fs e.source) && decided_before es e.target (decider S.row fs e.source)))

abbrev pub hindrance : SchemaParts → List Fact → List Entry → Change → Option ℕ
hindrance S fs es (DropEdge e) = None
hindrance S fs es (Delete a) = cond (is_busy (state_in S.row S.edges fs a)) (Some a) None
hindrance S fs es (Insert a g) = hindered_at S fs g
hindrance S fs es (InsertBeside a b c) = hindered_at S fs c
hindrance S fs es (AddEdge e) = cond (in_order S fs es e) None (Some e.target)

abbrev pub or_next : ℕ → Option ℕ → Option (ℕ × ℕ) → Option (ℕ × ℕ)
or_next p None more = more
or_next p (Some id) more = Some (p, id)

-- The changes stand from place p on.
abbrev pub failing : SchemaParts → List Fact → List Entry → ℕ → List Change → Option (ℕ × ℕ)
failing S fs es p [] = None
failing S fs es p (c ∷ cs) = or_next p (hindrance S fs es c) (failing (changed c S) fs es (p + 1) cs)
