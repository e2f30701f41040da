-- Which changes a draft admits: its checks, in their order. Assumes nothing.
--   refusal base done S c      why change c may not come after the changes `done`, which made S of a schema with row base
--   change_judged base done S raw   the change that four bytes spell, or why it is refused
--   all_admitted base done S cs     each of these changes may come after those before it
use Rattle.std.specs.Prelude.{ℕ, Bool, true, false, not, ◌&&◌, ◌||◌, List, [], ◌∷◌, ◌++◌, length, is_some, Some, None, Ok, Err, Option, Result, ◌==◌, nat_lt, nat_le}
use Rattle.ids.specs.Sets.{is_id}
use Rattle.model.specs.declared.Element.{Element}
use Rattle.blocks.specs.Blocks.{fault}
use Rattle.edges.specs.Edges.{listed}
use Rattle.edges.specs.Verdicts.{edge_verdict}
use Rattle.schema.specs.Checks.{SchemaParts}
use Rattle.schema.specs.Reading.{among}
use Rattle.plan_record.specs.declared.RawChange.{RawChange}
use Rattle.changes.specs.declared.Change.{Change}
use Rattle.changes.specs.declared.Change.TheVariants.{DropEdge, Delete, Insert, InsertBeside, AddEdge}
use Rattle.changes.specs.Effects.{has_activity, stretch, row_after, edges_after}
use Rattle.changes.specs.Spellings.{bytes_read}
use Rattle.draft_rules.specs.declared.ChangeRefusal.{ChangeRefusal}
use Rattle.draft_rules.specs.declared.ChangeRefusal.TheVariants as refused
use Rattle.draft_rules.specs.Stages.{changed}

-- It puts something in, rather than taking something out.
abbrev pub adds : Change → Bool
adds (DropEdge e) = false
adds (Delete a) = false
adds (Insert a g) = true
adds (InsertBeside a b c) = true
adds (AddEdge e) = true

abbrev pub any_adds : List Change → Bool
any_adds [] = false
any_adds (c ∷ cs) = adds c || any_adds cs

-- The ids that it names end at 63.
abbrev pub low_ids : Change → Bool
low_ids (DropEdge e) = nat_lt e.source 64 && nat_lt e.target 64
low_ids (Delete a) = nat_lt a 64
low_ids (Insert a g) = nat_lt a 64
low_ids (InsertBeside a b c) = nat_lt a 64
low_ids (AddEdge e) = nat_lt e.source 64 && nat_lt e.target 64

-- What takes something out comes before all that puts something in.
abbrev pub formed : List Change → Change → Bool
formed done c = low_ids c && (adds c || not (any_adds done))

-- Edge and activities are there, a gap lies in the row, and between two gaps stand whole items.
abbrev pub there : SchemaParts → Change → Bool
there S (DropEdge e) = listed S.edges e
there S (Delete a) = has_activity S.row a
there S (Insert a g) = nat_le g (length S.row)
there S (InsertBeside a b c) = (nat_lt b c && nat_le c (length S.row)) && not (is_some (fault [] 0 (stretch b c S.row)))
there S (AddEdge e) = has_activity S.row e.source && has_activity S.row e.target

-- The id of the activity that it puts in.
abbrev pub new_id : Change → Option ℕ
new_id (DropEdge e) = None
new_id (Delete a) = None
new_id (Insert a g) = Some a
new_id (InsertBeside a b c) = Some a
new_id (AddEdge e) = None

-- One of these changes put this id in.
abbrev pub put_in : List Change → ℕ → Bool
put_in [] a = false
put_in (c ∷ cs) a = is_id (new_id c) a || put_in cs a

-- The id is neither in the row that the draft began with, even if it was deleted since, nor was it put in since.
abbrev pub unused : List Element → List Change → Option ℕ → Bool
unused base done None = true
unused base done (Some a) = not (among base a || put_in done a)

-- It is no more than the sixteenth change, and leaves no more elements and edges than a schema may have.
abbrev pub fits : List Change → SchemaParts → Change → Bool
fits done S c = nat_lt (length done) 16 && (nat_le (length (row_after c S.row)) 128 && nat_le (length (edges_after c S.edges)) 32)

-- An added edge keeps the rules for edges, behind those that are listed.
abbrev pub edge_kept : SchemaParts → Change → Bool
edge_kept S (DropEdge e) = true
edge_kept S (Delete a) = true
edge_kept S (Insert a g) = true
edge_kept S (InsertBeside a b c) = true
edge_kept S (AddEdge e) = edge_verdict S.row S.edges e

abbrev pub unless : Bool → ChangeRefusal → Option ChangeRefusal → Option ChangeRefusal
unless true r more = more
unless false r more = Some r

abbrev pub refusal : List Element → List Change → SchemaParts → Change → Option ChangeRefusal
refusal base done S c =
    unless (formed done c) refused.Form
    (unless (there S c) refused.Missing
    (unless (unused base done (new_id c)) refused.Used
    (unless (fits done S c) refused.Full
    (unless (edge_kept S c) refused.Edge None))))

abbrev pub by_refusal : Change → Option ChangeRefusal → Result Change ChangeRefusal
by_refusal c None = Ok c
by_refusal c (Some r) = Err r

-- Bytes that spell no change are refused as one that is not formed.
abbrev pub by_bytes : List Element → List Change → SchemaParts → Option Change → Result Change ChangeRefusal
by_bytes base done S None = Err refused.Form
by_bytes base done S (Some c) = by_refusal c (refusal base done S c)

abbrev pub change_judged : List Element → List Change → SchemaParts → RawChange → Result Change ChangeRefusal
change_judged base done S raw = by_bytes base done S (bytes_read raw.kind raw.a raw.b raw.c)

abbrev pub all_admitted : List Element → List Change → SchemaParts → List Change → Bool
all_admitted base done S [] = true
all_admitted base done S (c ∷ cs) = not (is_some (refusal base done S c)) && all_admitted base (done ++ c ∷ []) (changed c S) cs
