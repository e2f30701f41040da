use Rattle.std.proofs.Common.{◌≡◌, ltb, leb, ◌&&◌, length, false, sym, ap, ◌∙◌, ⊎_elim}
use Rattle.schema.proofs.Checked.{schema_checked}
use Rattle.changes.specs.Effects.{row_after, edges_after}
use Rattle.draft_rules.specs.Rules.{adds}
use Rattle.drafts.proofs.Rooms.{room_to_take, room_for_edge}
use Rattle.drafts.proofs.judging.has_room.Goals as goal

pub returns-in-DropEdge : goal.returns-in-DropEdge
returns-in-DropEdge c =
    let s = schema_checked c.args.schema.now in
    let takes : adds c.args.change ≡ false = ⊎_elim (λ h. ap adds h.1) (λ h. ap adds h.1) c.in-DropEdge.is in
    room_to_take c.args.change _ _ s.few s.few_edges takes

pub returns-in-AddEdge : goal.returns-in-AddEdge
returns-in-AddEdge c =
    let S = c.args.schema.now in
    ap (λ es. ltb (length es) 32) c.edges.ensures
    ∙ room_for_edge c.in-AddEdge.field-0 S.row S.edges (schema_checked S).few
    ∙ ap (λ x. leb (length (row_after x S.row)) 128 && leb (length (edges_after x S.edges)) 32) (sym c.in-AddEdge.is)
