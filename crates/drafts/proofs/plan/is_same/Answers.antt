use Rattle.schema.specs.Schemas.{parts}
use Rattle.drafts.proofs.Sames.{same_rows, same_edges, decides_read}
use Rattle.drafts.proofs.plan.is_same.Goals as goal

pub returns-then-eq : goal.returns-then-eq
returns-then-eq c =
    let S = parts c.args.one.now in
    let T = parts c.args.other.now in
    let rows = decides_read S.row T.row _ _ c.eq.result c.row.ensures.value c.row-2.ensures.value (same_rows _ _ c.eq.result c.eq.ensures) in
    let lists = decides_read S.edges T.edges _ _ c.eq-then-eq.result c.edges.ensures c.edges-then-eq.ensures (same_edges _ _ c.eq-then-eq.result c.eq-then-eq.ensures) in
    (λ e. (rows.0 c.if-eq.true, lists.0 e), λ h. lists.1 h.1)

pub returns-else-eq : goal.returns-else-eq
returns-else-eq c =
    let S = parts c.args.one.now in
    let T = parts c.args.other.now in
    let rows = decides_read S.row T.row _ _ c.eq.result c.row.ensures.value c.row-2.ensures.value (same_rows _ _ c.eq.result c.eq.ensures) in
    (λ e. absurd cc, λ h. rows.1 h.0)
