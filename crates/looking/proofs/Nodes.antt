-- Which nodes are left by changes that take something out. Assumes nothing.
use Rattle.std.proofs.Common.{◌≡◌, ℕ, false, inl, inr}
use Rattle.std.proofs.lemmas.Bool.{true≢false}
use Rattle.model.specs.Rows.{Among}
use Rattle.schema.specs.Checks.{SchemaParts, Admitted}
use Rattle.schema.proofs.Checked.{checked_fine}
use Rattle.changes.specs.declared.Change.{Change}
use Rattle.changes.specs.declared.Change.TheVariants.{DropEdge, Delete, Insert, InsertBeside, AddEdge}
use Rattle.changes.specs.Effects.{row_after}
use Rattle.changes.proofs.Ids.{remain_or_new}
use Rattle.draft_rules.specs.Rules.{adds}
use Rattle.draft_rules.specs.Laws.{Admissible}
use Rattle.conditions.specs.Kinds.{TakesOut}

-- A deleted activity is gone, and what takes something out brings no node in.
pub gone : (S : SchemaParts) (c : Change) (a : ℕ) → Admitted S → Admissible S c → TakesOut c a → Among (row_after c S.row) a → ⊥
gone S (DropEdge e) a k h t m = t
gone S (Delete i) a k h t m =
    let fine = checked_fine S.row S.edges k.passed in
    elim ((remain_or_new (Delete i) S.row a (fine.0, h.there)).0 m) [
      | inl p ↦ p.1 t
      | inr z ↦ z
    ]
gone S (Insert i g) a k h t m = t
gone S (InsertBeside i b c) a k h t m = t
gone S (AddEdge e) a k h t m = t

pub fewer : (S : SchemaParts) (c : Change) (u : ℕ) → Admitted S → Admissible S c → adds c ≡ false → Among (row_after c S.row) u → Among S.row u
fewer S (DropEdge e) u k h z m = m
fewer S (Delete i) u k h z m =
    let fine = checked_fine S.row S.edges k.passed in
    elim ((remain_or_new (Delete i) S.row u (fine.0, h.there)).0 m) [
      | inl p ↦ p.0
      | inr e ↦ absurd e
    ]
fewer S (Insert i g) u k h z m = absurd (true≢false z)
fewer S (InsertBeside i b c) u k h z m = absurd (true≢false z)
fewer S (AddEdge e) u k h z m = absurd (true≢false z)
