-- Changed rows have the nodes of the row, and no sync edge leads from the new one. Assumes nothing.
use Rattle.std.proofs.Common.{◌≡◌, ℕ, ◌<◌, ◌≤◌, ◌↔◌, Bool, true, false, List, [], ◌∷◌, length, Decides, sym, refl, ap, ◌∙◌, subst, inl, inr}
use Rattle.model.specs.declared.Edge.{Edge}
use Rattle.model.specs.declared.Element.{Element}
use Rattle.model.specs.declared.Entry.{Entry}
use Rattle.model.specs.Entries.{entry_id}
use Rattle.model.specs.Nodes.{HasNode}
use Rattle.model.specs.Relations.{In, Joins}
use Rattle.model.specs.Rows.{Among}
use Rattle.model.specs.Trees.{Seq, flatten, Nested}
use Rattle.edges.proofs.NodeRelations.{beside_in}
use Rattle.edges.proofs.SharedLoops.{beside_left}
use Rattle.edges.proofs.RowIds as rows
use Rattle.schema.specs.Checks.{SchemaParts, Admitted}
use Rattle.schema.proofs.Checked.{checked_fine, checked_nested}
use Rattle.runs.specs.Steps.{fits_in}
use Rattle.runs.proofs.NodesFit.{fits_node}
use Rattle.rounds.proofs.LoopEdges.{AllJoined, checked_joined}
use Rattle.changes.specs.declared.Change.TheVariants.{Insert, InsertBeside}
use Rattle.changes.specs.Effects.{stretch, row_after}
use Rattle.changes.proofs.Inserts.{filled}
use Rattle.changes.proofs.Wraps.{wrapped_up}
use Rattle.row_runs.proofs.ChangedNodes.{inserted_has, wrapped_has}
use Rattle.row_runs.proofs.HaltedRuns.{NoSource, on_row}

joined_left : (t : Seq) (s v : ℕ) → Joins t s v → In t s
joined_left t s v j = elim j.0 [
  | inl k ↦ beside_left s v t k
  | inr k ↦ beside_in v s t k
]

apart : (t : Seq) (a : ℕ) (es : List Edge) → (In t a → ⊥) → AllJoined t es → NoSource a es
apart t a [] n j = tt
apart t a (e ∷ es) n j = ((λ h. n (subst (In t) h (joined_left t e.source e.target j.0))), apart t a es n j.1)

-- no edge leads from what is not in the row
pub no_source : (S : SchemaParts) (a : ℕ) → Admitted S → (Among S.row a → ⊥) → NoSource a S.edges
no_source S a c n =
    let t = checked_nested S.row S.edges c.passed in
    apart t.0 a S.edges (λ h. n (subst (λ xs. Among xs a) (sym t.2) (rows.among a t.0 [] (inl h)))) (checked_joined S c t.0 t.2)

agree : (P Q : Type 0) (b c : Bool) → Decides b P → Decides c Q → P ↔ Q → c ≡ b
agree P Q true c d e s = e.1 (s.0 (d.0 refl))
agree P Q false c d e s = go c refl
  where
    go : (k : Bool) → c ≡ k → k ≡ false
    go true h = sym (d.1 (s.1 (e.0 h)))
    go false h = refl

-- steps fit alike on two rows whose trees have the same nodes
fits_alike : (S : SchemaParts) (ys : List Element) → Admitted S → Admitted (on_row S ys) → (e : Entry) (t u : Seq) → S.row ≡ flatten t → ys ≡ flatten u
    → HasNode t e ↔ HasNode u e → fits_in ys e ≡ fits_in S.row e
fits_alike S ys c d e t u is was same =
    let f = checked_fine S.row S.edges c.passed in
    let h = checked_fine ys S.edges d.passed in
    agree (HasNode t e) (HasNode u e) (fits_in S.row e) (fits_in ys e)
    (fits_node S.row c.few f.0 f.1 t is e) (fits_node ys d.few h.0 h.1 u was e) same

module _ (S : SchemaParts) (a : ℕ) (c : Admitted S) where
  pub inserted_fits : (g : ℕ) → Admitted (on_row S (row_after (Insert a g) S.row)) → g ≤ length S.row
      → (e : Entry) → (entry_id e ≡ a → ⊥) → fits_in (row_after (Insert a g) S.row) e ≡ fits_in S.row e
  inserted_fits g d within e n =
      let t = checked_nested S.row S.edges c.passed in
      let u = filled t.0 a g (subst (λ xs. g ≤ length xs) t.2 within) in
      fits_alike S _ c d e t.0 u.0 t.2 (ap (row_after (Insert a g)) t.2 ∙ u.2) (inserted_has e a n g t.0 u.0 u.1)

  pub wrapped_fits : (b p : ℕ) → Admitted (on_row S (row_after (InsertBeside a b p) S.row)) → b < p → p ≤ length S.row → Nested (stretch b p S.row)
      → (e : Entry) → (entry_id e ≡ a → ⊥) → fits_in (row_after (InsertBeside a b p) S.row) e ≡ fits_in S.row e
  wrapped_fits b p d order within whole e n =
      let t = checked_nested S.row S.edges c.passed in
      let u = wrapped_up t.0 a b p order (subst (λ xs. p ≤ length xs) t.2 within) (subst (λ xs. Nested (stretch b p xs)) t.2 whole) in
      fits_alike S _ c d e t.0 u.0 t.2 (ap (row_after (InsertBeside a b p)) t.2 ∙ u.2) (wrapped_has e a n b _ t.0 u.0 u.1)
