-- What a schema's own fields tell of its row. Assumes nothing.
use Rattle.std.proofs.Common.{◌≡◌, ℕ, ◌≤◌, true, List, [], ◌∷◌, length, Ok, Some, None, Option, refl, ap, inl, inr, arith}
use Rattle.std.proofs.lemmas.Bool.{and_parts, not-true}
use mathlib.Core.Logic.{∥∥₁_elim}
use base.Stored.{Coded, Coded-set, coded_ℕ, coded_list, coded_via, coded×}
use Rattle.bounded.proofs.Answers.{none_there, all_right}
use Rattle.ids.specs.declared.IdSet.{IdSet}
use Rattle.model.specs.declared.Element.{Element}
use Rattle.model.specs.declared.Edge.{Edge}
use Rattle.model.specs.Elements.{node_id}
use Rattle.model.specs.Rows.{Low}
use Rattle.model.specs.Trees.{Nested}
use Rattle.blocks.specs.Blocks.{fault}
use Rattle.blocks.proofs.RowsOfTrees.{tells_ok}
use Rattle.edges.specs.declared.order.Order.{Order}
use Rattle.edges.specs.Places.{OrderOf}
use Rattle.edges.specs.Verdicts.{edges_verdict}
use Rattle.layout.specs.declared.Layout.{Layout}
use Rattle.layout.specs.declared.Position.{Position}
use Rattle.layout.specs.Pass.{LayoutOf}
use Rattle.followers.specs.declared.FollowerTable.{FollowerTable}
use Rattle.followers.specs.Tables.{FollowersOf}
use Rattle.schema.specs.declared.schema.Schema.{Schema}
use Rattle.schema.specs.Schemas.{parts}
use Rattle.schema.specs.Checks.{low_id, distinct, passes, Admitted}
use Rattle.schema.specs.Causes.{Fine}
use Rattle.schema.proofs.Wrongs.{used_false, bears_low}

-- what a set of values has in one way only can be taken out of a ghost field
abbrev listed : Option ℕ → List ℕ
listed None = []
listed (Some n) = n ∷ []

listed_one : (x y : Option ℕ) → listed x ≡ listed y → x ≡ y
listed_one None None e = refl
listed_one None (Some n) e = absurd (let z : ◌≡◌ {A = ℕ} 0 1 = cc in omega arith)
listed_one (Some m) None e = absurd (let z : ◌≡◌ {A = ℕ} 0 1 = cc in omega arith)
listed_one (Some m) (Some n) e = cc

coded_option : Coded (Option ℕ)
coded_option = coded_via (coded_list coded_ℕ) listed listed_one

coded_ids : Coded IdSet
coded_ids = coded_via coded_ℕ (λ s. s.bits) (λ x y e. ap (λ n. record { bits = n }) e)

coded_position : Coded Position
coded_position =
    coded_via (coded× coded_option (coded× coded_option (coded× coded_ℕ coded_ℕ))) (λ p. (p.block, (p.loop_start, (p.branch, p.depth))))
    (λ x y e. ap (λ (q : Option ℕ × (Option ℕ × (ℕ × ℕ))). record { block = q.0; loop_start = q.1.0; branch = q.1.1.0; depth = q.1.1.1 }) e)

pub ordered : (xs : List Element) (o : Order) → ∥ OrderOf xs o ∥₁ → OrderOf xs o
ordered xs o h = record {
  before = ∥∥₁_elim h (Coded-set (coded_list coded_ids) _ _) (λ is. is.before);
  partners = ∥∥₁_elim h (Coded-set (coded_list coded_ids) _ _) (λ is. is.partners);
}

pub laid : (xs : List Element) (l : Layout) → ∥ LayoutOf xs l ∥₁ → LayoutOf xs l
laid xs l h = record {
  len = ∥∥₁_elim h (Coded-set coded_ℕ _ _) (λ is. is.len);
  places = ∥∥₁_elim h (Coded-set (coded_list coded_option) _ _) (λ is. is.places);
  positions = ∥∥₁_elim h (Coded-set (coded_list coded_position) _ _) (λ is. is.positions);
  ends = ∥∥₁_elim h (Coded-set (coded_list coded_option) _ _) (λ is. is.ends);
}

pub followed : (xs : List Element) (t : FollowerTable) → ∥ FollowersOf xs t ∥₁ → FollowersOf xs t
followed xs t h = record { each = λ g. ∥∥₁_elim h (Coded-set coded_ids _ _) (λ is. is.each g) }

pub distinct_fine : (xs : List Element) → distinct xs ≡ true → Fine xs
distinct_fine [] e = (tt, λ u a. elim a [ ])
distinct_fine (x ∷ xs) e =
    let h = and_parts _ _ e in
    let k = and_parts _ _ h.0 in
    let f = distinct_fine xs h.1 in
    ((used_false xs x (not-true _ k.1), f.0), low k.0 f.1)
  where
    low : low_id (node_id x) ≡ true → Low xs → Low (x ∷ xs)
    low e l u (inl b) = bears_low x e u b
    low e l u (inr a) = l u a

module _ (row : List Element) (es : List Edge) (e : passes row es ≡ true) where
  pub checked_fine : Fine row
  checked_fine = distinct_fine row (and_parts _ _ e).0

  pub no_fault : fault [] 0 row ≡ None
  no_fault = none_there (fault [] 0 row) (not-true _ (and_parts _ _ (and_parts _ _ e).1).0)

  pub edges_fine : edges_verdict row es ≡ Ok tt
  edges_fine = all_right (edges_verdict row es) (and_parts _ _ (and_parts _ _ e).1).1

  pub checked_nested : Nested row
  checked_nested = tells_ok row no_fault

pub laid_few : (xs : List Element) (l : Layout) → ∥ LayoutOf xs l ∥₁ → length xs ≤ 128
laid_few xs l h = let is = laid xs l h in omega (arith, l.few, is.len)

-- a schema passed the checks
pub schema_checked : (s : Schema) → Admitted (parts s)
schema_checked s = record { few = laid_few _ s.layout s.laid; few_edges = s.few_edges; passed = s.passed }
