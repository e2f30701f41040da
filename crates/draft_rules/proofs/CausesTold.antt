-- Each test of a change tells whether its cause holds. Assumes nothing.
use Rattle.std.proofs.Common.{◌≡◌, ℕ, ◌<◌, ◌≤◌, Bool, true, false, not, ◌&&◌, ◌||◌, ◌⊎◌, List, [], ◌∷◌, length, is_some, Some, None, Option, Ok, Err, Result, is_ok, Decides, sym, refl, ap, ◌∙◌, subst, inl, inr, eqb, ltb, leb, arith}
use Rattle.std.proofs.lemmas.Bool.{and_parts, not-true, false≢true}
use Rattle.std.proofs.lemmas.Bool.Decides.{Decides-at, Decides-like, Decides-not, Decides-and, Decides-or, Decides-eqb, Decides-ltb, nat_tests}
use Rattle.bounded.proofs.Answers.{none_there}
use Rattle.ids.specs.Sets.{is_id}
use Rattle.model.specs.declared.Element.{Element}
use Rattle.model.specs.declared.Edge.{Edge}
use Rattle.model.specs.Paths.{Listed, Proper}
use Rattle.model.specs.Relations.{Joins}
use Rattle.model.specs.Rows.{Among, Low, Precedes}
use Rattle.model.specs.Trees.{Seq, flatten, Nested}
use Rattle.blocks.specs.Blocks.{fault}
use Rattle.blocks.proofs.RowsOfTrees.{tells_ok, tree_clean}
use Rattle.edges.specs.Edges.{listed}
use Rattle.edges.specs.Verdicts.{edges_verdict, edge_verdict, LowEdges}
use Rattle.edges.proofs.OrderTold.{tells, judges}
use Rattle.edges.proofs.Ranks.{answer_low}
use Rattle.edges.proofs.RowIds.{small_tree}
use Rattle.edges.proofs.NodeRelations.{beside_in}
use Rattle.edges.proofs.SharedLoops.{beside_left}
use Rattle.schema.specs.Checks.{SchemaParts, Admitted}
use Rattle.schema.specs.Causes.{Fine}
use Rattle.schema.specs.Reading.{among}
use Rattle.schema.proofs.Checked.{checked_fine, checked_nested, edges_fine}
use Rattle.schema.proofs.Wrongs.{decides_among}
use Rattle.changes.specs.declared.Change.{Change}
use Rattle.changes.specs.declared.Change.TheVariants.{DropEdge, Delete, Insert, InsertBeside, AddEdge}
use Rattle.changes.specs.Effects.{has_activity, stretch, row_after, edges_after}
use Rattle.changes.specs.Kept.{Brings}
use Rattle.changes.proofs.Activities.{in_middle}
use Rattle.changes.proofs.Ids.{found}
use Rattle.draft_rules.specs.Rules.{adds, any_adds, low_ids, formed, there, new_id, put_in, unused, fits, edge_kept}
use Rattle.draft_rules.specs.Causes.{High, PutsIn, SomePutsIn, Misformed, HasActivity, IsThere, Brought, Taken, Over, IsProper}

never : {P : Type 0} → (P → ⊥) → Decides false P
never n = (λ e. absurd (false≢true e), λ p. absurd (n p))

always : {P : Type 0} → P → Decides true P
always p = (λ e. p, λ q. refl)

-- what fails a test of two parts fails one of them
fails_one : {P Q : Type 0} (x y : Bool) → Decides (not x) P → Decides (not y) Q → Decides (not (x && y)) (P ⊎ Q)
fails_one x y p q = Decides-at _ _ (apart x y) (Decides-or _ _ p q)
  where
    apart : (x y : Bool) → not (x && y) ≡ (not x || not y)
    apart true y = refl
    apart false y = refl

at_least : (m n : ℕ) → Decides (not (ltb m n)) (n ≤ m)
at_least m n = grind (arith, nat_tests)

more_than : (m n : ℕ) → Decides (not (leb m n)) (n < m)
more_than m n = grind (arith, nat_tests)

at_most : (m n : ℕ) → Decides (leb m n) (m ≤ n)
at_most m n = grind (arith, nat_tests)

-- whether its bytes are those of a change that may come now
high_told : (c : Change) → Decides (not (low_ids c)) (High c)
high_told (DropEdge e) = fails_one _ _ (at_least e.source 64) (at_least e.target 64)
high_told (Delete a) = at_least a 64
high_told (Insert a g) = at_least a 64
high_told (InsertBeside a b c) = at_least a 64
high_told (AddEdge e) = fails_one _ _ (at_least e.source 64) (at_least e.target 64)

adds_told : (c : Change) → Decides (adds c) (PutsIn c)
adds_told (DropEdge e) = never (λ h. h)
adds_told (Delete a) = never (λ h. h)
adds_told (Insert a g) = always tt
adds_told (InsertBeside a b c) = always tt
adds_told (AddEdge e) = always tt

some_told : (cs : List Change) → Decides (any_adds cs) (SomePutsIn cs)
some_told [] = never (λ h. h)
some_told (c ∷ cs) = Decides-or _ _ (adds_told c) (some_told cs)

pub misformed_told : (done : List Change) (c : Change) → Decides (not (formed done c)) (Misformed done c)
misformed_told done c =
    fails_one _ _ (high_told c)
    (Decides-at _ _ (apart (adds c) (any_adds done)) (Decides-and _ _ (Decides-not _ (adds_told c)) (some_told done)))
  where
    apart : (x y : Bool) → not (x || not y) ≡ (not x && y)
    apart true y = refl
    apart false true = refl
    apart false false = refl

-- whether what it speaks of is there
listed_told : (es : List Edge) (e : Edge) → Decides (listed es e) (Listed e.source e.target es)
listed_told [] e = never (λ h. h)
listed_told (d ∷ ds) e =
    Decides-or _ _
    (Decides-like _ (λ p. (sym p.0, sym p.1)) (λ p. (sym p.0, sym p.1))
    (Decides-and _ _ (Decides-eqb d.source e.source) (Decides-eqb d.target e.target)))
    (listed_told ds e)

activity_told : (xs : List Element) (a : ℕ) → Decides (has_activity xs a) (HasActivity xs a)
activity_told xs a = (found xs a, λ h. ap (λ ys. has_activity ys a) h.2 ∙ in_middle a h.0 h.1)

whole_told : (xs : List Element) → Decides (not (is_some (fault [] 0 xs))) (Nested xs)
whole_told xs = (λ e. tells_ok xs (none_there (fault [] 0 xs) (not-true _ e)), λ n. ap (λ o. not (is_some o)) (tree_clean xs n))

pub there_told : (S : SchemaParts) (c : Change) → Decides (there S c) (IsThere S c)
there_told S (DropEdge e) = listed_told S.edges e
there_told S (Delete a) = activity_told S.row a
there_told S (Insert a g) = at_most g (length S.row)
there_told S (InsertBeside a b c) =
    Decides-like _ (λ (p : ((b < c) × (c ≤ length S.row)) × Nested (stretch b c S.row)). (p.0.0, p.0.1, p.1)) (λ p. ((p.0, p.1), p.2))
    (Decides-and _ _ (Decides-and _ _ (Decides-ltb b c) (at_most c (length S.row))) (whole_told (stretch b c S.row)))
there_told S (AddEdge e) =
    Decides-and _ _ (activity_told S.row e.source) (activity_told S.row e.target)

-- whether its new id was there
brings_told : (c : Change) (u : ℕ) → Decides (is_id (new_id c) u) (Brings c u)
brings_told (DropEdge e) u = never (λ h. h)
brings_told (Delete a) u = never (λ h. h)
brings_told (Insert a g) u = Decides-eqb u a
brings_told (InsertBeside a b c) u = Decides-eqb u a
brings_told (AddEdge e) u = never (λ h. h)

brought_told : (cs : List Change) (u : ℕ) → Decides (put_in cs u) (Brought cs u)
brought_told [] u = never (λ h. h)
brought_told (c ∷ cs) u = Decides-or _ _ (brings_told c u) (brought_told cs u)

module _ (base : List Element) (done : List Change) where
  abbrev Was : ℕ → Type 0
  Was u = Among base u ⊎ Brought done u

  this_told : (a : ℕ) → Decides (not (not (among base a || put_in done a))) ((u : ℕ) × (u ≡ a) × Was u)
  this_told a =
      Decides-at _ _ (twice (among base a || put_in done a))
      (Decides-like _ (λ w. (a, refl, w)) (λ h. subst Was h.1 h.2)
      (Decides-or _ _ (decides_among base a) (brought_told done a)))
    where
      twice : (b : Bool) → not (not b) ≡ b
      twice true = refl
      twice false = refl

  pub taken_told : (c : Change) → Decides (not (unused base done (new_id c))) (Taken base done c)
  taken_told (DropEdge e) = never (λ h. h.1)
  taken_told (Delete a) = never (λ h. h.1)
  taken_told (Insert a g) = this_told a
  taken_told (InsertBeside a b c) = this_told a
  taken_told (AddEdge e) = never (λ h. h.1)

-- whether there would be too many
pub over_told : (done : List Change) (S : SchemaParts) (c : Change) → Decides (not (fits done S c)) (Over done S c)
over_told done S c =
    let m = length (row_after c S.row) in
    let n = length (edges_after c S.edges) in
    fails_one _ _ (at_least (length done) 16)
    (fails_one _ _ (more_than m 128) (more_than n 32))

-- Whether its edge keeps the rules: the row of a schema that passed is that of a tree, and ids on its edges end at 63.
joins_low : (t : Seq) → Low (flatten t) → (u v : ℕ) → Joins t u v → (u < 64) × (v < 64)
joins_low t low u v (inl b, s) = (small_tree t low u (beside_left u v t b), small_tree t low v (beside_in u v t b))
joins_low t low u v (inr b, s) = (small_tree t low u (beside_in v u t b), small_tree t low v (beside_left v u t b))

module _ (S : SchemaParts) (ok : Admitted S) where
  fine : Fine S.row
  fine = checked_fine S.row S.edges ok.passed

  edges_low : (t : Seq) → S.row ≡ flatten t → LowEdges S.edges
  edges_low t is =
      answer_low (Joins t) (Precedes t) (joins_low t (subst Low is fine.1)) S.edges [] 0
      (tells S.row S.edges (Ok tt) (sym (edges_fine S.row S.edges ok.passed)) t is fine.0 fine.1)

  pub kept_told : (c : Change) → Decides (edge_kept S c) (IsProper S c)
  kept_told (DropEdge e) = always tt
  kept_told (Delete a) = always tt
  kept_told (Insert a g) = always tt
  kept_told (InsertBeside a b c) = always tt
  kept_told (AddEdge e) = (
    λ h t is. (judged t is).0 h,
    λ p. (judged some.0 some.2).1 (p some.0 some.2),
  )
    where
      some : Nested S.row
      some = checked_nested S.row S.edges ok.passed

      judged : (t : Seq) → S.row ≡ flatten t → Decides (edge_verdict S.row S.edges e) (Proper (Joins t) (Precedes t) S.edges e)
      judged t is = judges S.row S.edges e (edge_verdict S.row S.edges e) refl t is fine.0 fine.1 (edges_low t is)
