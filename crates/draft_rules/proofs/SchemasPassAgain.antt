-- A schema that passed the checks passes them again after an admissible change. Assumes nothing.
use Rattle.std.proofs.Common.{◌≡◌, ℕ, ◌+◌, ◌-◌, ◌<◌, true, false, not, List, [], ◌∷◌, ◌++◌, is_some, is_ok, Ok, Err, Result, Some, None, Option, sym, refl, ap, ◌∙◌, subst, inl, inr, ⊎_elim}
use Rattle.std.proofs.lemmas.Bool.{and_parts, not-true, ltb-true, leb-true}
use Rattle.bounded.proofs.Answers.{none_there}
use Rattle.model.specs.declared.Edge.{Edge}
use Rattle.model.specs.Trees.{Seq, flatten}
use Rattle.model.specs.Relations.{In, Joins}
use Rattle.model.specs.Rows.{Among, Unique, Low, Precedes}
use Rattle.model.specs.Paths.{Answer}
use Rattle.blocks.specs.Blocks.{fault}
use Rattle.blocks.proofs.RowsOfTrees.{tells_ok, tree_clean}
use Rattle.edges.specs.Verdicts.{edges_verdict, edge_verdict}
use Rattle.edges.proofs.RowIds.{among, once_tree, small_tree}
use Rattle.edges.proofs.Ranks.{answer_low}
use Rattle.edges.proofs.OrderTold.{tells, judges}
use Rattle.schema.specs.Checks.{SchemaParts, Admitted}
use Rattle.schema.specs.Causes.{Fine}
use Rattle.schema.proofs.Checked.{checked_fine, checked_nested, edges_fine}
use Rattle.schema.proofs.Wrongs.{fine_distinct}
use Rattle.schema.proofs.Passing.{passed_all}
use Rattle.changes.specs.declared.Change.{Change}
use Rattle.changes.specs.declared.Change.TheVariants.{DropEdge, Delete, Insert, InsertBeside, AddEdge}
use Rattle.changes.specs.Effects.{has_activity, stretch, row_after, edges_after}
use Rattle.changes.specs.Changed.{InFront, Gathered}
use Rattle.changes.specs.Kept.{Brings, Remains}
use Rattle.changes.specs.Laws.{Suits}
use Rattle.changes.proofs.Ids.{remain_or_new, unique_again}
use Rattle.changes.proofs.Nests.{nests}
use Rattle.changes.proofs.Inserts.{filled}
use Rattle.changes.proofs.Deletes.{taken_out}
use Rattle.changes.proofs.Wraps.{wrapped_up}
use Rattle.changes.proofs.Activities.{told}
use Rattle.draft_rules.specs.Stages.{changed}
use Rattle.draft_rules.specs.Rules.{low_ids, there}
use Rattle.draft_rules.specs.Laws.{Admissible, AnAdmissibleChangePassesAgain}
use Rattle.draft_rules.proofs.RelationsKept.{Kept, Back, kept, turned}
use Rattle.draft_rules.proofs.ActivitiesPutIn.{in_front, gathered, no_longer_in_front, no_longer_gathered}
use Rattle.draft_rules.proofs.ChangedEdges.{Pass, joined_in, put_in_pass, taken_out_pass, fewer_pass, one_more}

-- what a change needs is there
pub suits : (S : SchemaParts) (c : Change) → Unique S.row → there S c ≡ true → Suits c S.row
suits S (DropEdge e) q h = tt
suits S (Delete a) q h = (q, h)
suits S (Insert a g) q h = leb-true _ _ h
suits S (InsertBeside a b c) q h =
    let k = and_parts _ _ h in
    let l = and_parts _ _ k.0 in
    (ltb-true _ _ l.0, leb-true _ _ l.1, tells_ok (stretch b c S.row) (none_there _ (not-true _ k.1)))
suits S (AddEdge e) q h = tt

brings_low : (c : Change) → low_ids c ≡ true → (u : ℕ) → Brings c u → u < 64
brings_low (DropEdge e) h u b = elim b [ ]
brings_low (Delete a) h u b = elim b [ ]
brings_low (Insert a g) h u b = subst (λ n. n < 64) (sym b) (ltb-true _ _ h)
brings_low (InsertBeside a b c) h u k = subst (λ n. n < 64) (sym k) (ltb-true _ _ h)
brings_low (AddEdge e) h u b = elim b [ ]

-- what the checks said
pub edges_passed : (S : SchemaParts) → Admitted S → (t : Seq) → S.row ≡ flatten t → Pass t S.edges
edges_passed S c t q =
    let fine = checked_fine S.row S.edges c.passed in
    tells S.row S.edges (Ok tt) (sym (edges_fine S.row S.edges c.passed)) t q fine.0 fine.1

only_ok : (Joins Before : ℕ → ℕ → Type 0) (es earlier : List Edge) (p : ℕ) (r : Result (Unit {0}) (ℕ × ℕ))
    → Answer Joins Before earlier p es (Ok tt) → Answer Joins Before earlier p es r → Ok tt ≡ r
only_ok Joins Before [] earlier p r a b = sym b
only_ok Joins Before (e ∷ es) earlier p r (inl (ok, a)) (inl (fine, b)) = only_ok Joins Before es (earlier ++ e ∷ []) (p + 1) r a b
only_ok Joins Before (e ∷ es) earlier p r (inl (ok, a)) (inr (bad, b)) = absurd (bad ok)
only_ok Joins Before (e ∷ es) earlier p r (inr (bad, a)) b = absurd cc

module _ (S : SchemaParts) (passed : Admitted S) where
  fine : Fine S.row
  fine = checked_fine S.row S.edges passed.passed

  module _ (c : Change) (h : Admissible S c) where
    fits : Suits c S.row
    fits = suits S c fine.0 h.there

    pub fine_after : Fine (row_after c S.row)
    fine_after = (
      unique_again c S.row fits h.unused fine.0,
      λ u k. ⊎_elim (λ (m : Among S.row u × Remains c u). fine.1 u m.0) (brings_low c h.low u) ((remain_or_new c S.row u fits).0 k),
    )

  -- the tree after a change, on which the edges after it pass
  abbrev PassAfter : Change → Type 0
  PassAfter c = (u : Seq) × ((row_after c S.row ≡ flatten u) × Pass u (edges_after c S.edges))

  module _ (t : Seq) (is : S.row ≡ flatten t) where
    -- where an activity is put in
    one_put_in : (c : Change) (a : ℕ) → Admissible S c → Brings c a → (u : Seq) → row_after c (flatten t) ≡ flatten u
        → ((x y : ℕ) → Kept x y t u) → ((x y : ℕ) → (x ≡ a → ⊥) → (y ≡ a → ⊥) → Kept x y u t)
        → (row_after c S.row ≡ flatten u) × Pass u S.edges
    one_put_in c a h new u row more less =
        let after : row_after c S.row ≡ flatten u = ap (row_after c) is ∙ row in
        let not_yet : In t a → ⊥ = λ i. h.unused a new (subst (λ xs. Among xs a) (sym is) (among a t [] (inl i))) in
        let once_after = once_tree u (subst Unique after (fine_after c h).0) in
        let once_before = once_tree t (subst Unique is fine.0) in
        (after, put_in_pass t u a once_after not_yet more less once_before S.edges (edges_passed S passed t is))

    edges_pass : (c : Change) → Admissible S c → PassAfter c
    edges_pass (DropEdge e) h = (t, (is, fewer_pass t _ S.edges (edges_passed S passed t is)))
    edges_pass (Delete a) h =
        let once : Unique (flatten t) = subst Unique is fine.0 in
        let w = taken_out t a once ((told t a).0 (subst (λ xs. has_activity xs a ≡ true) is h.there)) in
        let R : Seq → Seq → Type 0 = Back (InFront a) in (
          w.0,
          (
            ap (row_after (Delete a)) is ∙ w.2,
            taken_out_pass t w.0 a (once_tree t once)
                (λ x y. kept x y (Back R) (in_front a x y) w.1.0 w.0 t (turned R w.1.0 t w.0 w.1.1))
                (λ x y m n. kept x y R (no_longer_in_front a x y m n) w.1.0 t w.0 w.1.1)
                S.edges (edges_passed S passed t is),
          ),
        )
    edges_pass (Insert a g) h =
        let w = filled t a g (subst (Suits (Insert a g)) is (fits (Insert a g) h)) in
        let R : Seq → Seq → Type 0 = InFront a in (
          w.0,
          one_put_in (Insert a g) a h refl w.0 w.2
              (λ x y. kept x y R (in_front a x y) g t w.0 w.1)
              (λ x y m n. kept x y (Back R) (no_longer_in_front a x y m n) g w.0 t (turned R g t w.0 w.1)),
        )
    edges_pass (InsertBeside a b c) h =
        let s = subst (Suits (InsertBeside a b c)) is (fits (InsertBeside a b c) h) in
        let w = wrapped_up t a b c s.0 s.1 s.2 in
        let R : Seq → Seq → Type 0 = Gathered a (c - b) in (
          w.0,
          one_put_in (InsertBeside a b c) a h refl w.0 w.2
              (λ x y. kept x y R (gathered a x y (c - b)) b t w.0 w.1)
              (λ x y m n. kept x y (Back R) (no_longer_gathered a x y m n (c - b)) b w.0 t (turned R b t w.0 w.1)),
        )
    edges_pass (AddEdge e) h =
        let p = edges_passed S passed t is in
        let small : (x y : ℕ) → Joins t x y → (x < 64) × (y < 64) =
        λ x y j. let i = joined_in x y t j in let s = small_tree t (subst Low is fine.1) in (s x i.0, s y i.1) in
        let low = answer_low (Joins t) (Precedes t) small S.edges [] 0 p in
        (t, (is, one_more t S.edges e ((judges S.row S.edges e (edge_verdict S.row S.edges e) refl t is fine.0 fine.1 low).0 h.kept) p))

  module _ (c : Change) (h : Admissible S c) where
    verdict : Ok tt ≡ edges_verdict (row_after c S.row) (edges_after c S.edges)
    verdict =
        let n = checked_nested S.row S.edges passed.passed in
        let e = edges_pass n.0 n.2 c h in
        let f = fine_after c h in
        only_ok (Joins e.0) (Precedes e.0) (edges_after c S.edges) [] 0 _ e.1.1 (tells (row_after c S.row) (edges_after c S.edges) _ refl e.0 e.1.0 f.0 f.1)

    nested : is_some (fault [] 0 (row_after c S.row)) ≡ false
    nested = ap is_some (tree_clean (row_after c S.row) (nests c S.row (fits c h) (checked_nested S.row S.edges passed.passed)))

    passes_again : Admitted (changed c S)
    passes_again = record {
      few = h.few;
      few_edges = h.few_edges;
      passed = passed_all (row_after c S.row) (edges_after c S.edges) tt (fine_distinct (row_after c S.row) (fine_after c h)) nested verdict;
    }

pub pass_again : AnAdmissibleChangePassesAgain
pass_again S c passed h = passes_again S passed c h
