-- No sync edge leads out of a loop's body, and none from its test. Assumes nothing.
use Rattle.std.proofs.Common.{◌≡◌, ℕ, ◌+◌, true, not, List, [], ◌∷◌, ◌++◌, is_some, is_ok, Ok, Err, Result, sym, refl, subst, inl, inr, arith}
use Rattle.model.specs.declared.Edge.{Edge}
use Rattle.model.specs.Trees.{Seq, nil, cons, Item, activity, loop, and, xor, Branches, last, bar, flatten}
use Rattle.model.specs.Nodes.{Holds, HoldsItem, HoldsBranches}
use Rattle.model.specs.Paths.{Answer}
use Rattle.model.specs.Relations.{In, InItem, InBranches, Level, LevelItem, LevelBranches, Looped, LoopedItem, LoopedBranches, SameLoop, Joins}
use Rattle.model.specs.Rows.{Precedes}
use Rattle.edges.proofs.TreeOrder.{Once, OnceItem, OnceBranches}
use Rattle.edges.proofs.NodeRelations.{level_in, level_in_item, level_in_branches}
use Rattle.edges.proofs.OrderTold.{tells}
use Rattle.schema.specs.Checks.{SchemaParts, Admitted}
use Rattle.schema.proofs.Checked.{checked_fine, edges_fine}
use Rattle.rounds.proofs.HeldItems.{held, held_at, held_branches}

module _ (s v : ℕ) where
  -- both activities that share a loop stand in the tree
  mutual
    looped_both : (t : Seq) → Looped t s v → In t s × In t v
    looped_both nil h = elim h [ ]
    looped_both (cons x t) (inl h) = let r = looped_both_item x h in (inl r.0, inl r.1)
    looped_both (cons x t) (inr h) = let r = looped_both t h in (inr r.0, inr r.1)

    looped_both_item : (x : Item) → LoopedItem x s v → InItem x s × InItem x v
    looped_both_item (activity j) h = elim h [ ]
    looped_both_item (loop t j) (inl (a, b)) = (inl (level_in s t a), inl (level_in v t b))
    looped_both_item (loop t j) (inr h) = let r = looped_both t h in (inl r.0, inl r.1)
    looped_both_item (and b) h = looped_both_branches b h
    looped_both_item (xor j b) h = let r = looped_both_branches b h in (inr r.0, inr r.1)

    looped_both_branches : (b : Branches) → LoopedBranches b s v → InBranches b s × InBranches b v
    looped_both_branches (last t) h = looped_both t h
    looped_both_branches (bar t b) (inl h) = let r = looped_both t h in (inl r.0, inl r.1)
    looped_both_branches (bar t b) (inr h) = let r = looped_both_branches b h in (inr r.0, inr r.1)

  module _ (u : Seq) (i : ℕ) (inside : InItem (loop u i) s) where
    abbrev L : Item
    L = loop u i

    -- what no loop holds is not in this one
    mutual
      not_level : (t : Seq) → Once t → Holds t L → Level t s → ⊥
      not_level nil o h l = h
      not_level (cons x t) o (inl (inl e)) (inl l) = subst (λ y. LevelItem y s) (sym e) l
      not_level (cons x t) o (inl (inr h)) (inl l) = not_level_item x o.0 h l
      not_level (cons x t) o (inl h) (inr l) = o.2 s (held_at L s inside x h) (level_in s t l)
      not_level (cons x t) o (inr h) (inl l) = o.2 s (level_in_item s x l) (held L s inside t h)
      not_level (cons x t) o (inr h) (inr l) = not_level t o.1 h l

      not_level_item : (x : Item) → OnceItem x → HoldsItem x L → LevelItem x s → ⊥
      not_level_item (activity j) o h l = h
      not_level_item (loop t j) o h l = l
      not_level_item (and b) o h l = not_level_branches b o h l
      not_level_item (xor j b) o h l = not_level_branches b o.0 h l

      not_level_branches : (b : Branches) → OnceBranches b → HoldsBranches b L → LevelBranches b s → ⊥
      not_level_branches (last t) o h l = not_level t o h l
      not_level_branches (bar t b) o (inl h) (inl l) = not_level t o.0 h l
      not_level_branches (bar t b) o (inl h) (inr l) = o.2 s (held L s inside t h) (level_in_branches s b l)
      not_level_branches (bar t b) o (inr h) (inl l) = o.2 s (level_in s t l) (held_branches L s inside b h)
      not_level_branches (bar t b) o (inr h) (inr l) = not_level_branches b o.1 h l

    -- what shares its innermost loop with something in the loop stands in the body
    in_body : LoopedItem (loop u i) s v → In u s × In u v
    in_body (inl (a, b)) = (level_in s u a, level_in v u b)
    in_body (inr h) = looped_both u h

    mutual
      stays : (t : Seq) → Once t → Holds t L → Looped t s v → In u s × In u v
      stays nil o h l = elim h [ ]
      stays (cons x t) o (inl (inl e)) (inl l) = in_body (subst (λ y. LoopedItem y s v) (sym e) l)
      stays (cons x t) o (inl (inr h)) (inl l) = stays_item x o.0 h l
      stays (cons x t) o (inl h) (inr l) = absurd (o.2 s (held_at L s inside x h) (looped_both t l).0)
      stays (cons x t) o (inr h) (inl l) = absurd (o.2 s (looped_both_item x l).0 (held L s inside t h))
      stays (cons x t) o (inr h) (inr l) = stays t o.1 h l

      stays_item : (x : Item) → OnceItem x → HoldsItem x L → LoopedItem x s v → In u s × In u v
      stays_item (activity j) o h l = elim h [ ]
      stays_item (loop t j) o h (inl (a, b)) = absurd (not_level t o.0 h a)
      stays_item (loop t j) o h (inr l) = stays t o.0 h l
      stays_item (and b) o h l = stays_branches b o h l
      stays_item (xor j b) o h l = stays_branches b o.0 h l

      stays_branches : (b : Branches) → OnceBranches b → HoldsBranches b L → LoopedBranches b s v → In u s × In u v
      stays_branches (last t) o h l = stays t o h l
      stays_branches (bar t b) o (inl h) (inl l) = stays t o.0 h l
      stays_branches (bar t b) o (inl h) (inr l) = absurd (o.2 s (held L s inside t h) (looped_both_branches b l).0)
      stays_branches (bar t b) o (inr h) (inl l) = absurd (o.2 s (looped_both t l).0 (held_branches L s inside b h))
      stays_branches (bar t b) o (inr h) (inr l) = stays_branches b o.1 h l

    both_in_body : (t : Seq) → Once t → Holds t L → SameLoop t s v → In u s × In u v
    both_in_body t o h (inl (a, b)) = absurd (not_level t o h a)
    both_in_body t o h (inr l) = stays t o h l

  -- an edge to a node outside the body comes from neither the body nor the test
  pub from_outside : (u : Seq) (i : ℕ) (t : Seq) → Once t → Holds t (loop u i) → Joins t s v → (In u v → ⊥) → (In u s → ⊥) × (s ≡ i → ⊥)
  from_outside u i t o h j out =
      (λ k. out (both_in_body u i (inl k) t o h j.1).1, λ e. out (both_in_body u i (inr e) t o h j.1).1)

abbrev pub AllJoined : Seq → List Edge → Type 0
AllJoined t [] = Unit {0}
AllJoined t (e ∷ es) = Joins t e.source e.target × AllJoined t es

answer_joined : (t : Seq) (Before : ℕ → ℕ → Type 0) (es earlier : List Edge) (p : ℕ) → Answer (Joins t) Before earlier p es (Ok tt) → AllJoined t es
answer_joined t Before [] earlier p a = tt
answer_joined t Before (e ∷ es) earlier p (inl (ok, a)) = (ok.joins, answer_joined t Before es (earlier ++ e ∷ []) (p + 1) a)
answer_joined t Before (e ∷ es) earlier p (inr (bad, a)) = absurd (grind arith)

-- every edge of a schema that passed the checks joins what may be joined
pub checked_joined : (S : SchemaParts) → Admitted S → (t : Seq) → S.row ≡ flatten t → AllJoined t S.edges
checked_joined S c t e =
    let fine = checked_fine S.row S.edges c.passed in
    answer_joined t (Precedes t) S.edges [] 0 (tells S.row S.edges (Ok tt) (sym (edges_fine S.row S.edges c.passed)) t e fine.0 fine.1)
