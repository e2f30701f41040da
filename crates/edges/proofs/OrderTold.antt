-- The sets of a row are the relations of its tree: the laws of the public contracts. Assumes nothing.
use Rattle.std.proofs.Common.{◌≡◌, ℕ, ◌<◌, Bool, true, false, ◌⊎◌, List, [], length, get_or, Ok, Err, Decides, Result, sym, refl, ap, ◌∙◌, subst, inl, inr, ⊎_elim, arith}
use Rattle.bounded.proofs.Replicas.{get_or-replicate_default}
use Rattle.ids.specs.declared.IdSet.{IdSet}
use Rattle.ids.specs.Sets.{has, empty}
use Rattle.std.proofs.lemmas.List.{length-replicate}
use Rattle.std.proofs.lemmas.Bool.Decides.{Decides-at, Decides-like, Decides-or}
use Rattle.model.specs.declared.Element.{Element}
use Rattle.model.specs.declared.Edge.{Edge}
use Rattle.model.specs.Trees.{Seq, flatten}
use Rattle.edges.specs.Edges.{within, joined, judged, closed, proper}
use Rattle.edges.specs.Places.{nowhere, preceding, joinable, no_sets, befores, partners, OrderOf}
use Rattle.model.specs.Relations.{In, Beside, Level, Joins}
use Rattle.edges.proofs.TreeOrder.{Before, Once, Small}
use Rattle.model.specs.Paths.{Answer, Acyclic, Proper, Ranked}
use Rattle.edges.specs.declared.order.Order.{Order}
use Rattle.edges.specs.Verdicts.{edges_checked, edges_verdict, Tells, Leaves, edge_admitted, edge_verdict, LowEdges, Judges, Ordered}
use Rattle.ids.proofs.Laws.{has_empty}
use Rattle.edges.proofs.ReachableSets.{Follows, follows_none, follows_all, alone, decides_proper, answers, acyclic}
use Rattle.edges.proofs.TreeGaps.{at, acts, on_tree, long, other, value}
use Rattle.edges.proofs.GapMeanings.{has_both, has_nothing, Means, None}
use Rattle.edges.proofs.NodeRelations.{Mate, before_in, before_left, beside_in, transitive, irreflexive, beside_apart}
use Rattle.edges.proofs.NodeGaps.{sees, sides, mates}
use Rattle.model.specs.Rows.{Unique, Low, Precedes}
use Rattle.edges.proofs.RowIds.{once_tree, small_tree}
use Rattle.edges.proofs.Ranks.{answer_low, ranked}
use Rattle.edges.proofs.RowOrder.{precedes, before}
use Rattle.edges.proofs.SharedLoops.{mate_same, same_turn, same_mate, beside_left, mate_acts, in?}

none_yet : Means None None None None nowhere
none_yet = record { ahead = has_nothing; seen = has_nothing; beside = has_nothing; mates = has_nothing }

no : {P : Type 0} (b : Bool) → b ≡ false → (P → ⊥) → Decides b P
no b e n = (λ q. absurd cc, λ p. absurd (n p))

module _ (t : Seq) (o : Once t) (small : Small t) where
  room : (v : ℕ) → In t v → v < length no_sets
  room v h = subst (λ n. v < n) (sym (length-replicate {A = IdSet} 64 empty)) (small v h)

  before_told : (u v : ℕ) → Decides (within (befores (flatten t)) u v) (Before t u v)
  before_told u v = ⊎_elim inside outside (in? v t)
    where
      inside : In t v → Decides (within (befores (flatten t)) u v) (Before t u v)
      inside h =
          Decides-at _ _ (ap (λ ss. has (get_or ss v empty) u) (on_tree preceding t nowhere no_sets) ∙ ap (λ s. has s u) (value preceding v t nowhere no_sets o (room v h) h))
          (Decides-like _ (λ a. grind arith) inr (sees v u t None None None None nowhere o small none_yet h))

      outside : (In t v → ⊥) → Decides (within (befores (flatten t)) u v) (Before t u v)
      outside n =
          no _ (ap (λ ss. has (get_or ss v empty) u) (on_tree preceding t nowhere no_sets) ∙ ap (λ s. has s u) (other preceding v t nowhere no_sets n ∙ get_or-replicate_default 64 v empty) ∙ has_empty u)
          (λ b. n (before_in u v t b))

  partner_told : (u v : ℕ) → Decides (within (partners (flatten t)) u v) (Beside t u v × Mate t u v)
  partner_told u v = ⊎_elim inside outside (in? v t)
    where
      read : (h : In t v) → within (partners (flatten t)) u v ≡ has (joinable (acts v t h) (at v t h nowhere)) u
      read h = ap (λ ss. has (get_or ss v empty) u) (on_tree joinable t nowhere no_sets) ∙ ap (λ s. has s u) (value joinable v t nowhere no_sets o (room v h) h)

      by_kind : (h : In t v) (k : Bool) → acts v t h ≡ k → Decides (has (joinable k (at v t h nowhere)) u) (Beside t u v × Mate t u v)
      by_kind h true e =
          Decides-like _ (λ a. grind arith) (λ p. (inr p.0, inr p.1))
          (has_both _ _ (λ w. ⊥ ⊎ Beside t w v) (λ w. (⊥ × Level t v) ⊎ Mate t w v)
          (λ w. sides v w t None None None None nowhere o small none_yet h e) (λ w. mates v w t None None None None nowhere o small none_yet h e) u)
      by_kind h false e =
          no _ (has_empty u) (λ (p : Beside t u v × Mate t u v). let q = mate_acts v u t o p.1 h in cc)

      inside : In t v → Decides (within (partners (flatten t)) u v) (Beside t u v × Mate t u v)
      inside h = Decides-at _ _ (read h) (by_kind h (acts v t h) refl)

      outside : (In t v → ⊥) → Decides (within (partners (flatten t)) u v) (Beside t u v × Mate t u v)
      outside n =
          no _ (ap (λ ss. has (get_or ss v empty) u) (on_tree joinable t nowhere no_sets) ∙ ap (λ s. has s u) (other joinable v t nowhere no_sets n ∙ get_or-replicate_default 64 v empty) ∙ has_empty u)
          (λ (p : Beside t u v × Mate t u v). n (beside_in u v t p.0))

  joins_told : (e : Edge) → Decides (joined (partners (flatten t)) e) (Joins t e.source e.target)
  joins_told e =
      let u = e.source in
      let v = e.target in
      Decides-like _ (λ a. grind (arith, mate_same u v t, mate_same v u t, same_turn v u t)) (λ a. grind (arith, same_mate u v t o, same_mate v u t o, same_turn u v t))
      (Decides-or _ _ (partner_told u v) (partner_told v u))

  joins_small : (u v : ℕ) → Joins t u v → (u < 64) × (v < 64)
  joins_small u v (inl a, s) = (small u (beside_left u v t a), small v (beside_in u v t a))
  joins_small u v (inr a, s) = (small u (beside_in v u t a), small v (beside_left v u t a))

  joins_apart : (u : ℕ) → Joins t u u → ⊥
  joins_apart u (inl a, s) = beside_apart u t o a
  joins_apart u (inr a, s) = beside_apart u t o a

  whole : length (befores (flatten t)) ≡ 64
  whole = ap length (on_tree preceding t nowhere no_sets) ∙ long preceding t nowhere no_sets ∙ length-replicate {A = IdSet} 64 empty

  pub order_told : (u v : ℕ) → Decides (within (befores (flatten t)) u v) (Precedes t u v)
  order_told u v = Decides-like _ (precedes u v t o) (before u v t) (before_told u v)

  trans : (u v w : ℕ) → Precedes t u v → Precedes t v w → Precedes t u w
  trans u v w h k = precedes u w t o (transitive u v w t o (before u v t h) (before v w t k))

  pub tells_tree : (es : List Edge) → Answer (Joins t) (Precedes t) [] 0 es (edges_verdict (flatten t) es)
  tells_tree es =
      answers (Joins t) (Precedes t) (partners (flatten t)) joins_told joins_small es [] (befores (flatten t)) 0 whole
      (follows_none (Joins t) (Precedes t) (befores (flatten t)) order_told trans)

  pub no_cycle : (es : List Edge) → Answer (Joins t) (Precedes t) [] 0 es (Ok tt) → Acyclic (Precedes t) es
  no_cycle es a = acyclic (Joins t) (Precedes t) es [] 0 joins_apart none a
    where
      none : Acyclic (Precedes t) []
      none u p = irreflexive u t o (before u u t (alone (Joins t) (Precedes t) trans p))

  order_follows : Follows (Joins t) (Precedes t) [] (befores (flatten t))
  order_follows = follows_none (Joins t) (Precedes t) (befores (flatten t)) order_told trans

  pub ranks_tree : (es : List Edge) → Answer (Joins t) (Precedes t) [] 0 es (Ok tt) → Ranked (Precedes t) es
  ranks_tree es a =
      let low = answer_low (Joins t) (Precedes t) joins_small es [] 0 a in
      ranked (Joins t) (Precedes t) es low (λ u v h. small u (before_left u v t (before u v t h))) (closed (befores (flatten t)) es)
      (follows_all (Joins t) (Precedes t) es [] (befores (flatten t)) low whole order_follows) (no_cycle es a)

  pub judges_tree : (es : List Edge) (e : Edge) → LowEdges es → Decides (edge_verdict (flatten t) es e) (Proper (Joins t) (Precedes t) es e)
  judges_tree es e low =
      decides_proper (Joins t) (Precedes t) (partners (flatten t)) joins_told joins_small (closed (befores (flatten t)) es) es e
      (follows_all (Joins t) (Precedes t) es [] (befores (flatten t)) low whole order_follows)

pub judges : (xs : List Element) (es : List Edge) (e : Edge) (r : Bool) → r ≡ edge_verdict xs es e → Judges xs es e r
judges xs es e r is t q once low ends =
    Decides-at _ _ (is ∙ ap (λ ys. edge_verdict ys es e) q) (judges_tree t (once_tree t (subst Unique q once)) (small_tree t (subst Low q low)) es e ends)

pub tells : (xs : List Element) (es : List Edge) (r : Result (Unit {0}) (ℕ × ℕ)) → r ≡ edges_verdict xs es → Tells xs es r
tells xs es r e t q once low =
    subst (Answer (Joins t) (Precedes t) [] 0 es) (ap (λ ys. edges_verdict ys es) (sym q) ∙ sym e)
    (tells_tree t (once_tree t (subst Unique q once)) (small_tree t (subst Low q low)) es)

pub leaves : (xs : List Element) (es : List Edge) (r : Result (Unit {0}) (ℕ × ℕ)) → r ≡ edges_verdict xs es → Leaves xs es r
leaves xs es (Ok u) e = λ t q once low.
    let o = once_tree t (subst Unique q once) in
    let s = small_tree t (subst Low q low) in
    let a = tells xs es (Ok u) e t q once low in
    (no_cycle t o s es a, ranks_tree t o s es a)
leaves xs es (Err p) e = tt

-- the order of a row answers as the row's own sets do
pub of_order : (xs : List Element) (o : Order) (es : List Edge) → OrderOf xs o → edges_checked o es ≡ edges_verdict xs es
of_order xs o es is = ap (λ p. judged p o.before [] 0 es) is.partners ∙ ap (λ b. judged (partners xs) b [] 0 es) is.before

pub of_order_edge : (xs : List Element) (o : Order) (es : List Edge) (e : Edge) → OrderOf xs o → edge_admitted o es e ≡ edge_verdict xs es e
of_order_edge xs o es e is =
    ap (λ p. proper p (closed o.before es) es e) is.partners ∙ ap (λ b. proper (partners xs) (closed b es) es e) is.before

pub ordered : (xs : List Element) (u v : ℕ) (r : Bool) → r ≡ within (befores xs) u v → Ordered xs u v r
ordered xs u v r e t q once low =
    Decides-at _ _ (e ∙ ap (λ ys. within (befores ys) u v) q)
    (order_told t (once_tree t (subst Unique q once)) (small_tree t (subst Low q low)) u v)
