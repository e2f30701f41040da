-- The layout of a tree's row. Assumes nothing.
use Rattle.std.proofs.Common.{◌≡◌, ℕ, ◌<◌, ◌≤◌, Bool, true, false, cond, ltb, List, [], length, get_or, Some, None, Option, sym, refl, subst, arith}
use Rattle.std.proofs.lemmas.List.{length-replicate}
use Rattle.std.proofs.lemmas.Bool.{ltb-true, ltb-false}
use Rattle.bounded.proofs.Replicas.{get_or-replicate_default}
use Rattle.model.specs.declared.Element.{Element}
use Rattle.model.specs.Trees.{Seq, nil, flatten}
use Rattle.layout.specs.declared.Layout.{Layout}
use Rattle.layout.specs.Pass.{Tables, outside, no_tables, tables_of, LayoutOf, position_at}
use Rattle.layout.specs.declared.Position.{Position}
use Rattle.layout.specs.Gaps.{Rest, free, Inside, Stands, Closed, Positioned, Ended, OfTree}
use Rattle.layout.proofs.Facts.{within_ended}
use Rattle.layout.proofs.Rests.{rest_all, rest_none}
use Rattle.layout.proofs.Walks.{Sofar, Walked, walk}

pub record Laid (xs : List Element) (t : Tables) : Type 0 where
  pub stood : (p : ℕ) → p < length xs → Stands xs p (get_or t.positions p outside)
  pub ended : (s : ℕ) → Ended xs s (get_or t.ends s None)
  pub closed : (s e : ℕ) → get_or t.ends s None ≡ Some e → (get_or t.positions e outside).block ≡ Some s

module _ (xs : List Element) (few : length xs ≤ 128) where
  begun : (t : Seq) → xs ≡ flatten t → Walked xs few (flatten t) 0 outside [] no_tables
  begun t e = record {
    left = subst (Rest xs 0) e rest_all;
    gap = free nil e;
    positions_long = length-replicate 128 outside;
    ends_long = length-replicate {A = Option ℕ} 128 None;
    stood = λ p h. absurd (omega arith);
    ended = λ s. subst (Sofar xs 0 [] s) (sym (get_or-replicate_default 128 s None)) (λ h b. absurd (omega arith));
    closing = λ s e at. absurd (let n : get_or no_tables.ends s None ≡ None = get_or-replicate_default 128 s None in cc);
  }

  done : (s : ℕ) (o : Option ℕ) → Sofar xs (length xs) [] s o → Ended xs s o
  done s None h = h
  done s (Some e) h = h

  laid : (m : ℕ) (v : Tables) → Walked xs few [] m outside [] v → Laid xs v
  laid m v w =
      let e = rest_none w.left in
      record {
        stood = λ p h. w.stood p (omega (arith, e));
        ended = λ s. done s _ (subst (λ n. Sofar xs n [] s (get_or v.ends s None)) e (w.ended s));
        closed = λ s e at. (w.closing s e at).1;
      }

  pub tables_laid : (t : Seq) → xs ≡ flatten t → Laid xs (tables_of xs)
  tables_laid t e = subst (λ ys. Laid xs (tables_of ys)) (sym e) (walk xs few (Laid xs) t [] 0 outside [] [] no_tables (begun t e) laid)

module _ (xs : List Element) (l : Layout) (is : LayoutOf xs l) where
  laid_few : length xs ≤ 128
  laid_few = omega (arith, l.few, is.len)

  -- the block around a gap ends
  inside_closed : (t : Seq) → xs ≡ flatten t → (p : ℕ) (h : Position) → Inside xs p h h.block → Closed xs h.block
  inside_closed t e p h = go h.block
    where
      go : (o : Option ℕ) → Inside xs p h o → Closed xs o
      go None w = tt
      go (Some s) w =
          let ended = (tables_laid xs laid_few t e).ended s in
          let r = within_ended _ w ended in
          (r.0, subst (Ended xs s) r.1 ended)

  pub position_stands : (p : ℕ) → OfTree xs (Positioned xs p (position_at l p))
  position_stands p t e = go (ltb p l.len) refl
    where
      go : (b : Bool) → ltb p l.len ≡ b → Positioned xs p (cond b (Some (get_or l.positions p outside)) None)
      go true h =
          let less : p < length xs = omega (arith, ltb-true p l.len h, is.len) in
          let here = subst (λ qs. Stands xs p (get_or qs p outside)) (sym is.positions) ((tables_laid xs laid_few t e).stood p less) in
          (less, here, inside_closed t e _ (get_or l.positions p outside) here.inside)
      go false h = omega (arith, ltb-false p l.len h, is.len)

  pub end_ends : (s : ℕ) → OfTree xs (Ended xs s (get_or l.ends s None))
  end_ends s t e = subst (λ es. Ended xs s (get_or es s None)) (sym is.ends) ((tables_laid xs laid_few t e).ended s)
