-- Where a sequence begins with none, its first gap's followers have none. Assumes nothing.
use Rattle.std.proofs.Common.{◌≡◌, ℕ, Bool, true, false, ◌&&◌, eqb, List, ◌∷◌, sym, refl, ap, ◌∙◌, subst, inl, inr}
use Rattle.std.proofs.lemmas.Bool.{and_parts, or_cases, eqb-true, false≢true, true≢false}
use Rattle.model.specs.declared.Element.{Element}
use Rattle.model.specs.declared.Element.TheVariants.{Bar, AndJoin, LoopEnd}
use Rattle.model.specs.declared.Fact.{Fact}
use Rattle.model.specs.declared.Signal.{Signal}
use Rattle.model.specs.declared.Signal.TheVariants.{True, False, None}
use Rattle.model.specs.Trees.{Seq, nil, cons, Item, activity, loop, and, xor, Branches, last, bar, spell, spell_item, spell_branches}
use Rattle.model.specs.Signals.{is_false, ends, after, gaps, gaps_item, gaps_and}
use Rattle.marking.proofs.FalseBlocks.{ends_false, after_false}
use Rattle.agreement.proofs.SoundRows.{Stands, past, past_item}
use Rattle.halting.proofs.StoppedSequences.{stop_if, passable, passable_item, within, within_item, within_branches, stopped_ends, stopped_after}

none_if : (b : Bool) (u v : Signal) → v ≡ stop_if b u → b ≡ true → is_false v ≡ false → v ≡ None
none_if b u v e h k = go u (e ∙ ap (λ c. stop_if c u) h)
  where
    go : (u : Signal) → v ≡ stop_if true u → v ≡ None
    go True q = q
    go False q = absurd (true≢false (sym (ap is_false q) ∙ k))
    go None q = q

module _ (fs : List Fact) where
  pub quiet_ends : (t : Seq) → passable t ≡ true → ends fs t None ≡ None
  quiet_ends t p = none_if (passable t) (ends fs t True) (ends fs t None) (stopped_ends fs t True) p (ends_false fs t None)

  quiet_after : (x : Item) → passable_item x ≡ true → after fs x None ≡ None
  quiet_after x p = none_if (passable_item x) (after fs x True) (after fs x None) (stopped_after fs x True) p (after_false fs x None)

  module _ (i : ℕ) where
    mutual
      pub silent : (t : Seq) (ys : List Element) (rest : List Signal) → within t i ≡ true → Stands (spell t ys) (gaps fs t None rest) i None
      silent nil ys rest e = absurd (false≢true e)
      silent (cons x t) ys rest e = elim (or_cases (within_item x i) (passable_item x && within t i) e) [
        | inl k ↦ silent_item x (spell t ys) (gaps fs t (after fs x None) rest) k
        | inr k ↦
            let p = and_parts (passable_item x) (within t i) k in
            past_item fs i None x None (spell t ys) (gaps fs t (after fs x None) rest)
            (subst (λ g. Stands (spell t ys) (gaps fs t g rest) i None) (sym (quiet_after x p.0)) (silent t ys rest p.1))
      ]

      silent_item : (x : Item) (ys : List Element) (rest : List Signal) → within_item x i ≡ true → Stands (spell_item x ys) (gaps_item fs x None rest) i None
      silent_item (activity j) ys rest e = inl (eqb-true i j e, refl)
      silent_item (loop t j) ys rest e = elim (or_cases (within t i) (passable t && eqb i j) e) [
        | inl k ↦ inr (silent t (LoopEnd j ∷ ys) (ends fs t None ∷ rest) k)
        | inr k ↦
            let p = and_parts (passable t) (eqb i j) k in
            inr (past fs i None t None (LoopEnd j ∷ ys) (ends fs t None ∷ rest) (inl (eqb-true i j p.1, sym (quiet_ends t p.0))))
      ]
      silent_item (and b) ys rest e = inr (silent_branches b AndJoin ys rest e)
      silent_item (xor j b) ys rest e = inl (eqb-true i j e, refl)

      silent_branches : (b : Branches) (z : Element) (ys : List Element) (rest : List Signal) → within_branches b i ≡ true
          → Stands (spell_branches b (z ∷ ys)) (gaps_and fs b None rest) i None
      silent_branches (last t) z ys rest e = silent t (z ∷ ys) (ends fs t None ∷ rest) e
      silent_branches (bar t b) z ys rest e = elim (or_cases (within t i) (within_branches b i) e) [
        | inl k ↦ silent t (Bar ∷ spell_branches b (z ∷ ys)) (ends fs t None ∷ gaps_and fs b None rest) k
        | inr k ↦ past fs i None t None (Bar ∷ spell_branches b (z ∷ ys)) (ends fs t None ∷ gaps_and fs b None rest) (inr (silent_branches b z ys rest k))
      ]
