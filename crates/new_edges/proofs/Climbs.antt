-- The tables of a row tell the decisions around each of its elements. Assumes nothing.
use Rattle.std.proofs.Common.{◌≡◌, ℕ, zero, suc, ◌<◌, ◌≤◌, cond, List, [], length, get_or, Some, None, sym, refl, ap, ◌∙◌, subst, arith}
use Rattle.std.proofs.lemmas.Bool.{lt-ltb}
use Rattle.model.specs.declared.Element.{Element}
use Rattle.model.specs.declared.Element.TheVariants.{Activity, AndSplit, Bar, AndJoin, XorSplit, XorJoin, LoopStart, LoopEnd}
use Rattle.model.specs.Trees.{Seq, flatten}
use Rattle.layout.specs.declared.Position.{Position}
use Rattle.layout.specs.Pass.{outside, tables_of}
use Rattle.layout.specs.Gaps.{Begins, Rest, Gap, free, block, gap_of}
use Rattle.layout.proofs.Laid.{tables_laid}
use Rattle.layout.proofs.Shapes.{spell_longer_branches}
use Rattle.layout.proofs.Rests.{rest_here, rest_long}
use Rattle.agreement.specs.FalseGaps.{decisions_around}
use Rattle.conditions.specs.Deciders.{with_decision, from_position, decisions_within}
use Rattle.new_edges.specs.Laws.{DecisionsAreTold}
use Rattle.new_edges.proofs.OpenBlocks.{around_whole, around_block}

no_bar_begins : (x : Element) → Begins x → x ≡ Bar → ⊥
no_bar_begins x b e = let c : Begins Bar = subst Begins e b in elim c [ ]

gap_before : (x : Element) (p : ℕ) → (x ≡ Bar → ⊥) → gap_of x p ≡ p
gap_before (Activity i) p n = refl
gap_before AndSplit p n = refl
gap_before Bar p n = absurd (n refl)
gap_before AndJoin p n = refl
gap_before (XorSplit i) p n = refl
gap_before XorJoin p n = refl
gap_before LoopStart p n = refl
gap_before (LoopEnd i) p n = refl

module _ (xs : List Element) (few : length xs ≤ 128) (t : Seq) (is : xs ≡ flatten t) where
  abbrev around : ℕ → List (ℕ × ℕ)
  around p = get_or (decisions_around t) p []

  -- from the block around a gap on, as the positions of the blocks say
  by_gap : (n p : ℕ) (ys : List Element) (h : Position) → Rest xs p ys → Gap xs ys h
      → ((s : ℕ) → s < p → (get_or xs s AndSplit ≡ Bar → ⊥) → decisions_within xs n s ≡ around s)
      → from_position xs (Some h) (decisions_within xs n) ≡ around p
  by_gap n p ys h left (free u e) within =
      let all = rest_long left in
      sym (around_whole t u ys p (sym is ∙ e) (all ∙ ap length is))
  by_gap n p ys h left (block x b k s begins from number outer) within =
      let here = rest_here AndSplit from in
      let all = rest_long left in
      let less : s < p = let a = rest_long from in let c = spell_longer_branches b ys in omega (arith, a, c, all) in
      ap (λ y. with_decision y k (decisions_within xs n s)) here
      ∙ ap (with_decision x k) (within s less (λ e. no_bar_begins x begins (sym here ∙ e)) ∙ ap around (sym from.at_place))
      ∙ sym (around_block t from.before x b k ys begins number (sym is ∙ from.parted) p (all ∙ ap length is))

  climb : (n p : ℕ) → p < n → p < length xs → (get_or xs p AndSplit ≡ Bar → ⊥) → decisions_within xs n p ≡ around p
  climb zero p l less plain = absurd (omega arith)
  climb (suc n) p l less plain =
      let h = get_or (tables_of xs).positions p outside in
      let here = (tables_laid xs few t is).stood p less in
      ap (λ b. from_position xs (cond b (Some h) None) (decisions_within xs n)) (lt-ltb p (length xs) less)
      ∙ by_gap n p here.rest h (subst (λ q. Rest xs q here.rest) (gap_before (get_or xs p AndSplit) p plain) here.left) here.gap
      (λ s before no. climb n s (omega arith) (omega arith) no)

pub told : DecisionsAreTold
told S t p c is less plain = climb S.row c.few t is (length S.row) p less less plain
