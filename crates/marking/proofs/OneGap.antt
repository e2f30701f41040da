-- The signal of a gap against an earlier one's: an element on, in a block, behind a bar, behind a block. Assumes nothing.
use Rattle.std.proofs.Common.{◌≡◌, ℕ, ◌+◌, ◌-◌, ◌<◌, false, List, [], ◌∷◌, ◌++◌, length, get_or, take, drop, sym, refl, ap, ◌∙◌, subst, arith, append_assoc, length-append}
use Rattle.std.proofs.lemmas.List.{take_at, take_more, drop_at, length-take-le, take-append-drop}
use Rattle.std.specs.List.{slice_range}
use Rattle.model.specs.declared.Element.{Element}
use Rattle.model.specs.declared.Element.TheVariants.{Activity, AndSplit, Bar, AndJoin, XorSplit, XorJoin, LoopStart, LoopEnd}
use Rattle.model.specs.declared.Fact.{Fact}
use Rattle.model.specs.declared.Signal.{Signal}
use Rattle.model.specs.declared.Signal.TheVariants.{True}
use Rattle.marking.specs.declared.signals.Opened.{Opened}
use Rattle.marking.specs.declared.signals.Opened.TheVariants.{And, Xor}
use Rattle.model.specs.Trees.{Seq, spell_item, spell_branches, flatten}
use Rattle.model.specs.Signals.{fact_of, is_false, decided, after}
use Rattle.layout.specs.Gaps.{Whole, Within, Ends}
use Rattle.layout.proofs.Facts.{spell_append, spell_append_item, spell_append_branches, within_opener, loop_first}
use Rattle.marking.specs.Machine.{chosen, turned, Gap, gap, step, start, reach}
use Rattle.marking.specs.Nearby.{signal_in, alone}
use Rattle.marking.proofs.TreeSignals.{choice_at, head_at}
use Rattle.marking.proofs.FalseBlocks.{ends_false, after_false}
use Rattle.marking.proofs.Reaches.{reach_append, signal_reached, past_seq, past_item, current, headed, Top, Open, opens}

module _ (fs : List Fact) where
  -- in a branch the signal is false exactly if it is at the branch's head
  open_false : (x : Element) (n : ℕ) (o h : Gap) (u : Seq) → Open fs x n o u h → is_false h.signal ≡ is_false (headed fs x n o.signal)
  open_false x n o h u w = ap is_false w.signal ∙ ends_false fs u (headed fs x n o.signal)

  -- behind a bar it is that of the branch's head
  bar_head : (x : Element) (n : ℕ) (o : Gap) (g : Signal) (s : List Opened) → Top fs x n o (step fs Bar (gap g s)).blocks → (x ≡ LoopStart → ⊥)
      → (step fs Bar (gap g s)).signal ≡ headed fs x n o.signal
  bar_head (Activity i) n o g s t split = elim t [ ]
  bar_head AndSplit n o g [] t split = let e = t.1 in absurd cc
  bar_head AndSplit n o g (And before all ∷ s) t split = let e = t.1 in cc
  bar_head AndSplit n o g (Xor k c ∷ s) t split = let e = t.1 in absurd cc
  bar_head Bar n o g s t split = elim t [ ]
  bar_head AndJoin n o g s t split = elim t [ ]
  bar_head (XorSplit i) n o g [] t split = let e = t.1 in absurd cc
  bar_head (XorSplit i) n o g (And before all ∷ s) t split = let e = t.1 in absurd cc
  bar_head (XorSplit i) n o g (Xor k c ∷ s) t split =
      let e = t.1 in
      let same : chosen k (turned c g) ≡ chosen (is_false o.signal) (choice_at (decided (fact_of fs i)) n t.0) = cc in
      same ∙ head_at (is_false o.signal) (decided (fact_of fs i)) n t.0
  bar_head XorJoin n o g s t split = elim t [ ]
  bar_head LoopStart n o g s t split = absurd (split refl)
  bar_head (LoopEnd i) n o g s t split = elim t [ ]

  module _ (xs : List Element) where
    abbrev at : ℕ → Signal
    at p = signal_in xs fs p

    at_front : (us ys : List Element) (p : ℕ) → xs ≡ us ++ ys → length us ≡ p → at p ≡ (reach fs start us).signal
    at_front us ys p parted long =
        ap (λ zs. signal_in zs fs p) parted
        ∙ ap (signal_in (us ++ ys) fs) (sym long) ∙ signal_reached fs us ys start

    pub at_start : at 0 ≡ True
    at_start = at_front [] xs 0 refl refl

    -- an element on
    pub at_next : (p : ℕ) → p < length xs → (h : Gap) × (h.signal ≡ at p) × (at (p + 1) ≡ (step fs (get_or xs p AndSplit) h).signal)
    at_next p less =
        let x = get_or xs p AndSplit in
        let us = take p xs in
        let long : length us ≡ p = length-take-le p xs (omega arith) in
        let more : take (p + 1) xs ≡ us ++ x ∷ [] = take_more xs p AndSplit less in
        let whole : xs ≡ (us ++ x ∷ []) ++ drop (p + 1) xs = sym (take-append-drop (p + 1) xs) ∙ ap (λ zs. zs ++ drop (p + 1) xs) more in (
          reach fs start us,
          sym (at_front us (drop p xs) p (sym (take-append-drop p xs)) long),
          at_front (us ++ x ∷ []) (drop (p + 1) xs) (p + 1) whole (length-append us (x ∷ []) ∙ ap (λ n. n + 1) long)
              ∙ ap (λ h. h.signal) (reach_append fs us (x ∷ []) start),
        )

    -- outside every block no signal is false
    pub whole_false : (p : ℕ) → Whole xs p → is_false (at p) ≡ false
    whole_false p w =
        let e : xs ≡ flatten w.items ++ w.after = w.parted ∙ spell_append w.items w.after in
        let n = ap length e ∙ length-append (flatten w.items) w.after in
        ap is_false (at_front (flatten w.items) w.after p e (omega (arith, n, w.at_place)) ∙ ap (λ h. h.signal) (past_seq fs w.items True [] []))
        ∙ ends_false fs w.items True

    module _ {s p n e : ℕ} (w : Within xs s p n) (z : Ends xs s e) where
      front : List Element
      front = w.before ++ (w.opener ∷ spell_branches w.branches [])

      parted_front : xs ≡ front ++ w.after
      unfolding front
      parted_front =
          w.parted ∙ ap (λ zs. w.before ++ (w.opener ∷ zs)) (spell_append_branches w.branches w.after)
          ∙ sym (append_assoc w.before (w.opener ∷ spell_branches w.branches []) w.after)

      front_long : length front ≡ p
      front_long = let n = ap length parted_front ∙ length-append front w.after in omega (arith, n, w.at_place)

      front_open : Open fs w.opener n (reach fs start w.before) (current w.branches) (reach fs start front)
      unfolding front
      front_open =
          subst (Open fs w.opener n (reach fs start w.before) (current w.branches))
          (sym (reach_append fs w.before (w.opener ∷ spell_branches w.branches []) start))
          (opens fs w.opener w.branches n (reach fs start w.before) w.begins w.number (λ is. loop_first w is z))

      head_is : headed fs w.opener n (reach fs start w.before).signal ≡ headed fs (get_or xs s AndSplit) n (at s)
      head_is =
          ap (λ x. headed fs x n (reach fs start w.before).signal) (sym (within_opener AndSplit w))
          ∙ ap (headed fs (get_or xs s AndSplit) n) (sym (at_front w.before (w.opener ∷ spell_branches w.branches w.after) s w.parted w.at_start))

      -- in a block the signal is false exactly if it is at the head of the branch
      pub within_false : is_false (at p) ≡ is_false (headed fs (get_or xs s AndSplit) n (at s))
      within_false =
          ap is_false (at_front front w.after p parted_front front_long)
          ∙ open_false w.opener n (reach fs start w.before) (reach fs start front) (current w.branches) front_open
          ∙ ap is_false head_is

    -- behind a bar it is that of the head
    pub bar_signal : {s p n e : ℕ} (w : Within xs s (p + 1) n) → Ends xs s e → p < length xs → get_or xs p AndSplit ≡ Bar → 0 < n
        → at (p + 1) ≡ headed fs (get_or xs s AndSplit) n (at s)
    bar_signal {s} {p} {n} w z less is later =
        let us = take p xs in
        let k = reach fs start us in
        let more : take (p + 1) xs ≡ us ++ Bar ∷ [] = take_more xs p AndSplit less ∙ ap (λ x. us ++ x ∷ []) is in
        let same : front w z ≡ us ++ Bar ∷ [] =
        sym (take_at (front w z) w.after (p + 1) (front_long w z)) ∙ ap (take (p + 1)) (sym (parted_front w z)) ∙ more in
        let reached : reach fs start (front w z) ≡ step fs Bar k = ap (reach fs start) same ∙ reach_append fs us (Bar ∷ []) start in
        let o = reach fs start w.before in
        at_front (front w z) w.after (p + 1) (parted_front w z) (front_long w z)
        ∙ ap (λ h. h.signal) reached
        ∙ bar_head w.opener n o k.signal k.blocks (subst (λ h. Top fs w.opener n o h.blocks) reached (front_open w z).blocks)
        (λ loop. let first = loop_first w loop z in absurd (omega arith))
        ∙ head_is w z

    -- behind the end of a block it is what the block alone makes of that before it
    module _ {s p : ℕ} (z : Ends xs s p) where
      block_is : slice_range xs s (p + 1) ≡ spell_item z.item.item []
      block_is =
          let i = z.item in
          let e : xs ≡ i.before ++ (spell_item i.item [] ++ i.after) = i.parted ∙ ap (λ ys. i.before ++ ys) (spell_append_item i.item i.after) in
          let rest : drop s xs ≡ spell_item i.item [] ++ i.after = ap (drop s) e ∙ drop_at i.before (spell_item i.item [] ++ i.after) s i.at_start in
          let n = ap length e ∙ length-append i.before (spell_item i.item [] ++ i.after) in
          let m = length-append (spell_item i.item []) i.after in
          ap (take (p + 1 - s)) rest ∙ take_at (spell_item i.item []) i.after (p + 1 - s) (omega (arith, n, m, i.at_start, i.at_end))

      alone_after : (g : Signal) → alone fs (slice_range xs s (p + 1)) g ≡ after fs z.item.item g
      alone_after g = ap (λ ys. alone fs ys g) block_is ∙ ap (λ h. h.signal) (past_item fs z.item.item g [] [])

      pub alone_false : (g : Signal) → is_false (alone fs (slice_range xs s (p + 1)) g) ≡ is_false g
      alone_false g = ap is_false (alone_after g) ∙ after_false fs z.item.item g

      pub block_signal : at (p + 1) ≡ alone fs (slice_range xs s (p + 1)) (at s)
      block_signal =
          let i = z.item in
          let us = i.before ++ spell_item i.item [] in
          let e : xs ≡ us ++ i.after =
          i.parted ∙ ap (λ ys. i.before ++ ys) (spell_append_item i.item i.after) ∙ sym (append_assoc i.before (spell_item i.item []) i.after) in
          let n = ap length e ∙ length-append us i.after in
          let o = reach fs start i.before in
          at_front us i.after (p + 1) e (omega (arith, n, i.at_end))
          ∙ ap (λ h. h.signal) (reach_append fs i.before (spell_item i.item []) start ∙ past_item fs i.item o.signal o.blocks [])
          ∙ ap (after fs i.item) (sym (at_front i.before (spell_item i.item i.after) s i.parted i.at_start))
          ∙ sym (alone_after (at s))
