-- What was replaced at a place of a row's tree, read off the row. Assumes nothing.
use Rattle.std.proofs.Common.{◌≡◌, ℕ, ◌+◌, ◌<◌, ◌≤◌, Bool, true, ◌&&◌, ltb, List, [], ◌∷◌, length, drop, get_or, sym, refl, ap, ◌∙◌, subst, ap₂, inl, inr}
use Rattle.std.specs.declared.option.Option.TheVariants as option
use Rattle.std.proofs.lemmas.Bool.{lt-ltb, and_parts, true≢false}
use Rattle.model.specs.declared.Element.{Element}
use Rattle.model.specs.declared.Fact.{Fact}
use Rattle.model.specs.declared.Signal.{Signal}
use Rattle.model.specs.declared.Signal.TheVariants.{True, None}
use Rattle.model.specs.Rows.{Unique, Low}
use Rattle.model.specs.Trees.{Seq, flatten}
use Rattle.model.specs.Signals.{is_true, is_false, ends, gaps, tree_signals}
use Rattle.marking.specs.Machine.{signals, start}
use Rattle.marking.specs.States.{own, own_in}
use Rattle.marking.proofs.TreeSignals.{on_tree}
use Rattle.followers.specs.Followers.{Nodes, none, follows, seq_followers}
use Rattle.followers.specs.Backwards.{followers}
use Rattle.followers.proofs.TreeFollowers.{followers_at}
use Rattle.agreement.proofs.SoundRows.{Stands, own_stands, stands_among, stands_own}
use Rattle.agreement.proofs.Deciders.{Sure}
use Rattle.marking.specs.Nearby.{signal_in}
use Rattle.conditions.specs.Conditions.{is_follower}
use Rattle.halting.specs.Halts.{Halts, TrueWithFacts}
use Rattle.halting.proofs.StoppedSequences.{passable, within}
use Rattle.halting.proofs.OwnSignals.{own_of, own_tree}
use Rattle.halting.proofs.HaltedSignals.{Halted}
use Rattle.halting.proofs.Places.{Place, filled_in, number, place_signal, next_in, next_last}
use Rattle.halting.proofs.GapsOfPlaces.{signal_there, followers_there}
use Rattle.halting.proofs.HaltedPlaces.{Halting, place_own}
use Rattle.halting.proofs.SilentPlaces.{live, place_stands}

-- a row is that of a tree
module _ (fs : List Fact) (xs : List Element) (t : Seq) (is : xs ≡ flatten t) where
  row_signals : signals fs start xs ≡ tree_signals fs t
  row_signals = on_tree fs xs (signals fs start xs) refl t is

  row_own : (i : ℕ) → own_in xs fs i ≡ own_of fs t True i
  row_own i = ap₂ (λ ys us. own ys us 0 i) is row_signals ∙ own_tree fs i t

  row_stands : (i : ℕ) (v : Signal) → Unique xs → Stands (flatten t) (tree_signals fs t) i v → own_in xs fs i ≡ option.Some v
  row_stands i v u s =
      ap₂ (λ ys us. own ys us 0 i) is row_signals ∙ stands_own (flatten t) (tree_signals fs t) i v (subst Unique is u) s

  row_sure : Unique xs → TrueWithFacts xs fs → Sure fs (flatten t) (tree_signals fs t)
  row_sure u w i v s h = w i v h (row_stands i v u s)

  row_low : (i : ℕ) (v : Signal) → Low xs → own_in xs fs i ≡ option.Some v → i < 64
  row_low i v low e = low i (stands_among xs (signals fs start xs) i v (own_stands xs (signals fs start xs) i v e))

module _ (fs : List Fact) (a : ℕ) (x y rest : Seq) (mid : Signal → Signal) (H : Halting fs a x y rest mid)
    (k : ℕ) (sig : (g : Signal) (us : List Signal) → get_or (gaps fs x g (ends fs x g ∷ us)) k None ≡ mid g)
    (fol : (after : Nodes) (gs : List Nodes) → get_or (seq_followers x after (after ∷ gs)) k none ≡ follows rest after)
    (C : Place) (xs ys : List Element) (was : xs ≡ flatten (filled_in C x)) (is : ys ≡ flatten (filled_in C y))
    (few : length xs ≤ 128) (low : Low xs) (unique : Unique xs) (again : Unique ys) where
  abbrev f : ℕ → Bool
  f = next_in C (passable rest) (within rest)

  here_signal : signal_in xs fs (number C + k) ≡ mid (place_signal fs C True)
  here_signal = ap (λ us. get_or us (number C + k) None) (row_signals fs xs (filled_in C x) was) ∙ signal_there fs x k mid sig C True []

  here_followers : (i : ℕ) → is_follower xs (number C + k) i ≡ (ltb i 64 && f i)
  here_followers i =
      followers_at xs (number C + k) (followers (drop (number C + k) xs)) refl (filled_in C x) few was i
      ∙ ap (λ b. ltb i 64 && b) (ap (λ q. q i) (followers_there x rest k fol C none []) ∙ next_last C rest i)

  old_own : (i : ℕ) → own_in xs fs i ≡ own_of fs (filled_in C x) True i
  old_own = row_own fs xs (filled_in C x) was

  new_own : (i : ℕ) → own_in ys fs i ≡ own_of fs (filled_in C y) True i
  new_own = row_own fs ys (filled_in C y) is

  abbrev On : Type 0
  On = is_true (mid (place_signal fs C True)) ≡ true

  own_here : (i : ℕ) → (i ≡ a → ⊥) → Halted On (f i) (own_in xs fs i) (own_in ys fs i)
  own_here i old =
      subst (λ u. Halted On (f i) u (own_in ys fs i)) (sym (old_own i))
      (subst (λ v. Halted On (f i) (own_of fs (filled_in C x) True i) v) (sym (new_own i)) (place_own fs a x y rest mid H i old C True))

  pub row_halts : Halts xs ys a (number C + k) fs
  row_halts =
      record {
        seen = λ i old. elim (own_here i old) [
          | inl e ↦ inl e
          | inr h ↦ inr (here_followers i ∙ ap₂ (λ b c. b && c) (lt-ltb i 64 (row_low fs xs (filled_in C x) was i True low h.2)) h.1, h.2, h.3)
        ];
        idle = λ off i old. elim (own_here i old) [
          | inl e ↦ e
          | inr h ↦ absurd (true≢false (sym h.0 ∙ sym (ap is_true here_signal) ∙ off))
        ];
        stopped = λ w on i e.
            let l = live fs x C True [] (ends fs (filled_in C x) True ∷ []) (row_sure fs xs (filled_in C x) was unique w)
            (sym (H.as_false (place_signal fs C True)) ∙ sym (ap is_false here_signal) ∙ on) in
            let q = and_parts (ltb i 64) (f i) (sym (here_followers i) ∙ e) in
            row_stands fs ys (filled_in C y) is i None again (place_stands fs a x y rest mid H i C True [] (ends fs (filled_in C y) True ∷ []) l q.1);
      }
