-- A new activity without a fact halts the signal at its place: alone in front of what stands there, or beside the items before
-- it. Assumes nothing.
use Rattle.std.proofs.Common.{◌≡◌, ℕ, true, false, cond, ◌&&◌, eqb, List, sym, refl, ap, ◌∙◌, subst, inl, inr}
use Rattle.std.specs.declared.option.Option.TheVariants as option
use Rattle.std.proofs.lemmas.Bool.{eqb-true, and_right, false_from_ne_true, false≢true, true≢false}
use Rattle.model.specs.declared.Fact.{Fact}
use Rattle.model.specs.declared.Fact.TheVariants.{Nothing}
use Rattle.model.specs.declared.Signal.{Signal}
use Rattle.model.specs.declared.Signal.TheVariants.{True, False, None}
use Rattle.model.specs.Trees.{Seq, nil, cons, activity, spell}
use Rattle.model.specs.Signals.{fact_of, is_true, is_false, unless_false, after_node, and_joined, ends, after, gaps}
use Rattle.changes.specs.Changed.{followed_by, beside}
use Rattle.marking.proofs.FalseBlocks.{ends_false}
use Rattle.agreement.proofs.SoundRows.{past_item}
use Rattle.halting.proofs.OwnSignals.{first, at, own_of, own_of_item, first_none, first_assoc}
use Rattle.halting.proofs.HaltedSignals.{Slowed}
use Rattle.halting.proofs.HaltedPlaces.{Halting}

-- what is not the new node is not found there
not_there : (a i : ℕ) (g : Signal) → (i ≡ a → ⊥) → at a i g ≡ option.None
not_there a i g n = ap (λ b. cond b (option.Some g) option.None) (false_from_ne_true (eqb i a) (λ e. n (eqb-true i a e)))

-- false, or none
abbrev hushed : Signal → Signal
hushed g = unless_false g None

slowed_hushed : (g m : Signal) → is_false m ≡ is_false g → Slowed (is_true m ≡ true) true m (hushed g)
slowed_hushed True True e = inr (refl, refl, refl, refl)
slowed_hushed False True e = absurd (false≢true e)
slowed_hushed None True e = inr (refl, refl, refl, refl)
slowed_hushed True False e = absurd (true≢false e)
slowed_hushed False False e = inl refl
slowed_hushed None False e = absurd (true≢false e)
slowed_hushed True None e = inl refl
slowed_hushed False None e = absurd (false≢true e)
slowed_hushed None None e = inl refl

none_hushed : (g : Signal) → is_false g ≡ false → hushed g ≡ None
none_hushed True e = refl
none_hushed False e = absurd (true≢false e)
none_hushed None e = refl

module _ (fs : List Fact) (a : ℕ) (fresh : fact_of fs a ≡ Nothing) where
  hushed_node : (g : Signal) → after_node g (fact_of fs a) ≡ hushed g
  hushed_node g = ap (after_node g) fresh

  pub in_front : (r : Seq) → Halting fs a r (cons (activity a) r) r (λ g. g)
  in_front r = record {
    now = λ g. after_node g (fact_of fs a);
    kept = λ g i. option.None;
    as_false = λ g. refl;
    slowed = λ g. subst (Slowed (is_true g ≡ true) true g) (sym (hushed_node g)) (slowed_hushed g g refl);
    silent = λ g e. hushed_node g ∙ none_hushed g e;
    ends_old = λ g. refl;
    ends_new = λ g. refl;
    own_old = λ g i. refl;
    own_new = λ g i n. ap (λ o. first o (own_of fs r (after_node g (fact_of fs a)) i)) (not_there a i g n);
    stands_new = λ g i v ys us h. inr h;
  }

  never_true : (g : Signal) → is_true (hushed g) ≡ false
  never_true True = refl
  never_true False = refl
  never_true None = refl

  -- behind the block
  hushed_block : (m : Seq) (g : Signal) → after fs (beside m a) g ≡ hushed g
  hushed_block m g =
      ap (λ v. and_joined g (is_true (ends fs m g) && is_true v)) (hushed_node g)
      ∙ ap (and_joined g) (and_right (is_true (ends fs m g)) _ (never_true g))

  ends_followed : (m r : Seq) (g : Signal) → ends fs (followed_by m r) g ≡ ends fs r (ends fs m g)
  ends_followed nil r g = refl
  ends_followed (cons x m) r g = ends_followed m r (after fs x g)

  own_followed : (m r : Seq) (g : Signal) (i : ℕ) → own_of fs (followed_by m r) g i ≡ first (own_of fs m g i) (own_of fs r (ends fs m g) i)
  own_followed nil r g i = refl
  own_followed (cons x m) r g i =
      ap (first (own_of_item fs x g i)) (own_followed m r (after fs x g) i)
      ∙ first_assoc (own_of_item fs x g i) (own_of fs m (after fs x g) i) (own_of fs r (ends fs m (after fs x g)) i)

  pub beside_items : (m r : Seq) → Halting fs a (followed_by m r) (cons (beside m a) r) r (ends fs m)
  beside_items m r = record {
    now = after fs (beside m a);
    kept = λ g i. own_of fs m g i;
    as_false = ends_false fs m;
    slowed = λ g. subst (Slowed (is_true (ends fs m g) ≡ true) true (ends fs m g)) (sym (hushed_block m g)) (slowed_hushed g (ends fs m g) (ends_false fs m g));
    silent = λ g e. hushed_block m g ∙ none_hushed g e;
    ends_old = ends_followed m r;
    ends_new = λ g. refl;
    own_old = own_followed m r;
    own_new = λ g i n.
        ap (λ o. first (first (own_of fs m g i) (first o option.None)) (own_of fs r (after fs (beside m a) g) i)) (not_there a i g n)
        ∙ ap (λ o. first o (own_of fs r (after fs (beside m a) g) i)) (first_none (own_of fs m g i));
    stands_new = λ g i v ys us h. past_item fs i v (beside m a) g (spell r ys) (gaps fs r (after fs (beside m a) g) us) h;
  }
