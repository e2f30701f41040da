-- The outermost decision against an element, found from the innermost block outwards. Assumes nothing.
use Rattle.std.proofs.Common.{◌≡◌, ℕ, suc, ◌+◌, ◌-◌, ◌<◌, List, [], length, Some, None, Option, ◌≤◌, get_or, sym, refl, ap, ◌∙◌, arith}
use Rattle.std.specs.Option.{option_or}
use Rattle.model.specs.declared.Element.{Element}
use Rattle.model.specs.declared.Element.TheVariants.{Activity, AndSplit, Bar, AndJoin, XorSplit, XorJoin, LoopStart, LoopEnd}
use Rattle.model.specs.declared.Fact.{Fact}
use Rattle.layout.specs.declared.Position.{Position}
use Rattle.schema.specs.Tables.{position_in}
use Rattle.conditions.specs.Deciders.{with_decision, from_block, from_position, decisions_within, decided_against}

or_none : (o : Option ℕ) → option_or o None ≡ o
or_none None = refl
or_none (Some i) = refl

or_or : (a b c : Option ℕ) → option_or (option_or a b) c ≡ option_or a (option_or b c)
or_or None b c = refl
or_or (Some i) b c = refl

module _ (fs : List Fact) where
  with_more : (x : Element) (b : ℕ) (ds : List (ℕ × ℕ))
      → decided_against fs (with_decision x b ds) ≡ option_or (decided_against fs ds) (decided_against fs (with_decision x b []))
  with_more (Activity i) b ds = sym (or_none (decided_against fs ds))
  with_more AndSplit b ds = sym (or_none (decided_against fs ds))
  with_more Bar b ds = sym (or_none (decided_against fs ds))
  with_more AndJoin b ds = sym (or_none (decided_against fs ds))
  with_more (XorSplit i) b ds = refl
  with_more XorJoin b ds = sym (or_none (decided_against fs ds))
  with_more LoopStart b ds = sym (or_none (decided_against fs ds))
  with_more (LoopEnd i) b ds = sym (or_none (decided_against fs ds))

  module _ (xs : List Element) where
    -- Of the blocks around place p, without the i innermost that were passed, and then what those passed say.
    unfoldable pub left_over : ℕ → ℕ → Option ℕ → Option ℕ
    left_over i p found = option_or (decided_against fs (decisions_within xs (length xs - i) p)) found

    one_more : (i p : ℕ) (found : Option ℕ) → i < length xs
        → left_over i p found ≡ option_or (decided_against fs (from_position xs (position_in xs p) (λ s. decisions_within xs (length xs - (i + 1)) s))) found
    unfolding left_over
    one_more i p found h =
        let e : length xs - i ≡ suc (length xs - (i + 1)) = omega arith in
        ap (λ n. option_or (decided_against fs (decisions_within xs n p)) found) e

    pub no_place : (i p : ℕ) (found : Option ℕ) → i < length xs → position_in xs p ≡ None → left_over i p found ≡ found
    no_place i p found h e =
        one_more i p found h
        ∙ ap (λ o. option_or (decided_against fs (from_position xs o (λ s. decisions_within xs (length xs - (i + 1)) s))) found) e

    pub no_block : (i p : ℕ) (found : Option ℕ) (at : Position) → i < length xs → position_in xs p ≡ Some at → at.block ≡ None → left_over i p found ≡ found
    no_block i p found at h e none =
        one_more i p found h
        ∙ ap (λ o. option_or (decided_against fs (from_position xs o (λ s. decisions_within xs (length xs - (i + 1)) s))) found) e
        ∙ ap (λ o. option_or (decided_against fs (from_block xs at.branch o (λ s. decisions_within xs (length xs - (i + 1)) s))) found) none

    next_block : (i p : ℕ) (found : Option ℕ) (at : Position) (s : ℕ) → i < length xs → position_in xs p ≡ Some at → at.block ≡ Some s
        → left_over i p found ≡ left_over (i + 1) s (option_or (decided_against fs (with_decision (get_or xs s AndSplit) at.branch [])) found)
    unfolding left_over
    next_block i p found at s h e is =
        let outer : List (ℕ × ℕ) = decisions_within xs (length xs - (i + 1)) s in
        one_more i p found h
        ∙ ap (λ o. option_or (decided_against fs (from_position xs o (λ q. decisions_within xs (length xs - (i + 1)) q))) found) e
        ∙ ap (λ o. option_or (decided_against fs (from_block xs at.branch o (λ q. decisions_within xs (length xs - (i + 1)) q))) found) is
        ∙ ap (λ o. option_or o found) (with_more (get_or xs s AndSplit) at.branch outer)
        ∙ or_or (decided_against fs outer) (decided_against fs (with_decision (get_or xs s AndSplit) at.branch [])) found

    -- As the code comes to the next block.
    pub passed_on : (i p s : ℕ) (found next : Option ℕ) (at : Position) → i < length xs → position_in xs p ≡ Some at → at.block ≡ Some s
        → next ≡ option_or (decided_against fs (with_decision (get_or xs s AndSplit) at.branch [])) found
        → left_over i p found ≡ left_over (i + 1) s next
    passed_on i p s found next at h e is said =
        next_block i p found at s h e is
        ∙ ap (left_over (i + 1) s) (sym said)

    pub all_passed : (i p : ℕ) (found : Option ℕ) → length xs ≤ i → left_over i p found ≡ found
    unfolding left_over
    all_passed i p found h =
        let e : length xs - i ≡ 0 = omega arith in
        ap (λ n. option_or (decided_against fs (decisions_within xs n p)) found) e

    -- At the start nothing was passed.
    pub none_passed : (p : ℕ) → decided_against fs (decisions_within xs (length xs) p) ≡ left_over 0 p None
    unfolding left_over
    none_passed p =
        let e : length xs ≡ length xs - 0 = omega arith in
        ap (λ n. decided_against fs (decisions_within xs n p)) e ∙ sym (or_none (decided_against fs (decisions_within xs (length xs - 0) p)))
