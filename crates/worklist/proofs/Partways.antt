-- A worklist that is being brought in step, and the ids at which it is not yet. Assumes nothing.
use Rattle.std.proofs.Common.{◌≡◌, ℕ, zero, suc, ◌+◌, ◌-◌, ◌<◌, ◌≤◌, Bool, true, false, cond, not, ◌&&◌, ◌||◌, eqb, Some, None, sym, refl, ap, ap₂, ◌∙◌, subst, arith}
use Rattle.std.proofs.lemmas.Bool.{and_parts}
use Rattle.std.proofs.lemmas.Bool.Decides.{nat_tests}
use Rattle.ids.specs.declared.IdSet.{IdSet}
use Rattle.ids.specs.Sets.{has, only, union, difference, LeastIn}
use Rattle.ids.proofs.Laws.{has_union, has_difference, has_only}
use Rattle.worklist.specs.Differences.{Brought, left_alone, ByDifference, none_yet, one_more}
use Rattle.worklist.specs.Offers.{in_step_at}

module _ {W : Type 0} (offered : W → ℕ → Bool) (offering withdrawing : W → ℕ → W → Type 0) (wanted : IdSet) (a : W) where
  abbrev Stepped : ℕ → W → Type 0
  Stepped n b = ByDifference offered offering withdrawing (has wanted) n a b

  -- After k ids were brought in step these are left, which come behind them.
  pub record Partway (k : ℕ) (rest : IdSet) (b : W) : Type 0 where
    pub settled : (i : ℕ) → has rest i ≡ false → offered b i ≡ has wanted i
    pub above : (i : ℕ) → has rest i ≡ true → k ≤ i
    pub upto : ℕ
    pub low : upto ≤ 64
    pub brought : Stepped upto b
    pub behind : (i : ℕ) → has rest i ≡ true → upto ≤ i

  same : (x y : Bool) → ((x && not y) || (y && not x)) ≡ false → x ≡ y
  same true true h = refl
  same true false h = absurd cc
  same false true h = absurd cc
  same false false h = refl

  -- at first those are left that differ
  pub at_first : (now rest : IdSet) → ((i : ℕ) → has now i ≡ offered a i) → rest ≡ union (difference now wanted) (difference wanted now) → Partway 0 rest a
  at_first now rest is e = record {
    settled = λ i h. sym (is i) ∙ same (has now i) (has wanted i) (sym (differ i) ∙ h);
    above = λ i h. omega arith;
    upto = 0;
    low = omega arith;
    brought = none_yet;
    behind = λ i h. omega arith;
  }
    where
      differ : (i : ℕ) → has rest i ≡ ((has now i && not (has wanted i)) || (has wanted i && not (has now i)))
      differ i =
          ap (λ s. has s i) e ∙ has_union (difference now wanted) (difference wanted now) i
          ∙ ap₂ (λ x y. x || y) (has_difference now wanted i) (has_difference wanted now i)

  -- ids that are in step are left alone
  further : (d n : ℕ) (b : W) → Stepped n b → ((i : ℕ) → n ≤ i → i < n + d → offered b i ≡ has wanted i) → Stepped (n + d) b
  further zero n b s h = subst (λ m. Stepped m b) (omega arith) s
  further (suc d) n b s h =
      subst (λ m. Stepped m b) (omega arith) (one_more (further d n b s (λ i from to. h i from (omega arith))) (left_alone (h (n + d) (omega arith) (omega arith))))

  pub up_to : (m : ℕ) (n : ℕ) (b : W) → n ≤ m → Stepped n b → ((i : ℕ) → n ≤ i → i < m → offered b i ≡ has wanted i) → Stepped m b
  up_to m n b less s h = subst (λ q. Stepped q b) (omega arith) (further (m - n) n b s (λ i from to. h i from (omega arith)))

  -- none is left
  pub all_stepped : (k : ℕ) (rest : IdSet) (b : W) → Partway k rest b → ((i : ℕ) → i < 64 → has rest i ≡ false) → Stepped 64 b
  all_stepped k rest b p none = up_to 64 p.upto b p.low p.brought (λ i from to. p.settled i (none i to))

  -- ids end at 63
  pub none_below : (k : ℕ) (rest : IdSet) (b : W) → Partway k rest b → 64 ≤ k → (i : ℕ) → i < 64 → has rest i ≡ false
  none_below k rest b p past i low = go (has rest i) refl
    where
      go : (v : Bool) → has rest i ≡ v → v ≡ false
      go true e = absurd (let from = p.above i e in omega arith)
      go false e = refl

  module _ (k : ℕ) (rest : IdSet) (b c : W) (id : ℕ) (next : IdSet) (p : Partway k rest b) (least : LeastIn rest (Some id))
      (after : offered c ≡ in_step_at id (has wanted) (offered b)) (brought : Brought offered offering withdrawing (has wanted) id b c)
      (is : next ≡ difference rest (only id)) where
    has_next : (i : ℕ) → has next i ≡ (has rest i && not (eqb i id))
    has_next i = ap (λ s. has s i) is ∙ has_difference rest (only id) i ∙ ap (λ v. has rest i && not v) (has_only id i least.0)

    now_settled : (i : ℕ) → has next i ≡ false → offered c i ≡ has wanted i
    now_settled i h = ap (λ f. f i) after ∙ go (eqb i id) refl (has rest i) refl (sym (has_next i) ∙ h)
      where
        go : (v : Bool) → eqb i id ≡ v → (w : Bool) → has rest i ≡ w → (w && not v) ≡ false → cond v (has wanted i) (offered b i) ≡ has wanted i
        go true e w r n = refl
        go false e true r n = absurd cc
        go false e false r n = p.settled i r

    higher : (i : ℕ) → has next i ≡ true → id + 1 ≤ i
    higher i h = let q = and_parts (has rest i) _ (sym (has_next i) ∙ h) in grind (arith, nat_tests, least.2 i, q.0, q.1)

    -- one more is in step
    pub one_on : Partway (k + 1) next c
    one_on = record {
      settled = now_settled;
      above = λ i h. let from = p.above id least.1 in let up = higher i h in omega (arith, from, up);
      upto = id + 1;
      low = omega (arith, least.0);
      brought = one_more (up_to id p.upto b (p.behind id least.1) p.brought (λ i from to. p.settled i (least.2 i to))) brought;
      behind = higher;
    }
