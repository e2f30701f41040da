-- The least node of a set that is Running or Completed, looked for from the least node on. Assumes nothing.
use Rattle.std.proofs.Common.{◌≡◌, ℕ, ◌+◌, ◌<◌, ◌≤◌, Bool, true, false, not, ◌&&◌, eqb, List, Some, None, Option, sym, refl, ap, ap₂, ◌∙◌, arith}
use Rattle.std.proofs.lemmas.Bool.{true≢false, and_parts, eqb-true}
use Rattle.std.proofs.lemmas.Bool.Decides.{nat_tests}
use Rattle.ids.specs.declared.IdSet.{IdSet}
use Rattle.ids.specs.Sets.{has, only, difference, LeastIn}
use Rattle.ids.proofs.Laws.{has_difference, has_only}
use Rattle.model.specs.declared.Fact.{Fact}
use Rattle.schema.specs.Checks.{SchemaParts}
use Rattle.marking.specs.States.{state_in}
use Rattle.conditions.specs.Conditions.{is_busy, least_busy}
use Rattle.conditions.proofs.LeastIds.{least_none, least_some}

module _ (S : SchemaParts) (fs : List Fact) (ids : IdSet) where
  -- The node is in the set and Running or Completed.
  abbrev busy_among : ℕ → Bool
  busy_among id = has ids id && is_busy (state_in S.row S.edges fs id)

  -- What is left after i nodes that are neither: no node below i, and every one that is.
  pub record Left (i : ℕ) (rest : IdSet) : Type 0 where
    pub above : (k : ℕ) → has rest k ≡ true → i ≤ k
    pub among : (k : ℕ) → has rest k ≡ true → has ids k ≡ true
    pub busy : (k : ℕ) → busy_among k ≡ true → has rest k ≡ true

  not_left : (i : ℕ) (rest : IdSet) → Left i rest → (k : ℕ) → has rest k ≡ false → busy_among k ≡ false
  not_left i rest l k gone = go (busy_among k) refl
    where
      go : (b : Bool) → busy_among k ≡ b → b ≡ false
      go true e = absurd (true≢false (sym (l.busy k e) ∙ gone))
      go false e = refl

  pub all_left : Left 0 ids
  all_left = record { above = λ k h. omega arith; among = λ k h. h; busy = λ k h. (and_parts (has ids k) _ h).0 }

  pub none_left : (i : ℕ) (rest : IdSet) → Left i rest → LeastIn rest None → least_busy S fs ids ≡ None
  unfolding least_busy
  none_left i rest l none = least_none busy_among (λ k low. not_left i rest l k (none k))

  pub found_here : (i : ℕ) (rest : IdSet) (id : ℕ) → Left i rest → LeastIn rest (Some id) → is_busy (state_in S.row S.edges fs id) ≡ true
      → least_busy S fs ids ≡ Some id
  unfolding least_busy
  found_here i rest id l least busy =
      least_some busy_among id least.0 (ap₂ (λ a b. a && b) (l.among id least.1) busy) (λ k less. not_left i rest l k (least.2 k less))

  pub one_less : (i : ℕ) (rest : IdSet) (id : ℕ) (next : IdSet) → Left i rest → LeastIn rest (Some id) → is_busy (state_in S.row S.edges fs id) ≡ false
      → next ≡ difference rest (only id) → Left (i + 1) next
  one_less i rest id next l least idle is =
      let has_next : (k : ℕ) → has next k ≡ (has rest k && not (eqb k id)) =
      λ k. ap (λ s. has s k) is ∙ has_difference rest (only id) k ∙ ap (λ b. has rest k && not b) (has_only id k least.0) in
      record {
        above = λ k h. let p = and_parts (has rest k) _ (sym (has_next k) ∙ h) in higher k p.0 p.1;
        among = λ k h. l.among k (and_parts (has rest k) _ (sym (has_next k) ∙ h)).0;
        busy = λ k h. has_next k ∙ ap₂ (λ a b. a && b) (l.busy k h) (other k h);
      }
    where
      higher : (k : ℕ) → has rest k ≡ true → not (eqb k id) ≡ true → i + 1 ≤ k
      higher k h n = let from = l.above id least.1 in grind (arith, nat_tests, least.2 k, from)

      other : (k : ℕ) → busy_among k ≡ true → not (eqb k id) ≡ true
      other k h = go (eqb k id) refl
        where
          go : (b : Bool) → eqb k id ≡ b → not b ≡ true
          go true e = absurd (true≢false (sym (and_parts (has ids k) _ h).1 ∙ ap (λ m. is_busy (state_in S.row S.edges fs m)) (eqb-true k id e) ∙ idle))
          go false e = refl

  -- ids end at 63
  pub all_passed : (i : ℕ) (rest : IdSet) → Left i rest → 64 ≤ i → least_busy S fs ids ≡ None
  unfolding least_busy
  all_passed i rest l past = least_none busy_among (λ k low. not_left i rest l k (go k low (has rest k) refl))
    where
      go : (k : ℕ) → k < 64 → (b : Bool) → has rest k ≡ b → b ≡ false
      go k low true e = absurd (let from = l.above k e in omega arith)
      go k low false e = refl
