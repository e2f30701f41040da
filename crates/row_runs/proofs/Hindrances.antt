-- What hinders a change at a gap: the least follower that is busy. Assumes nothing.
use Rattle.std.proofs.Common.{◌≡◌, ℕ, Bool, true, false, cond, ◌&&◌, List, Some, None, Option, sym, refl, ap, ◌∙◌, subst, inl, inr, arith}
use Rattle.std.proofs.lemmas.Bool.{and_parts}
use Rattle.model.specs.declared.Fact.{Fact}
use Rattle.model.specs.Signals.{is_false}
use Rattle.schema.specs.Checks.{SchemaParts}
use Rattle.marking.specs.States.{state_in}
use Rattle.marking.specs.Nearby.{signal_in}
use Rattle.conditions.specs.Conditions.{is_busy, least, is_follower, busy_follower, hindered_at}
use Rattle.conditions.proofs.LeastIds.{LeastOf, least_tells}
use Rattle.row_runs.proofs.HaltedRuns.{Clear}

module _ (S : SchemaParts) (fs : List Fact) (g : ℕ) where
  -- where nothing hinders, the gap is false or no follower is busy
  pub none_clear : hindered_at S fs g ≡ None → Clear S g fs
  none_clear h = go (is_false (signal_in S.row fs g)) refl h
    where
      go : (b : Bool) → is_false (signal_in S.row fs g) ≡ b → cond b None (least (busy_follower S fs g)) ≡ None → Clear S g fs
      go true e h = inl e
      go false e h =
          inr (λ id low fol. sym (ap (λ b. b && is_busy (state_in S.row S.edges fs id)) fol)
          ∙ subst (LeastOf (busy_follower S fs g) 0 64) h (least_tells (busy_follower S fs g)) id (omega arith) (omega (arith, low)))

  -- what hinders is a busy follower of a gap that is not false
  pub clear_none :
      (is_false (signal_in S.row fs g) ≡ false → (id : ℕ) → is_follower S.row g id ≡ true → is_busy (state_in S.row S.edges fs id) ≡ true → ⊥)
      → hindered_at S fs g ≡ None
  clear_none n = go (is_false (signal_in S.row fs g)) refl
    where
      by_least : is_false (signal_in S.row fs g) ≡ false → (o : Option ℕ) → least (busy_follower S fs g) ≡ o → o ≡ None
      by_least e None h = refl
      by_least e (Some k) h =
          let p = and_parts (is_follower S.row g k) (is_busy (state_in S.row S.edges fs k)) (subst (LeastOf (busy_follower S fs g) 0 64) h (least_tells (busy_follower S fs g))).0 in
          absurd (n e k p.0 p.1)

      go : (b : Bool) → is_false (signal_in S.row fs g) ≡ b → cond b None (least (busy_follower S fs g)) ≡ None
      go true e = refl
      go false e = by_least e (least (busy_follower S fs g)) refl
