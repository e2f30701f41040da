-- Bringing a worklist in step by difference, id by id from 0 on. Assumes nothing.
--   Brought .. id a b         id was brought in step: left alone if it was, else offered or withdrawn
--   ByDifference .. n a b     the ids below n were, one after another
-- Both are over what a kind of worklist W offers and what it promises of an offer and of a withdrawal.
use Rattle.std.specs.Prelude.{◌≡◌, ℕ, ◌+◌, Bool, true, false}

module _ {W : Type 0} (offered : W → ℕ → Bool) (offering withdrawing : W → ℕ → W → Type 0) (wanted : ℕ → Bool) where
  pub data Brought (id : ℕ) : W → W → Type 0 where
    left_alone : {a : W} → offered a id ≡ wanted id → Brought id a a
    by_offer : {a b : W} → offered a id ≡ false → wanted id ≡ true → offering a id b → Brought id a b
    by_withdrawal : {a b : W} → offered a id ≡ true → wanted id ≡ false → withdrawing a id b → Brought id a b

  pub data ByDifference : ℕ → W → W → Type 0 where
    none_yet : {a : W} → ByDifference 0 a a
    one_more : {n : ℕ} {a b c : W} → ByDifference n a b → Brought n b c → ByDifference (n + 1) a c
