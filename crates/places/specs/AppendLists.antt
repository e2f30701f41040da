-- What an append list holds in its row of places. Assumes nothing.
--   held l            its items, in the order in which they came
--   left l, size l    how many places are left, and how many there are
--   usage l           how many places are used, and how many are left
--   each_place        a place is used or left
--   push_answer n     a push with n places left is refused if they are none
--   pushed x n xs     x behind xs, if any of n places is left
use Rattle.std.specs.Prelude.{◌≡◌, ℕ, ◌+◌, ◌-◌, cond, List, [], ◌∷◌, ◌++◌, length, take, Ok, Result, ◌==◌}
use Rattle.std.proofs.Common.{arith, length-take}
use Rattle.bounded.specs.declared.Full.{Full}
use Rattle.history.specs.Stores.{refusal}
use Rattle.places.specs.declared.AppendList.{AppendList}

module _ {T : Type 0} where
  abbrev pub held : AppendList T → List T
  held l = take l.used l.row.now

  abbrev pub left : AppendList T → ℕ
  left l = length l.row.now - l.used

  abbrev pub size : AppendList T → ℕ
  size l = length l.row.now

  abbrev pub usage : AppendList T → ℕ × ℕ
  usage l = (length (held l), left l)

  pub each_place : (l : AppendList T) → length (held l) + left l ≡ size l
  each_place l = omega (arith, length-take l.used l.row.now)

  abbrev pub pushed : T → ℕ → List T → List T
  pushed x n xs = cond (n == 0) xs (xs ++ x ∷ [])

abbrev pub push_answer : ℕ → Result (Unit {0}) Full
push_answer n = cond (n == 0) refusal (Ok tt)
