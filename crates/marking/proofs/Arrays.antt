-- What a closure that changes nothing makes of each place of an array. Assumes nothing.
use Rattle.std.proofs.Common.{◌≡◌, ℕ, zero, suc, ◌+◌, ◌<◌, List, get_or, sym, subst, arith}
use Rattle.std.specs.Array.{IsFromFnResultFrom, IsFromFnResult}
use Rattle.std.specs.Fn.{Called}
use denote.Param.Members.{Mut}

module _ {F B : Type 0} (g : Mut F (ℕ × Unit {0}) B) (P : ℕ → B → Type 0) (f : F) (gives : (i : ℕ) (y : B) (f' : F) → Called g f (i, tt) y f' → P i y × (f' ≡ f)) where
  made_from : (ys : List B) (i n : ℕ) → IsFromFnResultFrom g f ys i n → (k : ℕ) (e : B) → k < n → P (i + k) (get_or ys (i + k) e)
  made_from ys i zero made k e h = absurd (omega arith)
  made_from ys i (suc n) made zero e h =
      let here = gives i made.1 made.0 made.3 in
      subst (λ j. P j (get_or ys j e)) (omega arith) (subst (P i) (sym (made.2.1 e)) here.0)
  made_from ys i (suc n) made (suc k) e h =
      let here = gives i made.1 made.0 made.3 in
      let rest = subst (λ q. IsFromFnResultFrom g q ys (i + 1) n) here.1 made.4 in
      subst (λ j. P j (get_or ys j e)) (omega arith) (made_from ys (i + 1) n rest k e (omega arith))

  pub from_fn_same : (ys : List B) (n : ℕ) → IsFromFnResult g f ys n → (k : ℕ) (e : B) → k < n → P k (get_or ys k e)
  from_fn_same ys n made k e h = subst (λ j. P j (get_or ys j e)) (omega arith) (made_from ys 0 n made.each k e h)
