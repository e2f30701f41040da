-- The front of an array as a stack. Assumes nothing.
use Rattle.std.proofs.Common.{◌≡◌, ℕ, ◌+◌, ◌-◌, ◌<◌, ◌≤◌, List, [], ◌∷◌, reverse, length, get_or, take, set, sym, ap, ◌∙◌, subst, arith, length-set, get_or-set_same}
use Rattle.std.proofs.lemmas.Bool.{cond-true, cond-false, lt-ltb, le-ltb}
use Rattle.stack.specs.Items.{tail, pushed}
use Rattle.std.proofs.lemmas.List.{take_more, take-set, reverse-append, length-reverse, length-take-le}

module _ {X : Type 0} where
  pub front_more : (xs : List X) (d : ℕ) (x : X) → d < length xs → reverse (take (d + 1) xs) ≡ get_or xs d x ∷ reverse (take d xs)
  front_more xs d x h = ap reverse (take_more xs d x h) ∙ reverse-append (take d xs) (get_or xs d x ∷ [])

  pub front_push : (xs : List X) (d : ℕ) (x : X) → d < length xs → reverse (take (d + 1) (set xs d x)) ≡ x ∷ reverse (take d xs)
  front_push xs d x h =
      let long : d < length (set xs d x) = simp length-set h in
      front_more (set xs d x) d x long ∙ rw (get_or-set_same, take-set)

  pub front_less : (xs : List X) (d : ℕ) (x : X) → 0 < d → d ≤ length xs → reverse (take d xs) ≡ get_or xs (d - 1) x ∷ reverse (take (d - 1) xs)
  front_less xs d x pos h =
      let one : d - 1 + 1 ≡ d = omega arith in
      subst (λ k. reverse (take k xs) ≡ get_or xs (d - 1) x ∷ reverse (take (d - 1) xs)) one (front_more xs (d - 1) x (omega arith))

  pub front_tail : (xs : List X) (d : ℕ) → 0 < d → d ≤ length xs → reverse (take (d - 1) xs) ≡ tail (reverse (take d xs))
  front_tail [] d pos h = absurd (omega arith)
  front_tail (x ∷ xs) d pos h = sym (ap tail (front_less (x ∷ xs) d x pos h))

  pub front_length : (xs : List X) (d : ℕ) → d ≤ length xs → length (reverse (take d xs)) ≡ d
  front_length xs d h = length-reverse (take d xs) ∙ length-take-le d xs h

  pub pushed_room : (v : X) (xs : List X) → length xs < 128 → pushed v xs ≡ v ∷ xs
  pushed_room v xs h = cond-true _ _ _ (lt-ltb (length xs) 128 h)

  pub pushed_full : (v : X) (xs : List X) → 128 ≤ length xs → pushed v xs ≡ xs
  pushed_full v xs h = cond-false _ _ _ (le-ltb (length xs) 128 h)
