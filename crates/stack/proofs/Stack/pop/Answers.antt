use Rattle.std.proofs.Common.{◌≡◌, ℕ, zero, suc, ◌+◌, ◌-◌, ◌≤◌, List, [], ◌∷◌, reverse, length, get_or, take, refl, sym, ap, ◌∙◌, subst, arith}
use Rattle.std.proofs.lemmas.List.{take_more, reverse-append}
use Rattle.stack.specs.Items.{tail}
use Rattle.stack.proofs.Stack.pop.Goals as goal

-- One value less of the array's front is one less on top.
front_tail : {X : Type 0} (xs : List X) (d : ℕ) → d ≤ length xs → reverse (take (d - 1) xs) ≡ tail (reverse (take d xs))
front_tail xs zero h = refl
front_tail [] (suc d) h = absurd (omega arith)
front_tail (x ∷ xs) (suc d) h =
    let l = x ∷ xs in
    let below = suc d - 1 in
    let one : below + 1 ≡ suc d = omega arith in
    let front = ap reverse (take_more l below x (omega arith)) ∙ reverse-append (take below l) (get_or l below x ∷ []) in
    subst (λ k. reverse (take below l) ≡ tail (reverse (take k l))) one (sym (ap tail front))

pub returns : goal.returns
returns g c =
    rw (c.saturating_sub-self-inside.ensures, ← c.self.view_is) (front_tail c.self.inside.places c.self.inside.depth (omega (arith, c.self.invariant)))
