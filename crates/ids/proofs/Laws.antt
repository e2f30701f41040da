-- Who is in a set. Assumes nothing.
use Rattle.std.proofs.Common.{◌≡◌, ℕ, ◌+◌, ◌-◌, ◌*◌, ◌/◌, ◌%◌, ◌^◌, ◌<◌, ◌≤◌, min, max, false, not, ◌&&◌, ◌||◌, eqb, ltb, ◌⊎◌, sym, ap, ◌∙◌, subst, inl, inr, ⊎_elim, arith}
use lib.Bits.{bit_or, bit_and, bit_xor, or_step, and_step, xor_add_and}
use Rattle.std.proofs.lemmas.Nat.{or_shr, and_shr, xor_shr, pow_pos, pow-add, pow_below, shl-shr, div_below}
use Rattle.std.proofs.lemmas.Bool.{eq-eqb, ne_eqb, cond-true, cond-false, lt-ltb, le-ltb, cases_order}
use Rattle.std.proofs.lemmas.Bool.Decides.{nat_tests}
use Rattle.ids.specs.declared.IdSet.{IdSet}
use Rattle.ids.specs.Sets.{has, empty, only, union, intersection, difference}

pub has_union : (s t : IdSet) (i : ℕ) → has (union s t) i ≡ (has s i || has t i)
unfolding has union
has_union s t i =
    let x = s.bits / 2 ^ i in
    let y = t.bits / 2 ^ i in
    let e : bit_or s.bits t.bits / 2 ^ i % 2 ≡ max (x % 2) (y % 2) = ap (λ n. n % 2) (or_shr s.bits t.bits i) ∙ (let o = or_step x y in omega arith) in
    ap (λ n. eqb n 1) e ∙ grind (arith, nat_tests)

pub has_intersection : (s t : IdSet) (i : ℕ) → has (intersection s t) i ≡ (has s i && has t i)
unfolding has intersection
has_intersection s t i =
    let x = s.bits / 2 ^ i in
    let y = t.bits / 2 ^ i in
    let e : bit_and s.bits t.bits / 2 ^ i % 2 ≡ min (x % 2) (y % 2) = ap (λ n. n % 2) (and_shr s.bits t.bits i) ∙ (let o = and_step x y in omega arith) in
    ap (λ n. eqb n 1) e ∙ grind (arith, nat_tests)

pub has_difference : (s t : IdSet) (i : ℕ) → has (difference s t) i ≡ (has s i && not (has t i))
unfolding has difference
has_difference s t i =
    let x = s.bits / 2 ^ i in
    let y = t.bits / 2 ^ i in
    let m : bit_xor s.bits (bit_and s.bits t.bits) / 2 ^ i ≡ bit_xor x (bit_and x y) = xor_shr s.bits (bit_and s.bits t.bits) i ∙ ap (bit_xor x) (and_shr s.bits t.bits i) in
    let e : bit_xor s.bits (bit_and s.bits t.bits) / 2 ^ i % 2 ≡ (x % 2 + min (x % 2) (y % 2)) % 2 = ap (λ n. n % 2) m ∙ (let a = and_step x y in let o = xor_add_and x (bit_and x y) in omega arith) in
    ap (λ n. eqb n 1) e ∙ grind (arith, nat_tests)

small_has : (s : IdSet) (i : ℕ) → s.bits < 2 ^ i → has s i ≡ false
unfolding has
small_has s i h =
    let z : s.bits / 2 ^ i < 1 = div_below s.bits (2 ^ i) 1 (pow_pos i) (omega arith) in
    ne_eqb _ _ (omega arith)

pub has_empty : (i : ℕ) → has empty i ≡ false
has_empty i = small_has empty i (pow_pos i)

-- ids end at 63
pub has_past : (s : IdSet) (i : ℕ) → s.bits < 2 ^ 64 → 64 ≤ i → has s i ≡ false
has_past s i h past = small_has s i (⊎_elim (λ e. subst (λ k. s.bits < 2 ^ k) e h) (λ l. let p = pow_below 64 i l in omega arith) (split i past))
  where
    split : (i : ℕ) → 64 ≤ i → (64 ≡ i) ⊎ (64 < i)
    split i h = ⊎_elim inl (⊎_elim inr (λ l. absurd (omega arith))) (cases_order 64 i)

abbrev power : ℕ → IdSet
power i = record { bits = 2 ^ i }

power_has : (i j : ℕ) → has (power i) j ≡ eqb j i
unfolding has
power_has i j = ⊎_elim same (⊎_elim above below) (cases_order i j)
  where
    same : i ≡ j → eqb (2 ^ i / 2 ^ j % 2) 1 ≡ eqb j i
    same e =
        let q : 2 ^ i / 2 ^ j ≡ 1 = ap (λ k. 2 ^ i / 2 ^ k) (sym e) ∙ (ap (λ n. n / 2 ^ i) (omega arith) ∙ shl-shr 1 i) in
        eq-eqb _ _ (omega arith) ∙ sym (eq-eqb j i (sym e))

    above : i < j → eqb (2 ^ i / 2 ^ j % 2) 1 ≡ eqb j i
    above l =
        let p = pow_below i j l in
        let z : 2 ^ i / 2 ^ j < 1 = div_below (2 ^ i) (2 ^ j) 1 (pow_pos j) (omega arith) in
        ne_eqb _ _ (omega arith) ∙ sym (ne_eqb j i (omega arith))

    below : j < i → eqb (2 ^ i / 2 ^ j % 2) 1 ≡ eqb j i
    below l =
        let d = i - j - 1 in
        let s : 1 + d + j ≡ i = omega arith in
        let q : 2 ^ i / 2 ^ j ≡ 2 ^ (1 + d) = ap (λ k. 2 ^ k / 2 ^ j) (sym s) ∙ ap (λ n. n / 2 ^ j) (pow-add 2 (1 + d) j) ∙ shl-shr (2 ^ (1 + d)) j in
        let t : 2 ^ (1 + d) ≡ 2 * 2 ^ d = pow-add 2 1 d in
        ne_eqb _ _ (omega arith) ∙ sym (ne_eqb j i (omega arith))

pub has_only : (i j : ℕ) → i < 64 → has (only i) j ≡ eqb j i
unfolding only
has_only i j h = ap (λ n. has (record { bits = n }) j) (cond-true (ltb i 64) (2 ^ i) 0 (lt-ltb i 64 h)) ∙ power_has i j

pub has_only_past : (i j : ℕ) → 64 ≤ i → has (only i) j ≡ false
unfolding only
has_only_past i j h = ap (λ n. has (record { bits = n }) j) (cond-false (ltb i 64) (2 ^ i) 0 (le-ltb i 64 h)) ∙ has_empty j
