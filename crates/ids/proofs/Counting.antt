-- Counting the bits of a set counts its ids. Assumes nothing.
use Rattle.std.proofs.Common.{◌≡◌, ℕ, zero, suc, ◌+◌, ◌/◌, ◌%◌, ◌^◌, ◌<◌, Bool, true, false, cond, eqb, [], ◌∷◌, ◌++◌, length, sym, refl, ap, ◌∙◌, mod-lt, mod-eq_of_lt, arith, lit<}
use native.Mathlib.Nat.{pow-succ'}
use lib.Arith.{mod-mul}
use lib.Count.{ones, ones_in, ones_cat}
use Rattle.std.proofs.lemmas.Nat.{pow_pos}
use Rattle.std.proofs.lemmas.List.Elements.{filter-append}
use Rattle.std.proofs.lemmas.List.{length-append}
use Rattle.ids.specs.declared.IdSet.{IdSet}
use Rattle.ids.specs.Counts.{ids_below, ids_of, how_many}
use Rattle.ids.specs.Sets.{has}

-- one more id
pub ids_of_more : (p : ℕ → Bool) (n : ℕ) → ids_of p (suc n) ≡ ids_of p n ++ cond (p n) (n ∷ []) []
unfolding ids_below
ids_of_more p n = filter-append p (ids_below n) (n ∷ [])

length_one : (b : Bool) (n : ℕ) → length (cond b (n ∷ []) []) ≡ cond b 1 0
length_one true n = refl
length_one false n = refl

pub count_more : (p : ℕ → Bool) (n : ℕ) → length (ids_of p (suc n)) ≡ length (ids_of p n) + cond (p n) 1 0
count_more p n = ap length (ids_of_more p n) ∙ length-append (ids_of p n) (cond (p n) (n ∷ []) []) ∙ ap (λ k. length (ids_of p n) + k) (length_one (p n) n)

ones_digit : (d : ℕ) → d < 2 → ones d ≡ cond (eqb d 1) 1 0
unfolding ones ones_in
ones_digit zero h = refl
ones_digit (suc zero) h = refl
ones_digit (suc (suc d)) h = absurd (omega arith)

pub ones_below : (s : IdSet) (n : ℕ) → ones (s.bits % 2 ^ n) ≡ length (ids_of (has s) n)
unfolding has ids_below
ones_below s zero = ap ones (omega arith) ∙ ones_digit 0 (lit< tt)
ones_below s (suc n) =
    let b = s.bits in
    ap (λ m. ones (b % m)) (pow-succ' 2 n) ∙ ap ones (mod-mul b (lit< tt) (pow_pos n)) ∙ ones_cat n (b / 2 ^ n % 2) (b % 2 ^ n) (mod-lt b (pow_pos n))
    ∙ (let d = ones_digit (b / 2 ^ n % 2) (mod-lt (b / 2 ^ n) (lit< tt)) in let r = ones_below s n in let m = count_more (has s) n in omega arith)

pub len_of_bits : (s : IdSet) → s.bits < 2 ^ 64 → ones s.bits ≡ how_many (has s)
len_of_bits s h = ap ones (sym (mod-eq_of_lt h)) ∙ ones_below s 64
