-- The lowest bit of a set is its least id. Assumes nothing.
use Rattle.std.proofs.Common.{◌≡◌, ℕ, ◌^◌, ◌<◌, true, false, eqb, refl, ap, ◌∙◌, arith}
use Rattle.std.specs.Int.{w64, trailing_zeros, bit_at}
use Rattle.std.proofs.lemmas.Nat.Bits.{bit_at-trailing_zeros}
use Rattle.std.proofs.lemmas.Bool.{eq-eqb, ne_eqb}
use Rattle.ids.specs.declared.IdSet.{IdSet}
use Rattle.ids.specs.Sets.{has, empty, LeastIn}
use Rattle.ids.proofs.Laws.{has_empty}

pub none_has : (s : IdSet) → s.bits ≡ 0 → (i : ℕ) → has s i ≡ false
none_has s e i = ap (λ n. has (record { bits = n }) i) e ∙ has_empty i

pub lowest_has : (s : IdSet) → (s.bits ≡ 0 → ⊥) → s.bits < 2 ^ 64 → (i : ℕ) → i ≡ trailing_zeros w64 s.bits
    → (i < 64) × (has s i ≡ true) × ((j : ℕ) → j < i → has s j ≡ false)
unfolding has
lowest_has s some fits i is =
    let low = bit_at-trailing_zeros w64 s.bits (omega (arith, some)) fits in (
      omega (arith, is, low.0),
      ap (λ k. eqb (bit_at s.bits k) 1) is ∙ ap (λ n. eqb n 1) low.1,
      λ j less. ap (λ n. eqb n 1) (low.2 j (omega (arith, is, less))),
    )
