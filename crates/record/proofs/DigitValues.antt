-- The table of digits has what each character stands for, and 255 where that is nothing.
use Rattle.std.proofs.Common.{◌≡◌, ℕ, ◌<◌, ◌≤◌, List, map, get_or, Some, None, Option, IfSome, unwrap_or, refl, ap, ◌∙◌, arith}
use Rattle.std.specs.List.{range_with_len}
use Rattle.std.proofs.lemmas.Bool.Decides.{nat_tests}
use Rattle.std.proofs.lemmas.List.FromFn.{get_or-map-range_with_len}
use Rattle.record.specs.Hex.{digit_value}
use Rattle.record.specs.declared.digit_values.TheConstants.{VALUES}

value_or_more : ℕ → ℕ
value_or_more c = unwrap_or (digit_value c) 255

table_is : VALUES ≡ map value_or_more (range_with_len 0 256)
unfolding value_or_more
table_is = refl

value_at : (c : ℕ) → c < 256 → get_or VALUES c 0 ≡ unwrap_or (digit_value c) 255
unfolding value_or_more
value_at c within = ap (λ (vs : List ℕ). get_or vs c 0) table_is ∙ get_or-map-range_with_len value_or_more 0 256 c c 0 within (omega arith)

digit_small : (c : ℕ) → IfSome (digit_value c) (λ v. v < 16)
digit_small c = grind (arith, nat_tests)

stands_for : (v : ℕ) (o : Option ℕ) → v ≡ unwrap_or o 255 → v < 16 → Some v ≡ o
stands_for v None e small = absurd (omega arith)
stands_for v (Some w) e small = ap Some e

stands_for_none : (v : ℕ) (o : Option ℕ) → v ≡ unwrap_or o 255 → IfSome o (λ w. w < 16) → 16 ≤ v → None ≡ o
stands_for_none v None e small big = refl
stands_for_none v (Some w) e small big = absurd (omega arith)

pub digit_found : (c : ℕ) → c < 256 → get_or VALUES c 0 < 16 → Some (get_or VALUES c 0) ≡ digit_value c
digit_found c within = stands_for _ _ (value_at c within)

pub digit_missed : (c : ℕ) → c < 256 → 16 ≤ get_or VALUES c 0 → None ≡ digit_value c
digit_missed c within = stands_for_none _ _ (value_at c within) (digit_small c)
