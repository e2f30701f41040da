-- Digits read with a flag in place of an option: it is below 16 as long as each character was a digit.
use Rattle.std.proofs.Common.{◌≡◌, ℕ, ◌+◌, ◌*◌, ◌<◌, ◌≤◌, List, [], ◌∷◌, ◌++◌, length, get_or, drop, Some, None, Option, bit_or, inl, inr, sym, refl, ap, ◌∙◌, arith}
use Rattle.std.proofs.lemmas.Bool.{cases_lt}
use Rattle.std.proofs.lemmas.Nat.{le_or_l, le_or_r, or_lt}
use Rattle.record.specs.Hex.{after, digit_value, joint, spelled}
use Rattle.record.proofs.Spellings.{spelled_by, spelled_more, spelled_stops}

-- v is what the character c stands for, or is 16 or more if that is nothing
pub record Stands (c v : ℕ) : Type 0 where
  pub digit : v < 16 → Some v ≡ digit_value c
  pub other : 16 ≤ v → None ≡ digit_value c

-- the characters spell what is told if the flag is below 16, and nothing else
pub record Told (cs : List ℕ) (flag : ℕ) (o : Option (List ℕ)) : Type 0 where
  pub digits : flag < 16 → spelled cs ≡ o
  pub other : 16 ≤ flag → spelled cs ≡ None

joint_some : (o p : Option ℕ) (h l : ℕ) → Some h ≡ o → Some l ≡ p → joint o p ≡ Some (16 * h + l)
joint_some o p h l e f = sym (ap (joint (Some h)) f ∙ ap (λ (q : Option ℕ). joint q p) e)

joint_none_high : (o p : Option ℕ) → None ≡ o → joint o p ≡ None
joint_none_high o p e = sym (ap (λ (q : Option ℕ). joint q p) e)

joint_none_low : (o p : Option ℕ) → None ≡ p → joint o p ≡ None
joint_none_low None p e = refl
joint_none_low (Some h) p e = sym (ap (joint (Some h)) e)

-- two characters more: the first and the second of a pair
pub told_more : (cs : List ℕ) (ps : List (List ℕ)) (i : ℕ) → i < length ps → (bs : List ℕ) (flag h l b : ℕ) →
    Told cs flag (after bs (spelled_by (drop i ps))) →
    Stands (get_or (get_or ps i []) 0 0) h → Stands (get_or (get_or ps i []) 1 0) l → (h < 16 → l < 16 → b ≡ 16 * h + l) →
    Told cs (bit_or flag (bit_or h l)) (after (bs ++ b ∷ []) (spelled_by (drop (i + 1) ps)))
told_more cs ps i within bs flag h l b told high low is = record { digits = digits; other = other }
  where
    flag_below : flag ≤ bit_or flag (bit_or h l)
    flag_below = le_or_l flag (bit_or h l)

    pair_below : bit_or h l ≤ bit_or flag (bit_or h l)
    pair_below = le_or_r flag (bit_or h l)

    digits : bit_or flag (bit_or h l) < 16 → spelled cs ≡ after (bs ++ b ∷ []) (spelled_by (drop (i + 1) ps))
    digits small =
        let h_small : h < 16 = omega (arith, pair_below, le_or_l h l, small) in
        let l_small : l < 16 = omega (arith, pair_below, le_or_r h l, small) in
        let byte = joint_some _ _ h l (high.digit h_small) (low.digit l_small) ∙ ap Some (sym (is h_small l_small)) in
        told.digits (omega (arith, flag_below, small)) ∙ spelled_more ps i within bs b byte

    other : 16 ≤ bit_or flag (bit_or h l) → spelled cs ≡ None
    other big =
        elim (cases_lt flag 16) [
          | inr flagged ↦ told.other flagged
          | inl clear ↦
              told.digits clear ∙ spelled_stops ps i within bs (
              elim (cases_lt h 16) [
                | inr h_big ↦ joint_none_high _ _ (high.other h_big)
                | inl h_small ↦
                    elim (cases_lt l 16) [
                      | inr l_big ↦ joint_none_low _ _ (low.other l_big)
                      | inl l_small ↦ absurd (omega (arith, big, or_lt 4 flag (bit_or h l) clear (or_lt 4 h l h_small l_small)))
                    ]
              ])
        ]
