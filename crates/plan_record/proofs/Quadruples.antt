-- Bytes four by four: how many changes there are, what stands in each, and back again.
use Rattle.std.proofs.Common.{◌≡◌, ℕ, zero, suc, ◌+◌, ◌-◌, ◌*◌, ◌/◌, ◌<◌, List, [], ◌∷◌, map, length, get_or, Some, refl, ap, arith}
use Rattle.std.specs.List.{AllByRecursion, slice_get}
use Rattle.record.specs.Hex.{Byte}
use Rattle.record.proofs.Pieces.{pieces, items_count}
use Rattle.plan_record.specs.declared.RawChange.{RawChange}
use Rattle.plan_record.specs.Changes.{change_of, change_from, changes_in, change_bytes}
use Rattle.plan_record.specs.PlanRecords.{ByteChange}

pub changes_pieces : (bs : List ℕ) → changes_in bs ≡ map change_from (pieces 4 bs)
changes_pieces [] = refl
changes_pieces (k ∷ []) = refl
changes_pieces (k ∷ a ∷ []) = refl
changes_pieces (k ∷ a ∷ b ∷ []) = refl
changes_pieces (k ∷ a ∷ b ∷ c ∷ bs) =
    let more : length (k ∷ a ∷ b ∷ c ∷ bs) / 4 ≡ suc (length bs / 4) = omega arith in
    rw more (ap (λ xs. change_of k a b c ∷ xs) (changes_pieces bs))

pub length_changes : (bs : List ℕ) → length (changes_in bs) ≡ length bs / 4
length_changes [] = refl
length_changes (k ∷ []) = refl
length_changes (k ∷ a ∷ []) = refl
length_changes (k ∷ a ∷ b ∷ []) = refl
length_changes (k ∷ a ∷ b ∷ c ∷ bs) = omega (arith, length_changes bs)

pub nth_changes : (bs : List ℕ) (n : ℕ) → n < length bs / 4 →
    slice_get (changes_in bs) n ≡ Some (change_of (get_or bs (4 * n) 0) (get_or bs (4 * n + 1) 0) (get_or bs (4 * n + 2) 0) (get_or bs (4 * n + 3) 0))
nth_changes [] n h = absurd (omega arith)
nth_changes (k ∷ []) n h = absurd (omega arith)
nth_changes (k ∷ a ∷ []) n h = absurd (omega arith)
nth_changes (k ∷ a ∷ b ∷ []) n h = absurd (omega arith)
nth_changes (k ∷ a ∷ b ∷ c ∷ bs) zero h = refl
nth_changes (k ∷ a ∷ b ∷ c ∷ bs) (suc n) h =
    let first : 4 * suc n ≡ suc (suc (suc (suc (4 * n)))) = omega arith in
    let second : 4 * suc n + 1 ≡ suc (suc (suc (suc (4 * n + 1)))) = omega arith in
    let third : 4 * suc n + 2 ≡ suc (suc (suc (suc (4 * n + 2)))) = omega arith in
    let fourth : 4 * suc n + 3 ≡ suc (suc (suc (suc (4 * n + 3)))) = omega arith in
    rw (fourth, third, second, first) (nth_changes bs n (omega arith))

pub count_changes : (bs : List ℕ) (n : ℕ) → length bs ≡ 4 * n → length (changes_in bs) ≡ n
count_changes bs n h = items_count 4 (omega arith) change_from bs _ (changes_pieces bs) n h

pub changes_in_bytes : (xs : List RawChange) → changes_in (change_bytes xs) ≡ xs
changes_in_bytes [] = refl
changes_in_bytes (x ∷ xs) = ap (λ ys. x ∷ ys) (changes_in_bytes xs)

pub bytes_of_changes : (bs : List ℕ) (n : ℕ) → length bs ≡ 4 * n → change_bytes (changes_in bs) ≡ bs
bytes_of_changes [] n h = refl
bytes_of_changes (k ∷ []) n h = absurd (omega arith)
bytes_of_changes (k ∷ a ∷ []) n h = absurd (omega arith)
bytes_of_changes (k ∷ a ∷ b ∷ []) n h = absurd (omega arith)
bytes_of_changes (k ∷ a ∷ b ∷ c ∷ bs) n h = ap (λ cs. k ∷ a ∷ b ∷ c ∷ cs) (bytes_of_changes bs (n - 1) (omega arith))

pub length_change_bytes : (xs : List RawChange) → length (change_bytes xs) ≡ 4 * length xs
length_change_bytes [] = refl
length_change_bytes (x ∷ xs) = omega (arith, length_change_bytes xs)

pub all_changes : (bs : List ℕ) → AllByRecursion Byte bs → AllByRecursion ByteChange (changes_in bs)
all_changes [] h = tt
all_changes (k ∷ []) h = tt
all_changes (k ∷ a ∷ []) h = tt
all_changes (k ∷ a ∷ b ∷ []) h = tt
all_changes (k ∷ a ∷ b ∷ c ∷ bs) h = ((h.0, h.1.0, h.1.1.0, h.1.1.1.0), all_changes bs h.1.1.1.1)

pub all_change_bytes : (xs : List RawChange) → AllByRecursion ByteChange xs → AllByRecursion Byte (change_bytes xs)
all_change_bytes [] h = tt
all_change_bytes (x ∷ xs) h = (h.0.0, (h.0.1, (h.0.2, (h.0.3, all_change_bytes xs h.1))))
