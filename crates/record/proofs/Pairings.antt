-- Bytes two by two: how many pairs there are, what stands in each, and back again. Case and plan records have the same of
-- three and four bytes. One lemma over the size would be no shorter: bytes are taken apart by a case for each, and that
-- would go into its premises.
use Rattle.std.proofs.Common.{◌≡◌, ℕ, zero, suc, ◌+◌, ◌*◌, ◌/◌, ◌<◌, List, [], ◌∷◌, map, length, get_or, Some, refl, ap, arith}
use Rattle.std.specs.List.{AllByRecursion, slice_get}
use Rattle.record.specs.Pairs.{pair_of, pairs, unpaired, Paired}
use Rattle.record.specs.SchemaRecords.{BytePair}
use Rattle.record.proofs.Pieces.{pieces, items_count}

pub pairs_pieces : (bs : List ℕ) → pairs bs ≡ map pair_of (pieces 2 bs)
pairs_pieces [] = refl
pairs_pieces (b ∷ []) = refl
pairs_pieces (b ∷ c ∷ bs) =
    let more : length (b ∷ c ∷ bs) / 2 ≡ suc (length bs / 2) = omega arith in
    rw more (ap (λ ps. (b, c) ∷ ps) (pairs_pieces bs))

pub length_pairs : (bs : List ℕ) → length (pairs bs) ≡ length bs / 2
length_pairs [] = refl
length_pairs (b ∷ []) = refl
length_pairs (b ∷ c ∷ bs) = omega (arith, length_pairs bs)

pub nth_pairs : (bs : List ℕ) (i : ℕ) → i < length bs / 2 → slice_get (pairs bs) i ≡ Some (get_or bs (2 * i) 0, get_or bs (2 * i + 1) 0)
nth_pairs [] i h = absurd (omega arith)
nth_pairs (b ∷ []) i h = absurd (omega arith)
nth_pairs (b ∷ c ∷ bs) zero h = refl
nth_pairs (b ∷ c ∷ bs) (suc i) h =
    let e : 2 * suc i ≡ suc (suc (2 * i)) = omega arith in
    let f : 2 * suc i + 1 ≡ suc (suc (2 * i + 1)) = omega arith in
    rw (f, e) (nth_pairs bs i (omega arith))

pub count_pairs : (bs : List ℕ) (n : ℕ) → length bs ≡ 2 * n → length (pairs bs) ≡ n
count_pairs bs n h = items_count 2 (omega arith) pair_of bs _ (pairs_pieces bs) n h

pub paired : (bs : List ℕ) (n : ℕ) → length bs ≡ 2 * n → Paired bs
paired bs n h = omega (arith, count_pairs bs n h)

pub pairs_unpaired : (ps : List (ℕ × ℕ)) → pairs (unpaired ps) ≡ ps
pairs_unpaired [] = refl
pairs_unpaired (p ∷ ps) = ap (λ qs. p ∷ qs) (pairs_unpaired ps)

pub unpaired_pairs : (bs : List ℕ) → Paired bs → unpaired (pairs bs) ≡ bs
unpaired_pairs [] h = refl
unpaired_pairs (b ∷ []) h = absurd (omega arith)
unpaired_pairs (b ∷ c ∷ bs) h = ap (λ cs. b ∷ c ∷ cs) (unpaired_pairs bs (omega arith))

pub length_unpaired : (ps : List (ℕ × ℕ)) → length (unpaired ps) ≡ 2 * length ps
length_unpaired [] = refl
length_unpaired (p ∷ ps) = omega (arith, length_unpaired ps)

pub all_pairs : (bs : List ℕ) → AllByRecursion (λ b. b < 256) bs → AllByRecursion BytePair (pairs bs)
all_pairs [] h = tt
all_pairs (b ∷ []) h = tt
all_pairs (b ∷ c ∷ bs) h = ((h.0, h.1.0), all_pairs bs h.1.1)

pub all_unpaired : (ps : List (ℕ × ℕ)) → AllByRecursion BytePair ps → AllByRecursion (λ b. b < 256) (unpaired ps)
all_unpaired [] h = tt
all_unpaired (p ∷ ps) h = (h.0.0, (h.0.1, all_unpaired ps h.1))
