-- Bytes three by three: how many entries there are, what stands in each, and back again.
use Rattle.std.proofs.Common.{◌≡◌, ℕ, zero, suc, ◌+◌, ◌*◌, ◌/◌, ◌<◌, List, [], ◌∷◌, map, length, get_or, Some, refl, ap, arith}
use Rattle.std.specs.List.{AllByRecursion, slice_get}
use Rattle.record.specs.Hex.{Byte}
use Rattle.record.proofs.Pieces.{pieces, items_count}
use Rattle.case_record.specs.declared.RawEntry.{RawEntry}
use Rattle.case_record.specs.Entries.{entry_of, entry_from, entries_in, entry_bytes, Threefold}
use Rattle.case_record.specs.CaseRecords.{ByteEntry}

pub entries_pieces : (bs : List ℕ) → entries_in bs ≡ map entry_from (pieces 3 bs)
entries_pieces [] = refl
entries_pieces (k ∷ []) = refl
entries_pieces (k ∷ i ∷ []) = refl
entries_pieces (k ∷ i ∷ b ∷ bs) =
    let more : length (k ∷ i ∷ b ∷ bs) / 3 ≡ suc (length bs / 3) = omega arith in
    rw more (ap (λ es. entry_of k i b ∷ es) (entries_pieces bs))

pub length_entries : (bs : List ℕ) → length (entries_in bs) ≡ length bs / 3
length_entries [] = refl
length_entries (k ∷ []) = refl
length_entries (k ∷ i ∷ []) = refl
length_entries (k ∷ i ∷ b ∷ bs) = omega (arith, length_entries bs)

pub nth_entries : (bs : List ℕ) (n : ℕ) → n < length bs / 3 →
    slice_get (entries_in bs) n ≡ Some (entry_of (get_or bs (3 * n) 0) (get_or bs (3 * n + 1) 0) (get_or bs (3 * n + 2) 0))
nth_entries [] n h = absurd (omega arith)
nth_entries (k ∷ []) n h = absurd (omega arith)
nth_entries (k ∷ i ∷ []) n h = absurd (omega arith)
nth_entries (k ∷ i ∷ b ∷ bs) zero h = refl
nth_entries (k ∷ i ∷ b ∷ bs) (suc n) h =
    let first : 3 * suc n ≡ suc (suc (suc (3 * n))) = omega arith in
    let second : 3 * suc n + 1 ≡ suc (suc (suc (3 * n + 1))) = omega arith in
    let third : 3 * suc n + 2 ≡ suc (suc (suc (3 * n + 2))) = omega arith in
    rw (third, second, first) (nth_entries bs n (omega arith))

pub count_entries : (bs : List ℕ) (n : ℕ) → length bs ≡ 3 * n → length (entries_in bs) ≡ n
count_entries bs n h = items_count 3 (omega arith) entry_from bs _ (entries_pieces bs) n h

pub threefold : (bs : List ℕ) (n : ℕ) → length bs ≡ 3 * n → Threefold bs
threefold bs n h = omega (arith, count_entries bs n h)

pub entries_in_bytes : (es : List RawEntry) → entries_in (entry_bytes es) ≡ es
entries_in_bytes [] = refl
entries_in_bytes (e ∷ es) = ap (λ fs. e ∷ fs) (entries_in_bytes es)

pub bytes_of_entries : (bs : List ℕ) → Threefold bs → entry_bytes (entries_in bs) ≡ bs
bytes_of_entries [] h = refl
bytes_of_entries (k ∷ []) h = absurd (omega arith)
bytes_of_entries (k ∷ i ∷ []) h = absurd (omega arith)
bytes_of_entries (k ∷ i ∷ b ∷ bs) h = ap (λ cs. k ∷ i ∷ b ∷ cs) (bytes_of_entries bs (omega arith))

pub length_entry_bytes : (es : List RawEntry) → length (entry_bytes es) ≡ 3 * length es
length_entry_bytes [] = refl
length_entry_bytes (e ∷ es) = omega (arith, length_entry_bytes es)

pub all_entries : (bs : List ℕ) → AllByRecursion Byte bs → AllByRecursion ByteEntry (entries_in bs)
all_entries [] h = tt
all_entries (k ∷ []) h = tt
all_entries (k ∷ i ∷ []) h = tt
all_entries (k ∷ i ∷ b ∷ bs) h = ((h.0, h.1.0, h.1.1.0), all_entries bs h.1.1.1)

pub all_entry_bytes : (es : List RawEntry) → AllByRecursion ByteEntry es → AllByRecursion Byte (entry_bytes es)
all_entry_bytes [] h = tt
all_entry_bytes (e ∷ es) h = (h.0.0, (h.0.1, (h.0.2, all_entry_bytes es h.1)))
