-- Reading a case record inverts its writing.
use Rattle.std.proofs.Common.{◌≡◌, ℕ, ◌*◌, ◌/◌, ◌%◌, ◌<◌, Bool, true, false, cond, ◌&&◌, eqb, List, [], ◌∷◌, length, Some, None, sym, refl, subst, arith}
use Rattle.std.specs.List.{AllByRecursion}
use Rattle.std.proofs.lemmas.Bool.{and_parts, eqb-true, eq-eqb}
use Rattle.record.specs.Hex.{Byte}
use Rattle.record.proofs.Inverses.{never}
use Rattle.record.proofs.Formats.{inverts}
use Rattle.case_record.specs.Entries.{entries_in, entry_bytes}
use Rattle.case_record.specs.CaseRecords.{RawCase, Writable, Writing, case_bytes, count_of, number_of, read_case, read_decoded}
use Rattle.case_record.specs.Laws.{ReadingInvertsWriting}
use Rattle.case_record.proofs.Triples.{threefold, count_entries, entries_in_bytes, bytes_of_entries, length_entry_bytes, all_entries, all_entry_bytes}

-- the parts of a record, put together again
written : (n3 n2 n1 n0 hi lo : ℕ) (rest : List ℕ) → n3 < 256 → n2 < 256 → n1 < 256 → n0 < 256 → hi < 256 → lo < 256 → AllByRecursion Byte rest →
    length rest ≡ 3 * count_of hi lo →
    Writing (3 ∷ n3 ∷ n2 ∷ n1 ∷ n0 ∷ hi ∷ lo ∷ rest) (record { number = number_of n3 n2 n1 n0; entries = entries_in rest })
written n3 n2 n1 n0 hi lo rest b3 b2 b1 b0 bh bl all long =
    let count : length (entries_in rest) ≡ count_of hi lo = count_entries rest (count_of hi lo) long in
    let third : n3 ≡ number_of n3 n2 n1 n0 / 16777216 = omega arith in
    let second : n2 ≡ number_of n3 n2 n1 n0 / 65536 % 256 = omega arith in
    let first : n1 ≡ number_of n3 n2 n1 n0 / 256 % 256 = omega arith in
    let zeroth : n0 ≡ number_of n3 n2 n1 n0 % 256 = omega arith in
    let high : hi ≡ length (entries_in rest) / 256 = omega arith in
    let low : lo ≡ length (entries_in rest) % 256 = omega arith in
    let tail : rest ≡ entry_bytes (entries_in rest) = sym (bytes_of_entries rest (threefold rest (count_of hi lo) long)) in
    let same : 3 ∷ n3 ∷ n2 ∷ n1 ∷ n0 ∷ hi ∷ lo ∷ rest ≡ case_bytes (record { number = number_of n3 n2 n1 n0; entries = entries_in rest }) = cc in
    (record { number = omega arith; few = omega arith; entries = all_entries rest all }, same)

pub written_from_read : (bs : List ℕ) (c : RawCase) → AllByRecursion Byte bs → read_case bs ≡ Some c → Writing bs c
written_from_read [] c all e = never e
written_from_read (t ∷ []) c all e = never e
written_from_read (t ∷ n3 ∷ []) c all e = never e
written_from_read (t ∷ n3 ∷ n2 ∷ []) c all e = never e
written_from_read (t ∷ n3 ∷ n2 ∷ n1 ∷ []) c all e = never e
written_from_read (t ∷ n3 ∷ n2 ∷ n1 ∷ n0 ∷ []) c all e = never e
written_from_read (t ∷ n3 ∷ n2 ∷ n1 ∷ n0 ∷ hi ∷ []) c all e = never e
written_from_read (t ∷ n3 ∷ n2 ∷ n1 ∷ n0 ∷ hi ∷ lo ∷ rest) c all e = go (eqb t 3 && eqb (length rest) (3 * count_of hi lo)) refl e
  where
    go : (b : Bool) → (eqb t 3 && eqb (length rest) (3 * count_of hi lo)) ≡ b → cond b (Some (record { number = number_of n3 n2 n1 n0; entries = entries_in rest })) None ≡ Some c → Writing (t ∷ n3 ∷ n2 ∷ n1 ∷ n0 ∷ hi ∷ lo ∷ rest) c
    go false eb j = never j
    go true eb j =
        let tests = and_parts (eqb t 3) (eqb (length rest) (3 * count_of hi lo)) eb in
        let three : t ≡ 3 = eqb-true _ _ tests.0 in
        let is : record { number = number_of n3 n2 n1 n0; entries = entries_in rest } ≡ c = cc in
        let tail = all.1.1.1.1 in
        rw three (subst (Writing (3 ∷ n3 ∷ n2 ∷ n1 ∷ n0 ∷ hi ∷ lo ∷ rest)) is
        (written n3 n2 n1 n0 hi lo rest all.1.0 all.1.1.0 all.1.1.1.0 tail.0 tail.1.0 tail.1.1.0 tail.1.1.1 (eqb-true _ _ tests.1)))

pub read_from_written : (c : RawCase) → read_case (case_bytes c) ≡ Some c
read_from_written c =
    let number : number_of (c.number / 16777216) (c.number / 65536 % 256) (c.number / 256 % 256) (c.number % 256) ≡ c.number = omega arith in
    let long : length (entry_bytes c.entries) ≡ 3 * count_of (length c.entries / 256) (length c.entries % 256) = omega (arith, length_entry_bytes c.entries) in
    rw (eq-eqb _ _ long, number, entries_in_bytes c.entries)

bytes_of_written : (c : RawCase) → Writable c → AllByRecursion Byte (case_bytes c)
bytes_of_written c w =
    let third : c.number / 16777216 < 256 = omega (arith, w.number) in
    let high : length c.entries / 256 < 256 = omega (arith, w.few) in
    (omega arith, (third, (omega arith, (omega arith, (omega arith, (high, (omega arith, all_entry_bytes c.entries w.entries)))))))

pub reading_inverts_writing : ReadingInvertsWriting
reading_inverts_writing = inverts read_case case_bytes Writable read_from_written written_from_read read_decoded refl (λ _. refl) (λ c. omega arith) bytes_of_written
