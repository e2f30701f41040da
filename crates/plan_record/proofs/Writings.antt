-- Reading a plan record inverts its writing.
use Rattle.std.proofs.Common.{◌≡◌, ℕ, ◌*◌, ◌<◌, Bool, true, false, cond, ◌&&◌, eqb, List, [], ◌∷◌, length, Some, None, sym, refl, subst, arith}
use Rattle.std.specs.List.{AllByRecursion}
use Rattle.std.proofs.lemmas.Bool.{and_parts, eqb-true, eq-eqb}
use Rattle.record.specs.Hex.{Byte}
use Rattle.record.proofs.Inverses.{never}
use Rattle.record.proofs.Formats.{inverts}
use Rattle.plan_record.specs.Changes.{changes_in, change_bytes}
use Rattle.plan_record.specs.PlanRecords.{RawPlan, Writable, Writing, plan_bytes, read_plan, read_decoded}
use Rattle.plan_record.specs.Laws.{ReadingInvertsWriting}
use Rattle.plan_record.proofs.Quadruples.{count_changes, changes_in_bytes, bytes_of_changes, length_change_bytes, all_changes, all_change_bytes}

-- the parts of a record, put together again
written : (n : ℕ) (rest : List ℕ) → n < 256 → AllByRecursion Byte rest → length rest ≡ 4 * n →
    Writing (2 ∷ n ∷ rest) (record { changes = changes_in rest })
written n rest small all long =
    let count : n ≡ length (changes_in rest) = sym (count_changes rest n long) in
    let tail : rest ≡ change_bytes (changes_in rest) = sym (bytes_of_changes rest n long) in
    let same : 2 ∷ n ∷ rest ≡ plan_bytes (record { changes = changes_in rest }) = cc in
    (record { few = omega arith; changes = all_changes rest all }, same)

pub written_from_read : (bs : List ℕ) (p : RawPlan) → AllByRecursion Byte bs → read_plan bs ≡ Some p → Writing bs p
written_from_read [] p all e = never e
written_from_read (t ∷ []) p all e = never e
written_from_read (t ∷ n ∷ rest) p all e = go (eqb t 2 && eqb (length rest) (4 * n)) refl e
  where
    go : (b : Bool) → (eqb t 2 && eqb (length rest) (4 * n)) ≡ b → cond b (Some (record { changes = changes_in rest })) None ≡ Some p → Writing (t ∷ n ∷ rest) p
    go false eb j = never j
    go true eb j =
        let tests = and_parts (eqb t 2) (eqb (length rest) (4 * n)) eb in
        let two : t ≡ 2 = eqb-true _ _ tests.0 in
        let is : record { changes = changes_in rest } ≡ p = cc in
        rw two (subst (Writing (2 ∷ n ∷ rest)) is (written n rest all.1.0 all.1.1 (eqb-true _ _ tests.1)))

pub read_from_written : (p : RawPlan) → read_plan (plan_bytes p) ≡ Some p
read_from_written p = rw (eq-eqb _ _ (length_change_bytes p.changes), changes_in_bytes p.changes)

bytes_of_written : (p : RawPlan) → Writable p → AllByRecursion Byte (plan_bytes p)
bytes_of_written p w = (omega arith, (w.few, all_change_bytes p.changes w.changes))

pub reading_inverts_writing : ReadingInvertsWriting
reading_inverts_writing = inverts read_plan plan_bytes Writable read_from_written written_from_read read_decoded refl (λ _. refl) (λ p. omega arith) bytes_of_written
