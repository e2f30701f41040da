-- A case record taken apart from its front, as slice patterns do.
use Rattle.std.proofs.Common.{◌≡◌, ℕ, ◌-◌, ◌*◌, ◌≤◌, ◌&&◌, eqb, List, [], ◌∷◌, length, get_or, take, drop, Some, None, sym, ap, ◌∙◌, arith}
use Rattle.std.proofs.lemmas.List.{take_rest}
use Rattle.std.proofs.lemmas.Bool.{cond-true, cond-false, and_from, and_right, eq-eqb, ne_eqb}
use Rattle.case_record.specs.Entries.{entries_in}
use Rattle.case_record.specs.CaseRecords.{count_of, number_of, read_case}

-- all but the first seven, as a pattern's rest has it
abbrev rest_of : List ℕ → List ℕ
rest_of bs = take (length bs - 7) (drop 7 bs)

-- the number and the count may have been computed elsewhere
pub read_at : (bs : List ℕ) (n m : ℕ) → 7 ≤ length bs → get_or bs 0 0 ≡ 3 →
    n ≡ number_of (get_or bs 1 0) (get_or bs 2 0) (get_or bs 3 0) (get_or bs 4 0) → m ≡ count_of (get_or bs 5 0) (get_or bs 6 0) → length (rest_of bs) ≡ 3 * m →
    Some (record { number = n; entries = entries_in (rest_of bs) }) ≡ read_case bs
read_at [] n m seven three is_n is_m fits = absurd (omega arith)
read_at (t ∷ []) n m seven three is_n is_m fits = absurd (omega arith)
read_at (t ∷ n3 ∷ []) n m seven three is_n is_m fits = absurd (omega arith)
read_at (t ∷ n3 ∷ n2 ∷ []) n m seven three is_n is_m fits = absurd (omega arith)
read_at (t ∷ n3 ∷ n2 ∷ n1 ∷ []) n m seven three is_n is_m fits = absurd (omega arith)
read_at (t ∷ n3 ∷ n2 ∷ n1 ∷ n0 ∷ []) n m seven three is_n is_m fits = absurd (omega arith)
read_at (t ∷ n3 ∷ n2 ∷ n1 ∷ n0 ∷ hi ∷ []) n m seven three is_n is_m fits = absurd (omega arith)
read_at (t ∷ n3 ∷ n2 ∷ n1 ∷ n0 ∷ hi ∷ lo ∷ rest) n m seven three is_n is_m fits =
    let e : rest_of (t ∷ n3 ∷ n2 ∷ n1 ∷ n0 ∷ hi ∷ lo ∷ rest) ≡ rest = take_rest (t ∷ n3 ∷ n2 ∷ n1 ∷ n0 ∷ hi ∷ lo ∷ rest) 7 in
    let long : length rest ≡ 3 * count_of hi lo = sym (ap length e) ∙ fits ∙ ap (λ k. 3 * k) is_m in
    let same : record { number = n; entries = entries_in (rest_of (t ∷ n3 ∷ n2 ∷ n1 ∷ n0 ∷ hi ∷ lo ∷ rest)) } ≡ record { number = number_of n3 n2 n1 n0; entries = entries_in rest } = cc in
    ap Some same ∙ sym (cond-true (eqb t 3 && eqb (length rest) (3 * count_of hi lo)) _ _ (and_from _ _ (eq-eqb t 3 three) (eq-eqb _ _ long)))

pub refused_at : (bs : List ℕ) (m : ℕ) → 7 ≤ length bs → m ≡ count_of (get_or bs 5 0) (get_or bs 6 0) → (length (rest_of bs) ≡ 3 * m → ⊥) → None ≡ read_case bs
refused_at [] m seven is_m other = absurd (omega arith)
refused_at (t ∷ []) m seven is_m other = absurd (omega arith)
refused_at (t ∷ n3 ∷ []) m seven is_m other = absurd (omega arith)
refused_at (t ∷ n3 ∷ n2 ∷ []) m seven is_m other = absurd (omega arith)
refused_at (t ∷ n3 ∷ n2 ∷ n1 ∷ []) m seven is_m other = absurd (omega arith)
refused_at (t ∷ n3 ∷ n2 ∷ n1 ∷ n0 ∷ []) m seven is_m other = absurd (omega arith)
refused_at (t ∷ n3 ∷ n2 ∷ n1 ∷ n0 ∷ hi ∷ []) m seven is_m other = absurd (omega arith)
refused_at (t ∷ n3 ∷ n2 ∷ n1 ∷ n0 ∷ hi ∷ lo ∷ rest) m seven is_m other =
    let e : rest_of (t ∷ n3 ∷ n2 ∷ n1 ∷ n0 ∷ hi ∷ lo ∷ rest) ≡ rest = take_rest (t ∷ n3 ∷ n2 ∷ n1 ∷ n0 ∷ hi ∷ lo ∷ rest) 7 in
    let apart : length rest ≡ 3 * count_of hi lo → ⊥ = λ long. other (ap length e ∙ long ∙ ap (λ k. 3 * k) (sym is_m)) in
    sym (cond-false (eqb t 3 && eqb (length rest) (3 * count_of hi lo)) _ _ (and_right (eqb t 3) _ (ne_eqb _ _ apart)))
