-- A schema record taken apart from its front, as slice patterns do.
use Rattle.std.proofs.Common.{◌≡◌, ℕ, ◌+◌, ◌-◌, ◌*◌, ◌<◌, ◌≤◌, ◌&&◌, eqb, leb, List, [], ◌∷◌, length, get_or, take, drop, Some, None, Option, sym, ap, ◌∙◌, arith}
use Rattle.std.proofs.lemmas.List.{take_rest}
use Rattle.std.proofs.lemmas.Bool.{cond-true, cond-false, and_from, and_right, eq-eqb, le-leb}
use Rattle.std.proofs.lemmas.Bool.Decides.{nat_tests}
use Rattle.record.specs.SchemaRecords.{edges_in, read_schema, with_edges}

-- all but the first n, as a pattern's rest has it
abbrev pub rest_of : ℕ → List ℕ → List ℕ
rest_of n bs = take (length bs - n) (drop n bs)

pub edges_at : (bs : List ℕ) → 0 < length bs → length (rest_of 1 bs) ≡ 2 * get_or bs 0 0 → Some (rest_of 1 bs) ≡ edges_in bs
edges_at [] some h = absurd (omega arith)
edges_at (n ∷ es) some h =
    let e : rest_of 1 (n ∷ es) ≡ es = take_rest (n ∷ es) 1 in
    ap Some e ∙ sym (cond-true (eqb (length es) (2 * n)) _ _ (eq-eqb _ _ (sym (ap length e) ∙ h)))

read_at : (bs : List ℕ) → 4 ≤ length bs → get_or bs 0 0 ≡ 1 → 2 * get_or bs 3 0 ≤ length (rest_of 4 bs) →
    read_schema bs ≡ with_edges (get_or bs 1 0 * 256 + get_or bs 2 0) (take (2 * get_or bs 3 0) (rest_of 4 bs)) (edges_in (drop (2 * get_or bs 3 0) (rest_of 4 bs)))
read_at [] four one fits = absurd (omega arith)
read_at (t ∷ []) four one fits = absurd (omega arith)
read_at (t ∷ hi ∷ []) four one fits = absurd (omega arith)
read_at (t ∷ hi ∷ lo ∷ []) four one fits = absurd (omega arith)
read_at (t ∷ hi ∷ lo ∷ n ∷ rest) four one fits =
    let e : rest_of 4 (t ∷ hi ∷ lo ∷ n ∷ rest) ≡ rest = take_rest (t ∷ hi ∷ lo ∷ n ∷ rest) 4 in
    let room : 2 * n ≤ length rest = omega (arith, ap length e) in
    cond-true (eqb t 1 && leb (2 * n) (length rest)) _ _ (and_from _ _ (eq-eqb t 1 one) (le-leb _ _ room))
    ∙ ap (λ r. with_edges (hi * 256 + lo) (take (2 * n) r) (edges_in (drop (2 * n) r))) (sym e)

-- the same, from what `split_at_checked` gives and what is found in its second part; the count may have been widened
pub read_by : (bs : List ℕ) (n : ℕ) (xs ys : List ℕ) (o : Option (List ℕ)) → 4 ≤ length bs → get_or bs 0 0 ≡ 1 → n ≡ get_or bs 3 0 → 2 * n ≤ length (rest_of 4 bs) →
    xs ≡ take (2 * n) (rest_of 4 bs) → ys ≡ drop (2 * n) (rest_of 4 bs) → o ≡ edges_in ys →
    with_edges (get_or bs 1 0 * 256 + get_or bs 2 0) xs o ≡ read_schema bs
read_by bs n xs ys o four one is fits front back es = rw (es, front, back, is) (sym (read_at bs four one (omega (arith, fits, is))))

pub refused_at : (bs : List ℕ) (n : ℕ) → 4 ≤ length bs → n ≡ get_or bs 3 0 → (2 * n ≤ length (rest_of 4 bs) → ⊥) → None ≡ read_schema bs
refused_at [] n four is short = absurd (omega arith)
refused_at (t ∷ []) n four is short = absurd (omega arith)
refused_at (t ∷ hi ∷ []) n four is short = absurd (omega arith)
refused_at (t ∷ hi ∷ lo ∷ []) n four is short = absurd (omega arith)
refused_at (t ∷ hi ∷ lo ∷ m ∷ rest) n four is short = sym (cond-false (eqb t 1 && leb (2 * m) (length rest)) _ _ (and_right (eqb t 1) _ (grind (arith, nat_tests, ap length (take_rest (t ∷ hi ∷ lo ∷ m ∷ rest) 4)))))
