-- A plan record taken apart from its front, as slice patterns do.
use Rattle.std.proofs.Common.{◌≡◌, ℕ, ◌-◌, ◌*◌, ◌≤◌, ◌&&◌, eqb, List, [], ◌∷◌, length, get_or, take, drop, Some, sym, ap, ◌∙◌, arith}
use Rattle.std.proofs.lemmas.List.{take_rest}
use Rattle.std.proofs.lemmas.Bool.{cond-true, and_from, eq-eqb}
use Rattle.plan_record.specs.Changes.{changes_in}
use Rattle.plan_record.specs.PlanRecords.{read_plan}

-- all but the first two, as a pattern's rest has it
abbrev rest_of : List ℕ → List ℕ
rest_of bs = take (length bs - 2) (drop 2 bs)

pub read_at : (bs : List ℕ) → 2 ≤ length bs → get_or bs 0 0 ≡ 2 → length (rest_of bs) ≡ 4 * get_or bs 1 0 →
    Some (record { changes = changes_in (rest_of bs) }) ≡ read_plan bs
read_at [] two plan fits = absurd (omega arith)
read_at (t ∷ []) two plan fits = absurd (omega arith)
read_at (t ∷ n ∷ rest) two plan fits =
    let e : rest_of (t ∷ n ∷ rest) ≡ rest = take_rest (t ∷ n ∷ rest) 2 in
    let long : length rest ≡ 4 * n = sym (ap length e) ∙ fits in
    ap (λ bs. Some (record { changes = changes_in bs })) e
    ∙ sym (cond-true (eqb t 2 && eqb (length rest) (4 * n)) _ _ (and_from _ _ (eq-eqb t 2 plan) (eq-eqb _ _ long)))
