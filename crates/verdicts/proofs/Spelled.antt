-- The characters of bytes, pair by pair. Assumes nothing.
use Rattle.std.proofs.Common.{◌≡◌, ℕ, ◌+◌, ◌*◌, ◌/◌, ◌%◌, ◌<◌, List, [], ◌∷◌, ◌++◌, length, get_or, set, take, sym, refl, ap, ◌∙◌, arith, length-set}
use Rattle.std.proofs.lemmas.List.{append_assoc, take_more, take_more_set}
use Rattle.record.specs.Hex.{digit, hex}
use Rattle.record.proofs.Inverses.{hex_last}

-- One byte more is written.
pub written_more : (line bs : List ℕ) (p : ℕ) → 2 * p + 1 < length line → p < length bs → take (2 * p) line ≡ hex (take p bs)
    → take (2 * (p + 1)) (set (set line (2 * p) (digit (get_or bs p 0 / 16))) (2 * p + 1) (digit (get_or bs p 0 % 16))) ≡ hex (take (p + 1) bs)
written_more line bs p room less so =
    let b = get_or bs p 0 in
    let one = set line (2 * p) (digit (b / 16)) in
    let long : length one ≡ length line = length-set line (2 * p) (digit (b / 16)) in
    let n : 2 * (p + 1) ≡ 2 * p + 1 + 1 = omega arith in
    ap (λ k. take k (set one (2 * p + 1) (digit (b % 16)))) n
    ∙ take_more_set one (2 * p + 1) (digit (b % 16)) (omega (arith, long, room))
    ∙ ap (λ l. l ++ digit (b % 16) ∷ []) (take_more_set line (2 * p) (digit (b / 16)) (omega (arith, room)) ∙ ap (λ l. l ++ digit (b / 16) ∷ []) so)
    ∙ append_assoc (hex (take p bs)) (digit (b / 16) ∷ []) (digit (b % 16) ∷ [])
    ∙ sym (ap hex (take_more bs p 0 less) ∙ hex_last (take p bs) b)
