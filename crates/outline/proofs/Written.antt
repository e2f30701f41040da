-- Bytes that are put at the end two by two, and characters likewise. Assumes nothing.
use Rattle.std.proofs.Common.{◌≡◌, ℕ, suc, Some, ◌+◌, ◌*◌, ◌/◌, ◌%◌, ◌<◌, ◌≤◌, List, [], ◌∷◌, ◌++◌, map, length, get_or, take, sym, refl, ap, ◌∙◌, arith, length-append}
use Rattle.std.proofs.lemmas.List.{append_assoc, take_all, take_more, length-map, length-take-le, map-append}
use Rattle.std.specs.List.{AllByRecursion}
use Rattle.record.specs.Hex.{Byte, digit, hex, decoded}
use Rattle.record.specs.Pairs.{unpaired}
use Rattle.record.proofs.Pairings.{length_unpaired}
use Rattle.record.proofs.Inverses.{hex_last, length_hex, decoding_inverts_hex}

unpaired_last : (ps : List (ℕ × ℕ)) (p : ℕ × ℕ) → unpaired (ps ++ p ∷ []) ≡ unpaired ps ++ p.0 ∷ p.1 ∷ []
unpaired_last [] p = refl
unpaired_last (q ∷ ps) p = ap (λ l. q.0 ∷ q.1 ∷ l) (unpaired_last ps p)

-- One byte more is written.
pub hex_more : (bs : List ℕ) (i : ℕ) → i < length bs
    → (hex (take i bs) ++ digit (get_or bs i 0 / 16) ∷ []) ++ digit (get_or bs i 0 % 16) ∷ [] ≡ hex (take (i + 1) bs)
hex_more bs i within =
    let b = get_or bs i 0 in
    append_assoc (hex (take i bs)) (digit (b / 16) ∷ []) (digit (b % 16) ∷ [])
    ∙ sym (ap hex (take_more bs i 0 within) ∙ hex_last (take i bs) b)

module _ {X : Type 0} (f : X → ℕ × ℕ) (front : List ℕ) (xs : List X) (i : ℕ) where
  -- The bytes of one item more are put.
  pub pairs_more : (d : X) → i < length xs
      → ((front ++ unpaired (map f (take i xs))) ++ (f (get_or xs i d)).0 ∷ []) ++ (f (get_or xs i d)).1 ∷ [] ≡ front ++ unpaired (map f (take (i + 1) xs))
  pairs_more d within =
      let p = f (get_or xs i d) in
      let last : map f (take (i + 1) xs) ≡ map f (take i xs) ++ p ∷ [] =
      ap (map f) (take_more xs i d within) ∙ map-append f (take i xs) (get_or xs i d ∷ []) in
      append_assoc (front ++ unpaired (map f (take i xs))) (p.0 ∷ []) (p.1 ∷ [])
      ∙ append_assoc front (unpaired (map f (take i xs))) (p.0 ∷ p.1 ∷ [])
      ∙ ap (λ l. front ++ l) (sym (ap unpaired last ∙ unpaired_last (map f (take i xs)) p))

  -- How many bytes there are then.
  pub pairs_long : i ≤ length xs → length (front ++ unpaired (map f (take i xs))) ≡ length front + 2 * i
  pairs_long within =
      omega (arith, length-append front (unpaired (map f (take i xs))), length_unpaired (map f (take i xs)), length-map (take i xs) f, length-take-le i xs within)

-- How many bytes there are when all are put.
pub all_long : {X : Type 0} (f : X → ℕ × ℕ) (front : List ℕ) (xs : List X) → length (front ++ unpaired (map f xs)) ≡ length front + 2 * length xs
all_long f front xs = omega (arith, length-append front (unpaired (map f xs)), length_unpaired (map f xs), length-map xs f)

-- How many characters there are then.
pub hex_long : (bs : List ℕ) (i : ℕ) → i ≤ length bs → length (hex (take i bs)) ≡ 2 * i
hex_long bs i within = omega (arith, length_hex (take i bs), length-take-le i bs within)

-- All characters, when the last byte is written.
pub hex_all : (bs : List ℕ) (i : ℕ) → length bs ≤ i → hex (take i bs) ≡ hex bs
hex_all bs i past = ap hex (take_all i bs past)

bytes_all : (bs : List ℕ) → ((i : ℕ) → get_or bs i 0 < 256) → AllByRecursion Byte bs
bytes_all [] fit = tt
bytes_all (b ∷ bs) fit = (fit 0, bytes_all bs (λ i. fit (suc i)))

-- The characters of bytes are decoded to them.
pub spelled : (bs : List ℕ) → ((i : ℕ) → get_or bs i 0 < 256) → 0 < length bs → length bs ≤ 325 → decoded (hex bs) ≡ Some bs
spelled bs fit some few = (decoding_inverts_hex (hex bs) bs).1 (bytes_all bs fit, some, omega (arith, length_hex bs, few), refl)
