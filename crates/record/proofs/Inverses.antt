-- Decoding inverts the spelling in hexadecimal.
use Rattle.std.proofs.Common.{◌≡◌, ℕ, ◌+◌, ◌*◌, ◌/◌, ◌%◌, ◌<◌, ◌≤◌, Bool, true, false, cond, ◌||◌, eqb, ltb, List, [], ◌∷◌, ◌++◌, length, Some, None, Option, refl, ap, ◌∙◌, subst, arith}
use Rattle.std.specs.List.{AllByRecursion}
use Rattle.std.proofs.lemmas.Bool.{or_parts, eqb-false, ltb-false}
use Rattle.std.proofs.lemmas.Bool.Decides.{nat_tests}
use Rattle.record.specs.Hex.{Byte, Spelling, digit, hex, digit_value, joint, begun, byte_of, spelled, decoded}
use Rattle.record.specs.Laws.{DecodingInvertsHex}
use Rattle.record.proofs.Spellings.{decoded_is}

pub never : {X : Type 0} {x : X} {P : Type 0} → None ≡ Some x → P
never e = let z : ◌≡◌ {A = ℕ} 0 1 = cc in absurd (omega arith)

-- one byte more at the end
pub hex_last : (bs : List ℕ) (b : ℕ) → hex (bs ++ b ∷ []) ≡ hex bs ++ digit (b / 16) ∷ digit (b % 16) ∷ []
hex_last [] b = refl
hex_last (c ∷ bs) b = ap (λ l. digit (c / 16) ∷ digit (c % 16) ∷ l) (hex_last bs b)

value_digit : (v : ℕ) → v < 16 → digit_value (digit v) ≡ Some v
value_digit v h = grind (arith, nat_tests)

digit_from_value : (c v : ℕ) → digit_value c ≡ Some v → (v < 16) × (c ≡ digit v)
digit_from_value c v e = (grind (arith, nat_tests), grind (arith, nat_tests))

byte_spelled : (b : ℕ) → b < 256 → byte_of (digit (b / 16)) (digit (b % 16)) ≡ Some b
byte_spelled b h =
    let e : 16 * (b / 16) + b % 16 ≡ b = omega arith in
    rw (value_digit (b / 16) (omega arith), value_digit (b % 16) (omega arith)) (ap Some e)

spelling_of_byte : (h l b : ℕ) → byte_of h l ≡ Some b → (b < 256) × (h ≡ digit (b / 16)) × (l ≡ digit (b % 16))
spelling_of_byte h l b e = go (digit_value h) refl (digit_value l) refl e
  where
    go : (o : Option ℕ) → digit_value h ≡ o → (p : Option ℕ) → digit_value l ≡ p → joint o p ≡ Some b → (b < 256) × (h ≡ digit (b / 16)) × (l ≡ digit (b % 16))
    go None eh p el j = never j
    go (Some x) eh None el j = never j
    go (Some x) eh (Some y) el j =
        let dx = digit_from_value h x eh in
        let dy = digit_from_value l y el in
        let is : 16 * x + y ≡ b = cc in
        let high : x ≡ b / 16 = omega (arith, dx.0, dy.0) in
        let low : y ≡ b % 16 = omega (arith, dx.0, dy.0) in
        (omega (arith, dx.0, dy.0), dx.1 ∙ ap digit high, dy.1 ∙ ap digit low)

pub spelled_hex : (bs : List ℕ) → AllByRecursion Byte bs → spelled (hex bs) ≡ Some bs
spelled_hex [] h = refl
spelled_hex (b ∷ bs) h = rw (byte_spelled b h.0, spelled_hex bs h.1)

pub hex_from_spelled : (cs bs : List ℕ) → spelled cs ≡ Some bs → AllByRecursion Byte bs × (cs ≡ hex bs)
hex_from_spelled [] bs e =
    let q : [] ≡ bs = cc in
    subst (λ (xs : List ℕ). AllByRecursion Byte xs × ([] ≡ hex xs)) q (tt, refl)
hex_from_spelled (c ∷ []) bs e = never e
hex_from_spelled (h ∷ l ∷ rest) bs e = go (byte_of h l) refl (spelled rest) refl e (λ ds. hex_from_spelled rest ds)
  where
    go : (o : Option ℕ) → byte_of h l ≡ o → (p : Option (List ℕ)) → spelled rest ≡ p → begun o p ≡ Some bs → ((ds : List ℕ) → spelled rest ≡ Some ds → AllByRecursion Byte ds × (rest ≡ hex ds)) → AllByRecursion Byte bs × (h ∷ l ∷ rest ≡ hex bs)
    go None eb p ep j ih = never j
    go (Some b) eb None ep j ih = never j
    go (Some b) eb (Some ds) ep j ih =
        let q : b ∷ ds ≡ bs = cc in
        let here = spelling_of_byte h l b eb in
        let there = ih ds ep in
        let e1 = here.1 in
        let e2 = here.2 in
        let e3 = there.1 in
        let same : h ∷ l ∷ rest ≡ hex (b ∷ ds) = cc in
        subst (λ xs. AllByRecursion Byte xs × (h ∷ l ∷ rest ≡ hex xs)) q ((here.0, there.0), same)

pub length_hex : (bs : List ℕ) → length (hex bs) ≡ 2 * length bs
length_hex [] = refl
length_hex (b ∷ bs) = omega (arith, length_hex bs)

pub decoding_inverts_hex : DecodingInvertsHex
decoding_inverts_hex line bs = (λ e. go (eqb (length line) 0 || ltb 1024 (length line)) refl e, back)
  where
    go : (b : Bool) → (eqb (length line) 0 || ltb 1024 (length line)) ≡ b → cond b None (spelled line) ≡ Some bs → Spelling line bs
    go true eb e = never e
    go false eb e =
        let tests = or_parts (eqb (length line) 0) (ltb 1024 (length line)) eb in
        let from = hex_from_spelled line bs e in
        let some : length line ≡ 0 → ⊥ = eqb-false _ _ tests.0 in
        let few : length line ≤ 1024 = ltb-false _ _ tests.1 in
        let long : length line ≡ 2 * length bs = ap length from.1 ∙ length_hex bs in
        (from.0, omega arith, few, from.1)

    back : Spelling line bs → decoded line ≡ Some bs
    back h =
        let some : 0 < length line = omega (arith, ap length h.3, length_hex bs, h.1) in
        decoded_is line some h.2 ∙ ap spelled h.3 ∙ spelled_hex bs h.0
