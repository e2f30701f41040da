-- Bytes and the characters that spell them: upper-case hexadecimal, two characters a byte.
use Rattle.std.specs.Prelude.{◌≡◌, ℕ, ◌+◌, ◌-◌, ◌*◌, ◌/◌, ◌%◌, ◌<◌, ◌≤◌, cond, ◌&&◌, ◌||◌, List, [], ◌∷◌, ◌++◌, length, Some, None, Option, ◌==◌, nat_le, nat_lt}
use Rattle.std.specs.List.{AllByRecursion}

-- the character of a value below 16: `0` to `9`, then `A` to `F`
abbrev pub digit : ℕ → ℕ
digit v = cond (nat_lt v 10) (48 + v) (55 + v)

-- the values of a byte
abbrev pub Byte : ℕ → Type 0
Byte b = b < 256

-- the characters that spell bytes
abbrev pub hex : List ℕ → List ℕ
hex [] = []
hex (b ∷ bs) = digit (b / 16) ∷ digit (b % 16) ∷ hex bs

-- the line spells these bytes, which are some, and is no longer than a line may be
abbrev pub Spelling : List ℕ → List ℕ → Type 0
Spelling line bs = AllByRecursion Byte bs × (0 < length bs) × (length line ≤ 1024) × (line ≡ hex bs)

-- the value of a character, if it is one of `0` to `9` and `A` to `F`
abbrev pub digit_value : ℕ → Option ℕ
digit_value c = cond (nat_le 48 c && nat_le c 57) (Some (c - 48)) (cond (nat_le 65 c && nat_le c 70) (Some (c - 55)) None)

-- the byte of two values
abbrev pub joint : Option ℕ → Option ℕ → Option ℕ
joint None low = None
joint (Some h) None = None
joint (Some h) (Some l) = Some (16 * h + l)

-- the byte that two characters spell
abbrev pub byte_of : ℕ → ℕ → Option ℕ
byte_of h l = joint (digit_value h) (digit_value l)

-- bytes that come after others, if both are there
abbrev pub after : List ℕ → Option (List ℕ) → Option (List ℕ)
after front None = None
after front (Some bs) = Some (front ++ bs)

-- a byte, if it is there, in front of others
abbrev pub begun : Option ℕ → Option (List ℕ) → Option (List ℕ)
begun None rest = None
begun (Some b) rest = after (b ∷ []) rest

-- the bytes that characters spell; none if a character is left over or is no digit
abbrev pub spelled : List ℕ → Option (List ℕ)
spelled [] = Some []
spelled (c ∷ []) = None
spelled (h ∷ l ∷ rest) = begun (byte_of h l) (spelled rest)

-- the bytes of a line, which has 1 to 1,024 characters
abbrev pub decoded : List ℕ → Option (List ℕ)
decoded line = cond (length line == 0 || nat_lt 1024 (length line)) None (spelled line)
