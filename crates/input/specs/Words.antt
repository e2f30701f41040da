-- What a line that says a call says, and its words. Assumes nothing.
--   TextOf h t              t is the text that is held whole
--   left ws                 the text whose words are still to be read
--   NextWord t w more       w is the first word of text t, and `more` what stands behind it
--   NameOf t w more         the same, or there is none, and w is empty
--   NumberOf bits word r    r is the number that the word writes in decimal, where it is below 2 ^ bits, and else an error
--   NumberNext bits t r more    r is the number that the first word of t writes, or an error if there is no word
use Rattle.std.specs.Prelude.{◌≡◌, ℕ, ◌<◌, ◌⊎◌, List, [], ◌++◌, length, Some, Err, Result, IsUtf8}
use Rattle.std.specs.Char.{is_whitespace, is_not_whitespace}
use Rattle.std.specs.Str.{NoCharPasses, EmptyOrStartsWithPassing}
use Rattle.std.specs.Str.Iter.{split_whitespace_rest}
use Rattle.std.specs.Str.Parse.{ParsesUnsigned}
use Rattle.record.specs.Lines.{HeldLine, whole_line}
use Rattle.input.specs.declared.words.NoCall.{NoCall}
use Rattle.input.specs.declared.words.NoCall.TheVariants.{Missing}
use Rattle.input.specs.declared.words.Words.{Words}

abbrev pub TextOf : HeldLine → List ℕ → Type 0
TextOf h t = (whole_line h ≡ Some t) × IsUtf8 t

abbrev pub left : Words → List ℕ
left ws = split_whitespace_rest ws.0

-- Only white space is left.
abbrev pub NoWord : List ℕ → Type 0
NoWord t = NoCharPasses is_not_whitespace t

pub record NextWord (t w more : List ℕ) : Type 0 where
  pub gap : List ℕ
  pub split : t ≡ gap ++ (w ++ more)
  pub some : 0 < length w
  pub blank : NoCharPasses is_not_whitespace gap
  pub whole : NoCharPasses is_whitespace w
  pub ends : (rest : List ℕ) × EmptyOrStartsWithPassing is_whitespace more rest

abbrev pub NameOf : List ℕ → List ℕ → List ℕ → Type 0
NameOf t w more = (NoWord t × (w ≡ []) × (more ≡ t)) ⊎ NextWord t w more

-- A plus may stand before the digits.
abbrev pub NumberOf : ℕ → List ℕ → Result ℕ NoCall → Type 0
NumberOf bits word r = ParsesUnsigned bits 10 word r

abbrev pub NumberNext : ℕ → List ℕ → Result ℕ NoCall → List ℕ → Type 0
NumberNext bits t r more = (NoWord t × (r ≡ Err Missing) × (more ≡ t)) ⊎ ((w : List ℕ) × NextWord t w more × NumberOf bits w r)
