-- A chunk of input up to its first newline, and a chunk with none. Assumes nothing.
use Rattle.std.proofs.Common.{◌≡◌, ℕ, zero, suc, ◌+◌, ◌<◌, Bool, true, false, eqb, List, [], ◌∷◌, length, take, sym, refl, ap, ◌∙◌, arith}
use Rattle.std.specs.List.{fold}
use Rattle.std.proofs.lemmas.Bool.{cond-true, cond-false}
use Rattle.memchr.specs.Find.{NoneBefore, Nowhere, Passes, is_byte}
use Rattle.record.specs.Lines.{HeldLine, pushed}
use Rattle.input.specs.Chunks.{parted, filled}

-- the character at a place is a newline
abbrev pub Newline : List ℕ → ℕ → Type 0
Newline = Passes (is_byte 10)

not_true : (b : Bool) → (b ≡ true → ⊥) → b ≡ false
not_true true n = absurd (n refl)
not_true false n = refl

first_other : (c : ℕ) (cs : List ℕ) (end : ℕ) → Nowhere (Newline (c ∷ cs)) 0 (suc end) → eqb c 10 ≡ false
first_other c cs end before = not_true (eqb c 10) (before 0 (omega arith) (omega arith))

later : (c : ℕ) (cs : List ℕ) (end : ℕ) → Nowhere (Newline (c ∷ cs)) 0 (suc end) → Nowhere (Newline cs) 0 end
later c cs end before k low high = before (suc k) (omega arith) (omega arith)

parted_ended : (cs : List ℕ) (end n : ℕ) → end < length cs → Newline cs end → Nowhere (Newline cs) 0 end → parted n cs ≡ (n + end + 1, true)
parted_ended [] end n within ends before = absurd (omega arith)
parted_ended (c ∷ cs) zero n within ends before = cond-true (eqb c 10) _ _ ends ∙ ap (λ (m : ℕ). (m, true)) (omega arith)
parted_ended (c ∷ cs) (suc end) n within ends before =
    cond-false (eqb c 10) _ _ (first_other c cs end before)
    ∙ parted_ended cs end (n + 1) (omega arith) ends (later c cs end before)
    ∙ ap (λ (m : ℕ). (m, true)) (omega arith)

filled_ended : (cs : List ℕ) (end : ℕ) (h : HeldLine) → end < length cs → Newline cs end → Nowhere (Newline cs) 0 end → filled h cs ≡ fold pushed h (take end cs)
filled_ended [] end h within ends before = absurd (omega arith)
filled_ended (c ∷ cs) zero h within ends before = cond-true (eqb c 10) _ _ ends
filled_ended (c ∷ cs) (suc end) h within ends before =
    cond-false (eqb c 10) _ _ (first_other c cs end before) ∙ filled_ended cs end (pushed h c) (omega arith) ends (later c cs end before)

parted_open : (cs : List ℕ) (n : ℕ) → Nowhere (Newline cs) 0 (length cs) → parted n cs ≡ (n + length cs, false)
parted_open [] n nowhere = ap (λ (m : ℕ). (m, false)) (omega arith)
parted_open (c ∷ cs) n nowhere =
    cond-false (eqb c 10) _ _ (first_other c cs (length cs) nowhere)
    ∙ parted_open cs (n + 1) (later c cs (length cs) nowhere)
    ∙ ap (λ (m : ℕ). (m, false)) (omega arith)

filled_open : (cs : List ℕ) (h : HeldLine) → Nowhere (Newline cs) 0 (length cs) → filled h cs ≡ fold pushed h cs
filled_open [] h nowhere = refl
filled_open (c ∷ cs) h nowhere =
    cond-false (eqb c 10) _ _ (first_other c cs (length cs) nowhere) ∙ filled_open cs (pushed h c) (later c cs (length cs) nowhere)

module _ (cs : List ℕ) (end : ℕ) (first : NoneBefore (Newline cs) 0 (length cs) end × Newline cs end) where
  pub ended_parted : (end + 1, true) ≡ parted 0 cs
  ended_parted = ap (λ (m : ℕ). (m, true)) (omega arith) ∙ sym (parted_ended cs end 0 first.0.high first.1 first.0.before)

  pub ended_filled : (h : HeldLine) → fold pushed h (take end cs) ≡ filled h cs
  ended_filled h = sym (filled_ended cs end h first.0.high first.1 first.0.before)

module _ (cs : List ℕ) (nowhere : Nowhere (Newline cs) 0 (length cs)) where
  pub open_parted : (length cs, false) ≡ parted 0 cs
  open_parted = ap (λ (m : ℕ). (m, false)) (omega arith) ∙ sym (parted_open cs 0 nowhere)

  pub open_filled : (h : HeldLine) → fold pushed h cs ≡ filled h cs
  open_filled h = sym (filled_open cs h nowhere)
