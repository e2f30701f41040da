-- What is held of a line that gets many characters at once.
use Rattle.std.proofs.Common.{◌≡◌, ℕ, ◌+◌, ◌<◌, List, [], ◌∷◌, ◌++◌, length, take, min, inl, inr, sym, ap, ◌∙◌, length-append, arith}
use Rattle.std.specs.List.{fold}
use Rattle.std.proofs.lemmas.Bool.{cases_lt}
use Rattle.std.proofs.lemmas.Bool.Decides.{nat_tests}
use Rattle.std.proofs.lemmas.List.{append_assoc, append-nil, length-take-le, take_all}
use Rattle.record.specs.Lines.{HeldLine, Overlong, held_of, pushed}

pushed_held : (xs : List ℕ) (c : ℕ) → pushed (held_of xs) c ≡ held_of (xs ++ c ∷ [])
pushed_held xs c = grind (arith, nat_tests, length-append xs (c ∷ []))

pub pushed_grows : (h k : HeldLine) (c : ℕ) → k ≡ pushed h c → (cs : List ℕ) → h ≡ held_of cs → k ≡ held_of (cs ++ c ∷ [])
pushed_grows h k c e cs is = e ∙ ap (λ x. pushed x c) is ∙ pushed_held cs c

-- one by one, the characters come behind those that are held
fold_held : (xs cs : List ℕ) → fold pushed (held_of xs) cs ≡ held_of (xs ++ cs)
fold_held xs [] = ap held_of (sym (append-nil xs))
fold_held xs (c ∷ cs) =
    ap (λ (h : HeldLine). fold pushed h cs) (pushed_held xs c) ∙ fold_held (xs ++ c ∷ []) cs ∙ ap held_of (append_assoc xs (c ∷ []) cs)

overlong : (xs : List ℕ) → 1024 < length xs → held_of xs ≡ Overlong
overlong xs long = grind (arith, nat_tests)

-- of characters that fill all the room, those behind tell nothing more
held_cut : (xs cs : List ℕ) (room : ℕ) → length xs + room ≡ 1025 → held_of (xs ++ take (min (length cs) room) cs) ≡ held_of (xs ++ cs)
held_cut xs cs room full =
    elim (cases_lt room (length cs)) [
      | inr fits ↦ ap (λ (ys : List ℕ). held_of (xs ++ ys)) (take_all (min (length cs) room) cs (omega arith))
      | inl over ↦
          let kept : length (take (min (length cs) room) cs) ≡ min (length cs) room = length-take-le (min (length cs) room) cs (omega arith) in
          overlong _ (omega (arith, kept, length-append xs (take (min (length cs) room) cs))) ∙ sym (overlong _ (omega (arith, length-append xs cs)))
    ]

pub fold_grows : (h k : HeldLine) (ds : List ℕ) → k ≡ fold pushed h ds → (cs : List ℕ) → h ≡ held_of cs → k ≡ held_of (cs ++ ds)
fold_grows h k ds e cs is = e ∙ ap (λ (g : HeldLine). fold pushed g ds) is ∙ fold_held cs ds

pub extended : (xs cs : List ℕ) (room : ℕ) → length xs + room ≡ 1025 → held_of (xs ++ take (min (length cs) room) cs) ≡ fold pushed (held_of xs) cs
extended xs cs room full = held_cut xs cs room full ∙ sym (fold_held xs cs)
