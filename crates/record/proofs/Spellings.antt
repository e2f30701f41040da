-- The bytes that characters spell, two characters at a time.
use Rattle.std.proofs.Common.{◌≡◌, ℕ, suc, ◌+◌, ◌/◌, ◌%◌, ◌<◌, ◌≤◌, Bool, true, false, cond, ◌||◌, eqb, ltb, List, [], ◌∷◌, ◌++◌, length, get_or, drop, Some, None, Option, sym, refl, ap, ◌∙◌, arith}
use Rattle.std.specs.Simd.{first_chunks}
use Rattle.std.proofs.lemmas.List.{append_assoc, append-nil, at_drop_more, at_drop_all}
use Rattle.std.proofs.lemmas.Bool.{cond-true, cond-false, or_from, or_right, ne_eqb, le-ltb, lt-ltb}
use Rattle.record.specs.Hex.{after, begun, byte_of, spelled, decoded}

pub after_after : (xs ys : List ℕ) (o : Option (List ℕ)) → after xs (after ys o) ≡ after (xs ++ ys) o
after_after xs ys None = refl
after_after xs ys (Some zs) = ap Some (sym (append_assoc xs ys zs))

-- the bytes that characters spell, two by two
abbrev pub spelled_by : List (List ℕ) → Option (List ℕ)
spelled_by [] = Some []
spelled_by (p ∷ ps) = begun (byte_of (get_or p 0 0) (get_or p 1 0)) (spelled_by ps)

pub spelled_chunks : (cs : List ℕ) → length cs % 2 ≡ 0 → spelled cs ≡ spelled_by (first_chunks 2 (length cs / 2) cs)
spelled_chunks [] even = refl
spelled_chunks (c ∷ []) even = absurd (omega arith)
spelled_chunks (h ∷ l ∷ cs) even =
    let more : length (h ∷ l ∷ cs) / 2 ≡ suc (length cs / 2) = omega arith in
    rw (more, spelled_chunks cs (omega arith)) refl

module _ (ps : List (List ℕ)) (i : ℕ) (within : i < length ps) where
  -- what is left to spell after i bytes begins with the next
  next : (o : Option ℕ) → byte_of (get_or (get_or ps i []) 0 0) (get_or (get_or ps i []) 1 0) ≡ o → spelled_by (drop i ps) ≡ begun o (spelled_by (drop (i + 1) ps))
  next o e = at_drop_more spelled_by ps i [] within ∙ ap (λ (p : Option ℕ). begun p (spelled_by (drop (i + 1) ps))) e

  pub spelled_more : (bs : List ℕ) (b : ℕ) → byte_of (get_or (get_or ps i []) 0 0) (get_or (get_or ps i []) 1 0) ≡ Some b → after bs (spelled_by (drop i ps)) ≡ after (bs ++ b ∷ []) (spelled_by (drop (i + 1) ps))
  spelled_more bs b e = ap (after bs) (next (Some b) e) ∙ after_after bs (b ∷ []) (spelled_by (drop (i + 1) ps))

  pub spelled_stops : (bs : List ℕ) → byte_of (get_or (get_or ps i []) 0 0) (get_or (get_or ps i []) 1 0) ≡ None → after bs (spelled_by (drop i ps)) ≡ None
  spelled_stops bs e = ap (after bs) (next None e)

pub spelled_all : (ps : List (List ℕ)) (bs : List ℕ) (i : ℕ) → length ps ≤ i → after bs (spelled_by (drop i ps)) ≡ Some bs
spelled_all ps bs i h = ap (after bs) (at_drop_all spelled_by ps i h) ∙ ap Some (append-nil bs)

pub spelled_odd : (cs : List ℕ) → length cs % 2 ≡ 1 → spelled cs ≡ None
spelled_odd [] h = absurd (omega arith)
spelled_odd (c ∷ []) h = refl
spelled_odd (h ∷ l ∷ cs) odd = rw (spelled_odd cs (omega arith)) (begun_none (byte_of h l))
  where
    begun_none : (o : Option ℕ) → begun o None ≡ None
    begun_none None = refl
    begun_none (Some b) = refl

pub decoded_is : (line : List ℕ) → 0 < length line → length line ≤ 1024 → decoded line ≡ spelled line
decoded_is line some few =
    cond-false (eqb (length line) 0 || ltb 1024 (length line)) None (spelled line)
    (or_from _ _ (ne_eqb (length line) 0 (λ e. omega arith)) (le-ltb 1024 (length line) few))

pub decoded_empty : (line : List ℕ) → length line ≡ 0 → decoded line ≡ None
decoded_empty [] e = refl
decoded_empty (c ∷ cs) e = absurd (omega arith)

pub decoded_long : (line : List ℕ) → 1024 < length line → decoded line ≡ None
decoded_long line long =
    cond-true (eqb (length line) 0 || ltb 1024 (length line)) None (spelled line)
    (or_right _ _ (lt-ltb 1024 (length line) long))

pub decoded_odd : (line : List ℕ) → (length line % 2 ≡ 0 → ⊥) → decoded line ≡ None
decoded_odd line odd = go (eqb (length line) 0 || ltb 1024 (length line))
  where
    none : spelled line ≡ None
    none = spelled_odd line (omega arith)

    go : (b : Bool) → cond b None (spelled line) ≡ None
    go true = refl
    go false = none
