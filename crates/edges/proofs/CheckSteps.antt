-- The check of edges goes one edge further. Assumes nothing.
use Rattle.std.proofs.Common.{◌≡◌, ℕ, ◌+◌, ◌<◌, ◌≤◌, Bool, false, cond, ◌||◌, List, [], ◌∷◌, ◌++◌, map, length, get_or, take, drop, set, Err, sym, ap, ◌∙◌, arith}
use Rattle.std.proofs.lemmas.List.{at_drop_more, at_drop_all, take_more, get_or-take, length-take-le, get_or_default, take_all, drop_all, append-nil}
use Rattle.std.proofs.lemmas.List.Edits.{map_over_more}
use Rattle.model.specs.declared.Edge.{Edge}
use Rattle.ids.specs.declared.IdSet.{IdSet}
use Rattle.ids.specs.Sets.{empty}
use Rattle.edges.specs.Edges.{same, listed, proper, connected, judged}

pub listed_at : (es : List Edge) (e : Edge) (n i : ℕ) (d : Edge) → n ≤ length es → i < n → (b : Bool) → b ≡ same (get_or es i d) e
    → listed (drop i (take n es)) e ≡ (b || listed (drop (i + 1) (take n es)) e)
listed_at es e n i d h l b is =
    let long : i < length (take n es) = omega (arith, length-take-le n es h) in
    at_drop_more (λ ds. listed ds e) (take n es) i d long
    ∙ ap (λ x. same x e || listed (drop (i + 1) (take n es)) e) (get_or-take n es i d l)
    ∙ ap (λ v. v || listed (drop (i + 1) (take n es)) e) (sym is)

pub listed_end : (es : List Edge) (e : Edge) (n i : ℕ) → n ≤ length es → n ≤ i → listed (drop i (take n es)) e ≡ false
listed_end es e n i h l = at_drop_all (λ ds. listed ds e) (take n es) i (omega (arith, length-take-le n es h))

module _ (ps back : List IdSet) (es : List Edge) (p : ℕ) (d : Edge) (h : p < length es) where
  pub judged_at : (b : Bool) → proper ps back (take p es) (get_or es p d) ≡ b
      → judged ps back (take p es) p (drop p es)
      ≡ cond b (judged ps (connected back (get_or es p d)) (take (p + 1) es) (p + 1) (drop (p + 1) es)) (Err (p, (get_or es p d).source))
  judged_at b e =
      at_drop_more (judged ps back (take p es) p) es p d h
      ∙ ap (λ v. cond v (judged ps (connected back (get_or es p d)) (take p es ++ get_or es p d ∷ []) (p + 1) (drop (p + 1) es)) (Err (p, (get_or es p d).source))) e
      ∙ ap (λ ts. cond b (judged ps (connected back (get_or es p d)) ts (p + 1) (drop (p + 1) es)) (Err (p, (get_or es p d).source))) (sym (take_more es p d h))

module _ (f : IdSet → IdSet) (xs ys : List IdSet) (i : ℕ) where
  pub over_more : (v : IdSet) → i < length xs → length ys ≡ length xs → ys ≡ map f (take i xs) ++ drop i xs → v ≡ f (get_or ys i empty)
      → set ys i v ≡ map f (take (i + 1) xs) ++ drop (i + 1) xs
  over_more v h n e is =
      ap (set ys i) is ∙ map_over_more f xs ys i (get_or ys i empty) h e (get_or_default ys i empty (get_or ys i empty) (omega arith))

  pub over_all : length xs ≤ i → ys ≡ map f (take i xs) ++ drop i xs → ys ≡ map f xs
  over_all h e = e ∙ ap (λ r. map f (take i xs) ++ r) (drop_all i xs h) ∙ append-nil _ ∙ ap (map f) (take_all i xs h)
