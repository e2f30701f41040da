-- What is left of a row, one element on. Assumes nothing.
use Rattle.std.proofs.Common.{◌≡◌, ℕ, ◌+◌, ◌<◌, List, [], ◌∷◌, ◌++◌, length, get_or, sym, refl, ap, ◌∙◌, arith}
use Rattle.std.proofs.lemmas.List.{append_assoc, length-append, length_push, get_or_at}
use Rattle.model.specs.declared.Element.{Element}
use Rattle.layout.specs.Gaps.{Rest}

module _ {xs : List Element} where
  pub rest_all : Rest xs 0 xs
  rest_all = record { before = []; parted = refl; at_place = refl }

  pub rest_next : {n : ℕ} {x : Element} {ys : List Element} → Rest xs n (x ∷ ys) → Rest xs (n + 1) ys
  rest_next {n} {x} {ys} r = record {
    before = r.before ++ x ∷ [];
    parted = r.parted ∙ sym (append_assoc r.before (x ∷ []) ys);
    at_place = length_push r.before x ∙ ap (λ k. k + 1) r.at_place;
  }

  pub rest_here : {n : ℕ} {x : Element} {ys : List Element} (d : Element) → Rest xs n (x ∷ ys) → get_or xs n d ≡ x
  rest_here {n} {x} {ys} d r = ap (λ zs. get_or zs n d) r.parted ∙ get_or_at r.before x ys d n r.at_place

  pub rest_long : {n : ℕ} {ys : List Element} → Rest xs n ys → n + length ys ≡ length xs
  rest_long {n} {ys} r = sym (ap length r.parted ∙ length-append r.before ys ∙ ap (λ k. k + length ys) r.at_place)

  pub rest_less : {n : ℕ} {x : Element} {ys : List Element} → Rest xs n (x ∷ ys) → n < length xs
  rest_less {n} {x} {ys} r = let e = rest_long r in omega (arith, e)

  pub rest_none : {n : ℕ} → Rest xs n [] → n ≡ length xs
  rest_none {n} r = let e = rest_long r in omega (arith, e)
