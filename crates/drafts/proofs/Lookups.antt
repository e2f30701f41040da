-- What a look-up by place answers. Assumes nothing.
use Rattle.std.proofs.Common.{◌≡◌, ℕ, Bor, ltb, get_or, List, length, is_some, IfSome, Some, None, Option, sym, ap, ◌∙◌}
use Rattle.std.proofs.lemmas.Bool.{ltb-true, ltb-false}
use Rattle.std.proofs.lemmas.Option.{slice_get_past, slice_get-get_or}
use Rattle.std.specs.List.{slice_get}
use Rattle.std.specs.Option.{option_copied}

module _ {X : Type 0} (xs : List X) (i : ℕ) where
  pub looked_up : (r : Option (Bor X)) → is_some r ≡ ltb i (length xs) → IfSome r (λ x. x.now ≡ get_or xs i x.now) → option_copied r ≡ slice_get xs i
  looked_up None s h = sym (slice_get_past xs i (ltb-false i (length xs) (sym s)))
  looked_up (Some x) s h = ap (λ y. Some y) h ∙ sym (slice_get-get_or xs i x.now (ltb-true i (length xs) (sym s)))
