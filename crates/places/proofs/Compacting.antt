-- What a row holds once the entries that stay are at its front. Assumes nothing.
use Rattle.std.proofs.Common.{◌≡◌, ℕ, ◌-◌, ◌≤◌, min, Bool, List, ◌++◌, length, take, filter, ap, ◌∙◌, arith, length-append, length-take}
use lib.Seq.{take-append-le}
use Rattle.std.proofs.lemmas.List.{take_min}

-- the front of a row, of which ys with r entries that stay came, and the rest zs
module _ {X : Type 0} (p : X → Bool) (row ys zs : List X) (used m r : ℕ) (within : m ≡ min used (length row)) where
  front_is : take (m - 0) row ≡ take used row
  front_is = (let e : m - 0 ≡ min used (length row) = omega arith in ap (λ n. take n row) e) ∙ take_min used row

  module _ (count : r ≡ length (filter p (take (m - 0) row))) (front : take r ys ≡ filter p (take (m - 0) row)) where
    few : r ≤ length ys
    few = omega (arith, ap length front, length-take r ys)

    pub purged_items : take r (ys ++ zs) ≡ filter p (take used row)
    purged_items = take-append-le r ys zs few ∙ front ∙ ap (filter p) front_is

    module _ (same : length ys ≡ length (take (m - 0) row)) (rest : length zs ≡ length row - (m - 0)) where
      pub purged_size : length (ys ++ zs) ≡ length row
      purged_size = omega (arith, length-append ys zs, length-take (m - 0) row)

      pub purged_room : length (ys ++ zs) - r ≡ length row - length (filter p (take used row))
      purged_room = omega (arith, purged_size, ap (λ xs. length (filter p xs)) front_is)
