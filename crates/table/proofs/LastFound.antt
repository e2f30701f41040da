-- What `rposition` finds in a list of entries. Assumes nothing.
use Rattle.std.proofs.Common.{◌≡◌, ℕ, ◌+◌, Bool, true, List, length, Some, None, Option, sym, ap, ◌∙◌, arith, Iter, Bor}
use Rattle.std.specs.Iterator.{FindsPositionBack}
use Rattle.std.specs.Option.{MatchOption, IsSomeAnd}
use Rattle.std.specs.Slice.Iter.{iter_rest, iter_steps_back}
use Rattle.std.proofs.lemmas.List.{nil_from_length}
use denote.Param.Members.{Mut, Called}
use Rattle.model.specs.declared.Entry.{Entry}
use Rattle.history.specs.declared.EntryKind.{EntryKind}
use Rattle.history.specs.Entries.{is_of, last_place}
use Rattle.history.proofs.LastPlaces.{found_from_end}

module _ (kind : EntryKind) (id : ℕ) {F : Type 0} (g : Mut F (Bor Entry × Unit {0}) Bool) (f : F)
    (says : (x : Bor Entry) (b : Bool) (q : F) → Called g f (x, tt) b q → (q ≡ f) × (b ≡ is_of kind id x.now)) where
  pub last_found : (s u : Iter Entry) (r : Option ℕ) → FindsPositionBack iter_steps_back g s f (length (iter_rest s)) r u → r ≡ last_place kind id (iter_rest s)
  last_found s u r ran =
      go r ran.0 ran.1 ran.2
      (found_from_end kind id iter_steps_back (λ y. y.now) iter_rest (λ s t e. nil_from_length (iter_rest s) e.0) (λ s t x e. e) g f says ran.0 ran.1 ran.2 s u ran.3 ran.4) ran.5
    where
      go : (r : Option ℕ) (xs : List (Bor Entry)) (o : Option (Bor Entry)) (j : F)
          → MatchOption o (last_place kind id (iter_rest s) ≡ None) (λ x. (h : F) → Called g j (x, tt) true h → (n : ℕ) × (last_place kind id (iter_rest s) ≡ Some n) × (n + 1 + length xs ≡ length (iter_rest s)))
          → MatchOption o (r ≡ None) (λ x. IsSomeAnd r (λ i. i + 1 + length xs ≡ length (iter_rest s)) × ((h : F) × Called g j (x, tt) true h))
          → r ≡ last_place kind id (iter_rest s)
      go r xs None j none e = e ∙ sym none
      go (Some i) xs (Some x) j found e =
          let n = found e.1.0 e.1.1 in
          let same : i ≡ n.0 = omega (arith, n.2, e.0) in
          ap Some same ∙ sym n.1
      go None xs (Some x) j found e = absurd e.0
