-- What a log holds after a purge that takes one place for its mark. Assumes nothing.
use Rattle.std.proofs.Common.{◌≡◌, ℕ, ◌+◌, ◌-◌, ◌≤◌, Bool, true, false, cond, eqb, ltb, List, length, sym, refl, ◌∙◌, arith}
use Rattle.std.proofs.lemmas.Bool.{eqb-true, eqb-false, lt-ltb, le-ltb, cond-true}
use Rattle.ids.specs.declared.IdSet.{IdSet}
use Rattle.model.specs.declared.Entry.{Entry}
use Rattle.history.specs.Entries.{kept}
use Rattle.history.specs.Stores.{StoreView, purged, PurgeBounds}
use Rattle.history.proofs.Views.{kept_short, view_of, view_is, purged_is}

none_free : (n : ℕ) → ltb n 1 ≡ eqb n 0
none_free n = go (eqb n 0) refl
  where
    go : (b : Bool) → eqb n 0 ≡ b → ltb n 1 ≡ b
    go true e = let z = eqb-true n 0 e in lt-ltb n 1 (omega arith)
    go false e = let some = eqb-false n 0 e in le-ltb n 1 (omega arith)

module _ (ids : IdSet) (v : StoreView) (es : List Entry) (f n : ℕ)
    (list : es ≡ cond (eqb v.free 0) v.list (kept ids v.list)) (free : f ≡ v.free - 1) (capacity : n ≡ v.capacity) where
  pub mark_after : view_of es f n ≡ purged 1 ids f v
  mark_after = go (eqb v.free 0) refl list
    where
      go : (b : Bool) → eqb v.free 0 ≡ b → es ≡ cond b v.list (kept ids v.list) → view_of es f n ≡ purged 1 ids f v
      go true e l =
          let z = eqb-true v.free 0 e in
          view_is l (omega arith) capacity ∙ sym (cond-true _ _ _ (none_free v.free ∙ e))
      go false e l = let some = eqb-false v.free 0 e in purged_is 1 ids v (omega arith) es f n l capacity

  pub mark_bounds : v.free + length v.list ≤ v.capacity → PurgeBounds 1 ids f v
  mark_bounds within =
      let short = kept_short ids v.list in
      record {
        cheap = λ h. omega arith;
        within = λ h. omega arith;
        refused = λ h. omega arith;
      }
