-- What a store holds after a call, put together from its list and its places. Assumes nothing.
use Rattle.std.proofs.Common.{◌≡◌, ℕ, ◌-◌, ◌≤◌, Bool, true, false, cond, not, eqb, List, [], ◌∷◌, ◌++◌, length, Ok, Result, sym, refl, ◌∙◌, arith}
use Rattle.std.proofs.lemmas.Bool.{eqb-true, le-ltb, cond-false}
use Rattle.std.proofs.lemmas.List.Filters.{length-filter_both}
use Rattle.ids.specs.declared.IdSet.{IdSet}
use Rattle.model.specs.declared.Entry.{Entry}
use Rattle.bounded.specs.declared.Full.{Full}
use Rattle.history.specs.Entries.{stays, kept}
use Rattle.history.specs.Stores.{StoreView, refusal, added, purge_answer, purged}

pub kept_short : (ids : IdSet) (es : List Entry) → length (kept ids es) ≤ length es
kept_short ids es =
    omega (arith, length-filter_both (stays ids) (λ e. not (stays ids e)) (λ e. refl) es)

abbrev pub view_of : List Entry → ℕ → ℕ → StoreView
view_of es f n = record { list = es; free = f; capacity = n }

pub view_is : {es es' : List Entry} {f f' n n' : ℕ} → es ≡ es' → f ≡ f' → n ≡ n' → view_of es f n ≡ view_of es' f' n'
view_is p q r = cc

-- the list with one more entry, if a place is free
abbrev pub list_added : Entry → StoreView → List Entry
list_added e v = cond (eqb v.free 0) v.list (v.list ++ e ∷ [])

pub added_is : (e : Entry) (v : StoreView) (es : List Entry) (f n : ℕ) → es ≡ list_added e v → f ≡ v.free - 1 → n ≡ v.capacity → view_of es f n ≡ added e v
added_is e v es f n p q r = go (eqb v.free 0) refl p
  where
    go : (b : Bool) → eqb v.free 0 ≡ b → es ≡ cond b v.list (v.list ++ e ∷ [])
        → view_of es f n ≡ cond b v (record { list = v.list ++ e ∷ []; free = v.free - 1; capacity = v.capacity })
    go true z p = let none = eqb-true v.free 0 z in view_is p (omega arith) r
    go false z p = view_is p q r

-- a purge whose cost is there
module _ (cost : ℕ) (ids : IdSet) (v : StoreView) (enough : cost ≤ v.free) where
  pub purge_accepted : Ok tt ≡ purge_answer cost v
  purge_accepted = sym (cond-false _ _ _ (le-ltb v.free cost enough))

  pub purged_is : (es : List Entry) (f n : ℕ) → es ≡ kept ids v.list → n ≡ v.capacity → view_of es f n ≡ purged cost ids f v
  purged_is es f n p r = view_is p refl r ∙ sym (cond-false _ _ _ (le-ltb v.free cost enough))

pub not_refused : {A : Type 0} → ◌≡◌ {A = Result (Unit {0}) Full} (Ok tt) refusal → A
not_refused e = absurd (let z : ◌≡◌ {A = ℕ} 0 1 = cc in omega arith)
