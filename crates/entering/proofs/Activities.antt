-- The activities of a row, element by element. Assumes nothing.
use Rattle.std.proofs.Common.{◌≡◌, ℕ, ◌+◌, ◌<◌, ◌≤◌, Bool, true, false, ◌&&◌, ◌||◌, eqb, ltb, ◌⊎◌, List, [], ◌∷◌, ◌++◌, length, get_or, take, None, Option, sym, refl, ap, ◌∙◌, inl, inr, arith}
use Rattle.std.proofs.lemmas.List.{take_more, get_or_past}
use Rattle.std.proofs.lemmas.Bool.{eqb-true, lt-ltb, cases_lt, false≢true}
use Rattle.model.specs.declared.Element.{Element}
use Rattle.model.specs.declared.Element.TheVariants.{Activity, AndSplit, Bar, AndJoin, XorSplit, XorJoin, LoopStart, LoopEnd}
use Rattle.model.specs.declared.State.{State}
use Rattle.model.specs.Rows.{Bears, Among}
use Rattle.changes.specs.Effects.{is_activity, has_activity}
use Rattle.lives.specs.Offers.{is_activated}

activity_last : (xs : List Element) (x : Element) (id : ℕ) → has_activity (xs ++ x ∷ []) id ≡ (has_activity xs id || is_activity x id)
activity_last [] x id = grind arith
activity_last (y ∷ xs) x id = grind (arith, activity_last xs x id)

-- one element more
pub activity_more : (xs : List Element) (p : ℕ) (d : Element) (id : ℕ) → p < length xs → has_activity (take (p + 1) xs) id ≡ (has_activity (take p xs) id || is_activity (get_or xs p d) id)
activity_more xs p d id less = ap (λ l. has_activity l id) (take_more xs p d less) ∙ activity_last (take p xs) (get_or xs p d) id

pub activity_bears : (x : Element) (id : ℕ) → is_activity x id ≡ true → Bears x id
activity_bears (Activity i) id e = eqb-true id i e
activity_bears AndSplit id e = absurd (false≢true e)
activity_bears Bar id e = absurd (false≢true e)
activity_bears AndJoin id e = absurd (false≢true e)
activity_bears (XorSplit i) id e = absurd (false≢true e)
activity_bears XorJoin id e = absurd (false≢true e)
activity_bears LoopStart id e = absurd (false≢true e)
activity_bears (LoopEnd i) id e = absurd (false≢true e)

-- an activity of the row is one of its nodes
pub activity_among : (xs : List Element) (id : ℕ) → has_activity xs id ≡ true → Among xs id
activity_among [] id e = absurd (false≢true e)
activity_among (x ∷ xs) id e = go (is_activity x id) refl (activity_among xs id) e
  where
    go : (b : Bool) → is_activity x id ≡ b → (has_activity xs id ≡ true → Among xs id) → (b || has_activity xs id) ≡ true → Among (x ∷ xs) id
    go true h later k = inl (activity_bears x id h)
    go false h later k = inr (later k)

-- what holds of each holds of both
pub of_both : (a b s r : Bool) → (b ≡ true → r ≡ s) → ((a && s) || (b && r)) ≡ ((a || b) && s)
of_both true true s r h = ap (λ x. s || x) (h refl) ∙ same s
  where
    same : (x : Bool) → (x || x) ≡ x
    same true = refl
    same false = refl
of_both true false s r h = none s
  where
    none : (x : Bool) → (x || false) ≡ x
    none true = refl
    none false = refl
of_both false true s r h = h refl
of_both false false s r h = refl

-- an Activated activity has an id that a set can hold
pub offered_one : (states : List (Option State)) (i id : ℕ) → length states ≡ 64 → is_activated (get_or states i None) ≡ true
    → (eqb id i && ltb i 64) ≡ (eqb id i && is_activated (get_or states id None))
offered_one states i id long active = go (eqb id i) refl
  where
    low : (i < 64) ⊎ (64 ≤ i) → ltb i 64 ≡ true
    low (inl h) = lt-ltb i 64 h
    low (inr h) = absurd (false≢true (sym (ap is_activated (get_or_past states i None (omega arith))) ∙ active))

    go : (b : Bool) → eqb id i ≡ b → (b && ltb i 64) ≡ (b && is_activated (get_or states id None))
    go true e = low (cases_lt i 64) ∙ sym (ap (λ k. is_activated (get_or states k None)) (eqb-true id i e) ∙ active)
    go false e = refl
