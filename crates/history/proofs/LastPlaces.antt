-- Where an entry last stands, looked for from the end. Assumes nothing.
use Rattle.std.proofs.Common.{◌≡◌, ℕ, ◌+◌, ◌-◌, ◌<◌, ◌≤◌, Bool, true, false, cond, List, [], ◌∷◌, ◌++◌, length, get_or, take, drop, Some, None, Option, sym, ap, ◌∙◌, subst, arith, length-append, take-append-drop, length-take}
use Rattle.std.proofs.lemmas.List.{drop_more}
use Rattle.std.specs.Iterator.{YieldsThen}
use Rattle.std.specs.List.{FoldsTo}
use Rattle.std.specs.Option.{MatchOption}
use denote.Param.Members.{Mut, Called}
use Rattle.model.specs.declared.Entry.{Entry}
use Rattle.history.specs.declared.EntryKind.{EntryKind}
use Rattle.history.specs.Entries.{is_of, place_from, last_place}

module _ (kind : EntryKind) (id : ℕ) where
  -- none stands behind the first
  pub last_first : (e : Entry) (es : List Entry) (b : Bool) → b ≡ is_of kind id e → last_place kind id es ≡ None → last_place kind id (e ∷ es) ≡ cond b (Some 0) None
  last_first e es b is none = ap (place_from (is_of kind id e)) none ∙ ap (λ t. cond t (Some 0) None) (sym is)

  -- none stands behind this one
  pub last_behind : (front : List Entry) (e : Entry) (es : List Entry) → true ≡ is_of kind id e → last_place kind id es ≡ None → last_place kind id (front ++ e ∷ es) ≡ Some (length front)
  last_behind [] e es is none = last_first e es true is none
  last_behind (x ∷ front) e es is none = ap (place_from (is_of kind id x)) (last_behind front e es is none)

  -- a search that has come back to place i
  module _ (es : List Entry) (i : ℕ) (d : Entry) (more : 0 < i) (within : i ≤ length es) where
    one_back : drop (i - 1) es ≡ get_or es (i - 1) d ∷ drop i es
    one_back =
        let lt : i - 1 < length es = omega arith in
        let s : i - 1 + 1 ≡ i = omega arith in
        drop_more es (i - 1) d lt ∙ ap (λ k. get_or es (i - 1) d ∷ drop k es) s

    pub last_not_here : false ≡ is_of kind id (get_or es (i - 1) d) → last_place kind id (drop i es) ≡ None → last_place kind id (drop (i - 1) es) ≡ None
    last_not_here other none = ap (last_place kind id) one_back ∙ last_first (get_or es (i - 1) d) (drop i es) false other none

    pub last_here : true ≡ is_of kind id (get_or es (i - 1) d) → last_place kind id (drop i es) ≡ None → last_place kind id es ≡ Some (i - 1)
    last_here is none =
        let n : length (take (i - 1) es) ≡ i - 1 = omega (arith, length-take (i - 1) es) in
        ap (last_place kind id) (sym (take-append-drop (i - 1) es) ∙ ap (λ l. take (i - 1) es ++ l) one_back)
        ∙ last_behind (take (i - 1) es) (get_or es (i - 1) d) (drop i es) is none
        ∙ ap Some n

  pub last_at_end : (front : List Entry) (e : Entry) → is_of kind id e ≡ true → last_place kind id (front ++ e ∷ []) ≡ Some (length front)
  last_at_end [] e is = ap (λ b. cond b (Some 0) None) is
  last_at_end (x ∷ front) e is = ap (place_from (is_of kind id x)) (last_at_end front e is)

  pub last_before_end : (front : List Entry) (e : Entry) → is_of kind id e ≡ false → last_place kind id (front ++ e ∷ []) ≡ last_place kind id front
  last_before_end [] e other = ap (λ b. cond b (Some 0) None) other
  last_before_end (x ∷ front) e other = ap (place_from (is_of kind id x)) (last_before_end front e other)

  -- calls of a test that asks of each item whether it is such an entry; each step takes the last of the rest
  module _ {S A F : Type 0} (steps : S → Option A → S → Type 0) (view : A → Entry) (rest : S → List Entry)
      (ends : (s t : S) → steps s None t → rest s ≡ [])
      (takes : (s t : S) (x : A) → steps s (Some x) t → rest s ≡ rest t ++ view x ∷ [])
      (g : Mut F (A × Unit {0}) Bool) (f : F)
      (says : (x : A) (b : Bool) (q : F) → Called g f (x, tt) b q → (q ≡ f) × (b ≡ is_of kind id (view x))) where
    -- n entries behind the one that is found, or none is found
    abbrev pub Found : S → List A → Option A → F → Type 0
    Found s xs o j =
        MatchOption o (last_place kind id (rest s) ≡ None)
        (λ x. (h : F) → Called g j (x, tt) true h → (n : ℕ) × (last_place kind id (rest s) ≡ Some n) × (n + 1 + length xs ≡ length (rest s)))

    pub found_from_end : (xs : List A) (o : Option A) (j : F) (s u : S) → YieldsThen steps s xs o u → FoldsTo (λ p x q. Called g p (x, tt) false q) f xs j → Found s xs o j
    found_from_end [] None j s u y c = ap (last_place kind id) (ap rest y.1 ∙ ends y.0 u y.2)
    found_from_end [] (Some x) j s u y c =
        λ h called.
        let is = (says x true h (subst (λ p. Called g p (x, tt) true h) (sym c) called)).1 in
        let e = ap rest y.1 ∙ takes y.0 u x y.2 in
        (length (rest u), ap (last_place kind id) e ∙ last_at_end (rest u) (view x) (sym is), omega (arith, ap length e, length-append (rest u) (view x ∷ [])))
    found_from_end (x ∷ xs) o j s u y c =
        let t = y.1.0 in
        let said = says x false c.0 c.1 in
        let e = takes s t x y.1.1 in
        let same = ap (last_place kind id) e ∙ last_before_end (rest t) (view x) (sym said.1) in
        go o t e same (found_from_end xs o j t u (y.0, y.1.2, y.2) (subst (λ p. FoldsTo (λ p x q. Called g p (x, tt) false q) p xs j) said.0 c.2))
      where
        go : (o : Option A) (t : S) → rest s ≡ rest t ++ view x ∷ [] → last_place kind id (rest s) ≡ last_place kind id (rest t) → Found t xs o j → Found s (x ∷ xs) o j
        go None t e same found = same ∙ found
        go (Some z) t e same found =
            λ h called.
            let n = found h called in
            (n.0, same ∙ n.1, omega (arith, n.2, ap length e, length-append (rest t) (view x ∷ [])))
