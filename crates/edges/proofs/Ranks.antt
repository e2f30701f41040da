-- Where no path returns, the number of nodes that lead to a node is a rank. Assumes nothing.
use Rattle.std.proofs.Common.{◌≡◌, ℕ, zero, suc, ◌+◌, ◌<◌, ◌≤◌, Bool, true, false, List, [], ◌∷◌, ◌++◌, Ok, sym, refl, ap, subst, inl, inr, ⊎_elim, arith}
use Rattle.std.proofs.lemmas.Bool.{cases_eq, cases_Bool}
use Rattle.model.specs.declared.Edge.{Edge}
use Rattle.ids.specs.declared.IdSet.{IdSet}
use Rattle.edges.specs.Edges.{within}
use Rattle.model.specs.Paths.{Listed, Path, by_order, by_edge, then_order, then_edge, Answer, Acyclic, Ranked}
use Rattle.edges.specs.Verdicts.{LowEdges}
use Rattle.edges.proofs.PathsByEdges.{joined_path}
use Rattle.edges.proofs.ReachableSets.{Follows}

abbrev one : Bool → ℕ
one true = 1
one false = 0

-- how many below n pass a test
abbrev count : ℕ → (ℕ → Bool) → ℕ
count zero f = 0
count (suc n) f = one (f n) + count n f

clash : {X : Type 0} → false ≡ true → X
clash e = absurd cc

one_le : (a b : Bool) → (a ≡ true → b ≡ true) → one a ≤ one b
one_le true true h = omega arith
one_le true false h = clash (h refl)
one_le false true h = omega arith
one_le false false h = omega arith

count_le : (n : ℕ) (f g : ℕ → Bool) → ((k : ℕ) → f k ≡ true → g k ≡ true) → count n f ≤ count n g
count_le zero f g h = omega arith
count_le (suc n) f g h = let r = count_le n f g h in let s = one_le (f n) (g n) (h n) in omega arith

count_lt : (n : ℕ) (f g : ℕ → Bool) → ((k : ℕ) → f k ≡ true → g k ≡ true) → (j : ℕ) → j < n → f j ≡ false → g j ≡ true → count n f < count n g
count_lt zero f g h j l a b = absurd (omega arith)
count_lt (suc n) f g h j l a b = ⊎_elim here (there (λ k. count_lt n f g h j k a b)) (cases_eq j n)
  where
    here : j ≡ n → one (f n) + count n f < one (g n) + count n g
    here e =
        let p : one (f n) ≡ 0 = ap one (subst (λ k. f k ≡ false) e a) in
        let q : one (g n) ≡ 1 = ap one (subst (λ k. g k ≡ true) e b) in
        let r = count_le n f g h in
        omega arith

    there : (j < n → count n f < count n g) → (j ≡ n → ⊥) → one (f n) + count n f < one (g n) + count n g
    there rec d = let r = rec (omega arith) in let s = one_le (f n) (g n) (h n) in omega arith

listed_low : (u v : ℕ) (es : List Edge) → LowEdges es → Listed u v es → u < 64
listed_low u v [] low l = elim l [ ]
listed_low u v (e ∷ es) low (inl (a, b)) = subst (λ k. k < 64) (sym a) low.0
listed_low u v (e ∷ es) low (inr l) = listed_low u v es low.2 l

module _ (Joins Before : ℕ → ℕ → Type 0) where
  pub answer_low : ((u v : ℕ) → Joins u v → (u < 64) × (v < 64)) → (es earlier : List Edge) (p : ℕ) → Answer Joins Before earlier p es (Ok tt) → LowEdges es
  answer_low small [] earlier p a = tt
  answer_low small (e ∷ es) earlier p (inl (ok, a)) =
      let s = small _ _ ok.joins in
      (s.0, s.1, answer_low small es (earlier ++ e ∷ []) (p + 1) a)
  answer_low small (e ∷ es) earlier p (inr (bad, q)) = absurd cc

  module _ (es : List Edge) (low : LowEdges es) (small : (u v : ℕ) → Before u v → u < 64) where
    path_low : {u v : ℕ} → Path Before es u v → u < 64
    path_low (by_order b) = small _ _ b
    path_low (by_edge l) = listed_low _ _ es low l
    path_low (then_order b p) = small _ _ b
    path_low (then_edge l p) = listed_low _ _ es low l

    pub ranked : (back : List IdSet) → Follows Joins Before es back → Acyclic Before es → Ranked Before es
    ranked back f free = (λ v. count 64 (λ k. within back k v), rises)
      where
        rises : (u v : ℕ) → Path Before es u v → count 64 (λ k. within back k u) < count 64 (λ k. within back k v)
        rises u v p =
            count_lt 64 (λ k. within back k u) (λ k. within back k v) (λ k q. (f k v).1 (joined_path Before es ((f k u).0 q) p)) u (path_low p)
            (⊎_elim (λ q. absurd (free u ((f u u).0 q))) (λ q. q) (cases_Bool (within back u u))) ((f u v).1 p)
