-- The sets kept while edges are checked are those of the paths, so the check answers as the rules do. Assumes nothing.
use Rattle.std.proofs.Common.{◌≡◌, ℕ, zero, suc, ◌+◌, ◌<◌, Bool, true, false, cond, ◌&&◌, ◌||◌, eqb, List, [], ◌∷◌, ◌++◌, map, length, get_or, set, Ok, Err, Decides, sym, refl, ap, ◌∙◌, subst, inl, inr, ⊎_elim, arith, length-set}
use Rattle.ids.specs.declared.IdSet.{IdSet}
use Rattle.ids.specs.Sets.{has, only, empty, union}
use Rattle.std.proofs.lemmas.List.{get_or-set_same, get_or-set_other, length-map, append-nil, append_assoc}
use Rattle.std.proofs.lemmas.Bool.{eq-eqb, ne_eqb, cases_eq, or_left}
use Rattle.std.proofs.lemmas.Bool.Decides.{Decides-eqb, Decides-and, Decides-or, Decides-not, Decides-at, Decides-like, not_from_Decides}
use Rattle.model.specs.declared.Edge.{Edge}
use Rattle.edges.specs.Edges.{within, same, listed, joined, proper, grown, gain_of, connected, judged, closed}
use Rattle.edges.specs.Verdicts.{LowEdges}
use Rattle.model.specs.Paths.{Leads, Listed, Path, by_order, by_edge, then_order, then_edge, Proper, Answer, Acyclic}
use Rattle.ids.proofs.Laws.{has_union, has_empty, has_only}
use Rattle.edges.proofs.PathsByEdges.{path_through, through_path, stays_acyclic}

getD_map_all : (f : IdSet → IdSet) → f empty ≡ empty → (xs : List IdSet) (i : ℕ) → get_or (map f xs) i empty ≡ f (get_or xs i empty)
getD_map_all f e [] i = sym e
getD_map_all f e (x ∷ xs) zero = refl
getD_map_all f e (x ∷ xs) (suc i) = getD_map_all f e xs i

grow_has : (g s : IdSet) (x : ℕ) (c : Bool) → has (cond c (union s g) s) x ≡ (has s x || (has g x && c))
grow_has g s x true = grind (arith, has_union s g x)
grow_has g s x false = grind arith

at_target : (p q c : Bool) → ((p || q) || (q && c)) ≡ (p || q)
at_target p q c = grind arith

swap : (p q : Bool) → (p || q) ≡ (q || p)
swap p q = grind arith

also : (p q r : Bool) → r ≡ true → (p || q) ≡ (p || (q && r))
also p q r e = grind arith

module _ (back : List IdSet) (e : Edge) (a_small : e.source < 64) (b_small : e.target < length back) where
  gain_has : (x : ℕ) → has (gain_of back e) x ≡ (eqb x e.source || within back x e.source)
  gain_has x =
      has_union (get_or back e.source empty) (only e.source) x
      ∙ ap (λ v. within back x e.source || v) (has_only e.source x a_small)
      ∙ swap (within back x e.source) (eqb x e.source)

  connected_within : (x y : ℕ)
      → within (connected back e) x y ≡ (within back x y || ((eqb x e.source || within back x e.source) && (eqb y e.target || within back e.target y)))
  connected_within x y =
      let g = gain_of back e in
      let b = e.target in
      ap (λ s. has s x) (getD_map_all (grown b g) (ap (λ v. cond v (union empty g) empty) (has_empty b)) (set back b (union (get_or back b empty) g)) y)
      ∙ ⊎_elim (λ q. here g b q b_small) (there g b) (cases_eq y b)
      ∙ ap (λ v. within back x y || (v && (eqb y b || within back b y))) (gain_has x)
    where
      at_own : (g : IdSet) → y < length back
          → has (grown y g (get_or (set back y (union (get_or back y empty) g)) y empty)) x ≡ (within back x y || (has g x && (eqb y y || within back y y)))
      at_own g h =
          let v = union (get_or back y empty) g in
          ap (λ s. has (grown y g s) x) (get_or-set_same back y v empty h)
          ∙ grow_has g v x (has v y)
          ∙ ap (λ w. w || (has g x && has v y)) (has_union (get_or back y empty) g x)
          ∙ at_target (within back x y) (has g x) (has v y)
          ∙ also (within back x y) (has g x) (eqb y y || within back y y) (or_left _ _ (eq-eqb y y refl))

      here : (g : IdSet) (b : ℕ) → y ≡ b → b < length back
          → has (grown b g (get_or (set back b (union (get_or back b empty) g)) y empty)) x ≡ (within back x y || (has g x && (eqb y b || within back b y)))
      here g b q = subst (λ k. k < length back → has (grown k g (get_or (set back k (union (get_or back k empty) g)) y empty)) x ≡ (within back x y || (has g x && (eqb y k || within back k y)))) q (at_own g)

      there : (g : IdSet) (b : ℕ) → (y ≡ b → ⊥) → has (grown b g (get_or (set back b (union (get_or back b empty) g)) y empty)) x ≡ (within back x y || (has g x && (eqb y b || within back b y)))
      there g b q =
          ap (λ s. has (grown b g s) x) (get_or-set_other back b y (union (get_or back b empty) g) empty q)
          ∙ grow_has g (get_or back y empty) x (has (get_or back y empty) b)
          ∙ ap (λ v. within back x y || (has g x && (v || within back b y))) (sym (ne_eqb y b q))

decides_listed : (es : List Edge) (e : Edge) → Decides (listed es e) (Listed e.source e.target es)
decides_listed [] e = (λ q. absurd cc, λ l. elim l [ ])
decides_listed (d ∷ ds) e =
    Decides-or (same d e) (listed ds e)
    (Decides-like (same d e) (λ (l : (d.source ≡ e.source) × (d.target ≡ e.target)). (sym l.0, sym l.1)) (λ (l : Leads e.source e.target d). (sym l.0, sym l.1))
    (Decides-and _ _ (Decides-eqb d.source e.source) (Decides-eqb d.target e.target)))
    (decides_listed ds e)

module _ (Joins Before : ℕ → ℕ → Type 0) where
  -- each set has just those from which a path leads to its node
  abbrev pub Follows : List Edge → List IdSet → Type 0
  Follows es back = (x y : ℕ) → Decides (within back x y) (Path Before es x y)

  pub follows_more : (es : List Edge) (back : List IdSet) (e : Edge) → e.source < 64 → e.target < length back
      → Follows es back → Follows (es ++ e ∷ []) (connected back e)
  follows_more es back e a b f x y =
      Decides-at _ _ (connected_within back e a b x y)
      (Decides-like _ (through_path Before es e) (path_through Before es e)
      (Decides-or _ _ (f x y)
      (Decides-and _ _ (Decides-or _ _ (Decides-eqb x e.source) (f x e.source)) (Decides-or _ _ (Decides-eqb y e.target) (f e.target y)))))

  pub alone : ((u v w : ℕ) → Before u v → Before v w → Before u w) → {x y : ℕ} → Path Before [] x y → Before x y
  alone t (by_order b) = b
  alone t (by_edge l) = elim l [ ]
  alone t (then_order b p) = t _ _ _ b (alone t p)
  alone t (then_edge l p) = elim l [ ]

  -- sets of a relation that is transitive follow the paths of no edge
  pub follows_none : (back : List IdSet) → ((x y : ℕ) → Decides (within back x y) (Before x y))
      → ((u v w : ℕ) → Before u v → Before v w → Before u w) → Follows [] back
  follows_none back f trans x y = Decides-like _ by_order (alone trans) (f x y)

  module _ (ps : List IdSet) (joins : (e : Edge) → Decides (joined ps e) (Joins e.source e.target))
      (small : (u v : ℕ) → Joins u v → (u < 64) × (v < 64)) where
    pub decides_proper : (back : List IdSet) (es : List Edge) (e : Edge) → Follows es back → Decides (proper ps back es e) (Proper Joins Before es e)
    decides_proper back es e f =
        Decides-like _
        (λ (p : (Joins e.source e.target × (Listed e.source e.target es → ⊥)) × (Path Before es e.target e.source → ⊥)). record { joins = p.0.0; fresh = p.0.1; open_path = p.1 })
        (λ (p : Proper Joins Before es e). ((p.joins, p.fresh), p.open_path))
        (Decides-and _ _ (Decides-and _ _ (joins e) (Decides-not _ (decides_listed es e))) (Decides-not _ (f e.target e.source)))

    pub answers : (es earlier : List Edge) (back : List IdSet) (p : ℕ) → length back ≡ 64 → Follows earlier back
        → Answer Joins Before earlier p es (judged ps back earlier p es)
    answers [] earlier back p n f = refl
    answers (e ∷ es) earlier back p n f =
        go (proper ps back earlier e) refl (decides_proper back earlier e f) (answers es (earlier ++ e ∷ []) (connected back e) (p + 1))
      where
        long : length (connected back e) ≡ 64
        long = simp (length-map, length-set) n

        go : (b : Bool) → proper ps back earlier e ≡ b → Decides (proper ps back earlier e) (Proper Joins Before earlier e)
            → (length (connected back e) ≡ 64 → Follows (earlier ++ e ∷ []) (connected back e) → Answer Joins Before (earlier ++ e ∷ []) (p + 1) es (judged ps (connected back e) (earlier ++ e ∷ []) (p + 1) es))
            → Answer Joins Before earlier p (e ∷ es) (cond (proper ps back earlier e) (judged ps (connected back e) (earlier ++ e ∷ []) (p + 1) es) (Err (p, e.source)))
        go true q d rest =
            let ok = d.0 q in
            let s = small _ _ ok.joins in
            inl (
              ok,
              subst (λ c. Answer Joins Before (earlier ++ e ∷ []) (p + 1) es (cond c (judged ps (connected back e) (earlier ++ e ∷ []) (p + 1) es) (Err (p, e.source)))) (sym q)
                  (rest long (follows_more earlier back e s.0 (subst (λ k. e.target < k) (sym n) s.1) f)),
            )
        go false q d rest = inr (not_from_Decides _ d q, ap (λ c. cond c (judged ps (connected back e) (earlier ++ e ∷ []) (p + 1) es) (Err (p, e.source))) q)

  pub follows_all : (es earlier : List Edge) (back : List IdSet) → LowEdges es → length back ≡ 64 → Follows earlier back → Follows (earlier ++ es) (closed back es)
  follows_all [] earlier back low n f = subst (λ ds. Follows ds back) (sym (append-nil earlier)) f
  follows_all (e ∷ es) earlier back low n f =
      subst (λ ds. Follows ds (closed (connected back e) es)) (append_assoc earlier (e ∷ []) es)
      (follows_all es (earlier ++ e ∷ []) (connected back e) low.2 (simp (length-map, length-set) n)
      (follows_more earlier back e low.0 (subst (λ k. e.target < k) (sym n) low.1) f))

  -- edges that all passed have no cycle
  pub acyclic : (es earlier : List Edge) (p : ℕ) → ((u : ℕ) → Joins u u → ⊥) → Acyclic Before earlier
      → Answer Joins Before earlier p es (Ok tt) → Acyclic Before (earlier ++ es)
  acyclic [] earlier p apart free a = subst (Acyclic Before) (sym (append-nil earlier)) free
  acyclic (e ∷ es) earlier p apart free (inl (ok, a)) =
      subst (Acyclic Before) (append_assoc earlier (e ∷ []) es)
      (acyclic es (earlier ++ e ∷ []) (p + 1) apart
      (stays_acyclic Before earlier e free (λ q. apart e.source (subst (λ k. Joins e.source k) (sym q) ok.joins)) ok.open_path) a)
  acyclic (e ∷ es) earlier p apart free (inr (bad, q)) = absurd cc
