-- The places of a row's nodes. Assumes nothing.
use Rattle.std.proofs.Common.{◌≡◌, ℕ, suc, ◌+◌, ◌<◌, ◌≤◌, ◌⊎◌, List, [], ◌∷◌, length, get_or, set, replicate, Some, None, Option, sym, refl, ap, ◌∙◌, subst, inl, inr, arith, length-set, below_more}
use Rattle.std.proofs.lemmas.List.{get_or-set_same, get_or-set_other, get_or-replicate, get_or_past, length-replicate}
use Rattle.std.proofs.lemmas.Bool.{cases_eq, cases_lt}
use Rattle.bounded.proofs.Replicas.{get_or-replicate_default}
use Rattle.model.specs.declared.Element.{Element}
use Rattle.model.specs.declared.Element.TheVariants.{Activity, AndSplit, Bar, AndJoin, XorSplit, XorJoin, LoopStart, LoopEnd}
use Rattle.model.specs.Elements.{node_id}
use Rattle.model.specs.Rows.{Bears, Among}
use Rattle.layout.specs.declared.Layout.{Layout}
use Rattle.layout.specs.Pass.{State, Tables, read, noted, written, step, move, no_tables, tables_of, start, LayoutOf}
use Rattle.layout.specs.Nodes.{Finds}
use Rattle.layout.specs.Gaps.{Rest}
use Rattle.layout.proofs.Rests.{rest_all, rest_next, rest_here, rest_none}

-- an element's id bears it, and nothing else does
bears : (x : Element) (u i : ℕ) → node_id x ≡ Some i → u ≡ i → Bears x u
bears (Activity j) u i e h = let s : j ≡ i = cc in h ∙ sym s
bears AndSplit u i e h = absurd cc
bears Bar u i e h = absurd cc
bears AndJoin u i e h = absurd cc
bears (XorSplit j) u i e h = let s : j ≡ i = cc in h ∙ sym s
bears XorJoin u i e h = absurd cc
bears LoopStart u i e h = absurd cc
bears (LoopEnd j) u i e h = let s : j ≡ i = cc in h ∙ sym s

borne : (x : Element) (u : ℕ) → Bears x u → node_id x ≡ Some u
borne (Activity j) u h = ap Some (sym h)
borne AndSplit u h = elim h [ ]
borne Bar u h = elim h [ ]
borne AndJoin u h = elim h [ ]
borne (XorSplit j) u h = ap Some (sym h)
borne XorJoin u h = elim h [ ]
borne LoopStart u h = elim h [ ]
borne (LoopEnd j) u h = ap Some (sym h)

-- what the table says under u after the elements before n
abbrev Sofar : List Element → ℕ → ℕ → Option ℕ → Type 0
Sofar xs n u None = u < 64 → (q : ℕ) → q < n → Bears (get_or xs q AndSplit) u → ⊥
Sofar xs n u (Some p) = (p < n) × Bears (get_or xs p AndSplit) u

-- past an element that does not bear u
sofar_on : (xs : List Element) (n u : ℕ) (o : Option ℕ) → (u < 64 → Bears (get_or xs n AndSplit) u → ⊥) → Sofar xs n u o → Sofar xs (n + 1) u o
sofar_on xs n u None no_u h = λ low. below_more (λ q. Bears (get_or xs q AndSplit) u → ⊥) n (h low) (no_u low)
sofar_on xs n u (Some p) no_u h = (omega (arith, h.0), h.1)

module _ (xs : List Element) where
  note_id : (k : Option ℕ) (x : Element) (n : ℕ) (ps : List (Option ℕ)) → length ps ≡ 64 → node_id x ≡ k → get_or xs n AndSplit ≡ x
      → ((u : ℕ) → Sofar xs n u (get_or ps u None)) → (u : ℕ) → Sofar xs (n + 1) u (get_or (written k n ps) u None)
  note_id None x n ps long e at h u =
      sofar_on xs n u _ (λ _ b. let i = borne x u (subst (λ y. Bears y u) at b) in cc) (h u)
  note_id (Some i) x n ps long e at h u = go (cases_eq u i) (cases_lt i (length ps))
    where
      go : (u ≡ i) ⊎ (u ≡ i → ⊥) → (i < length ps) ⊎ (length ps ≤ i) → Sofar xs (n + 1) u (get_or (set ps i (Some n)) u None)
      go (inl same) (inl low) =
          subst (Sofar xs (n + 1) u) (sym (ap (λ k. get_or (set ps i (Some n)) k None) same ∙ get_or-set_same ps i (Some n) None low))
          (omega arith, subst (λ y. Bears y u) (sym at) (bears x u i e same))
      go (inl same) (inr high) =
          subst (Sofar xs (n + 1) u) (sym (get_or_past (set ps i (Some n)) u None (simp length-set (omega (arith, same)))))
          (λ low. absurd (omega (arith, same)))
      go (inr other) w =
          subst (Sofar xs (n + 1) u) (sym (get_or-set_other ps i u (Some n) None other))
          (sofar_on xs n u _ (λ _ b. let j = borne x u (subst (λ y. Bears y u) at b) in let s : u ≡ i = cc in other s) (h u))

  pub written_long : (k : Option ℕ) (n : ℕ) (ps : List (Option ℕ)) → length (written k n ps) ≡ length ps
  written_long None n ps = refl
  written_long (Some i) n ps = length-set ps i (Some n)

  read_places : (ys : List Element) (n : ℕ) (s : State) (t : Tables) → Rest xs n ys → length t.places ≡ 64
      → ((u : ℕ) → Sofar xs n u (get_or t.places u None)) → (u : ℕ) → Sofar xs (length xs) u (get_or (read n s t ys).places u None)
  read_places [] n s t r long h u = subst (λ m. Sofar xs m u (get_or t.places u None)) (rest_none r) (h u)
  read_places (x ∷ ys) n s t r long h u =
      read_places ys (n + 1) (step x n s) (noted x n (move x n s) s.here t) (rest_next r)
      (written_long (node_id x) n t.places ∙ long)
      (note_id (node_id x) x n t.places long refl (rest_here AndSplit r) h) u

pub none_yet : (n k : ℕ) → get_or (replicate {A = Option ℕ} n None) k None ≡ None
none_yet n k = go (cases_lt k n)
  where
    go : (k < n) ⊎ (n ≤ k) → get_or (replicate {A = Option ℕ} n None) k None ≡ None
    go (inl h) = get_or-replicate n k None None h
    go (inr h) = get_or_past _ k None (simp length-replicate h)

among_at : (xs : List Element) (u : ℕ) → Among xs u → (q : ℕ) × (q < length xs) × Bears (get_or xs q AndSplit) u
among_at [] u h = elim h [ ]
among_at (x ∷ xs) u (inl h) = (0, omega arith, h)
among_at (x ∷ xs) u (inr h) = let r = among_at xs u h in (suc r.0, omega (arith, r.1), r.2)

finds : (xs : List Element) (u : ℕ) (o : Option ℕ) → Sofar xs (length xs) u o → Finds xs u o
finds xs u None h = λ low a. let q = among_at xs u a in h low q.0 q.1 q.2
finds xs u (Some p) h = h

pub places_find : (xs : List Element) (u : ℕ) → Finds xs u (get_or (tables_of xs).places u None)
places_find xs u = finds xs u _ (read_places xs xs 0 start no_tables rest_all (length-replicate {A = Option ℕ} 64 None) (λ v. subst (Sofar xs 0 v) (sym (get_or-replicate_default 64 v None)) (λ low q h. absurd (omega arith))) u)

pub place_finds : (xs : List Element) (l : Layout) (u : ℕ) → LayoutOf xs l → Finds xs u (get_or l.places u None)
place_finds xs l u h = subst (λ ps. Finds xs u (get_or ps u None)) (sym h.places) (places_find xs u)
