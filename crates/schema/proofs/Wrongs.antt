-- The row that is read is the one that is spelled, up to the first wrong element. Assumes nothing.
use Rattle.std.proofs.Common.{◌≡◌, ℕ, ◌+◌, ◌<◌, Bool, true, false, cond, not, ◌&&◌, ◌⊎◌, List, [], ◌∷◌, ◌++◌, length, Some, None, Ok, Err, Decides, Option, Result, sym, refl, ap, ◌∙◌, subst, inl, inr, ⊎_elim, arith, length-append}
use Rattle.std.proofs.lemmas.List.{append-nil, append_assoc}
use Rattle.std.proofs.lemmas.Bool.{ltb-true, lt-ltb}
use Rattle.std.proofs.lemmas.Bool.Decides.{Decides-eqb, Decides-or}
use Rattle.model.specs.declared.Element.{Element}
use Rattle.model.specs.declared.Element.TheVariants.{Activity, AndSplit, Bar, AndJoin, XorSplit, XorJoin, LoopStart, LoopEnd}
use Rattle.model.specs.Elements.{node_id, bytes_read, BytesOf, LowId}
use Rattle.model.specs.Rows.{Bears, Among, Unique, Low}
use Rattle.model.proofs.Bytes.{read_is, is_read}
use Rattle.record.proofs.Inverses.{never}
use Rattle.ids.specs.Sets.{is_id}
use Rattle.schema.specs.Reading.{among, used, row_taken, row_read}
use Rattle.schema.specs.Checks.{low_id, distinct}
use Rattle.schema.specs.Causes.{Spells, Fine, Reused, Wrong, FirstWrong}

-- to bear an id, by the id alone
abbrev IdIs : Option ℕ → ℕ → Type 0
IdIs None u = ⊥
IdIs (Some i) u = u ≡ i

bears_to : (x : Element) (u : ℕ) → Bears x u → IdIs (node_id x) u
bears_to (Activity i) u h = h
bears_to AndSplit u h = h
bears_to Bar u h = h
bears_to AndJoin u h = h
bears_to (XorSplit i) u h = h
bears_to XorJoin u h = h
bears_to LoopStart u h = h
bears_to (LoopEnd i) u h = h

bears_from : (x : Element) (u : ℕ) → IdIs (node_id x) u → Bears x u
bears_from (Activity i) u h = h
bears_from AndSplit u h = h
bears_from Bar u h = h
bears_from AndJoin u h = h
bears_from (XorSplit i) u h = h
bears_from XorJoin u h = h
bears_from LoopStart u h = h
bears_from (LoopEnd i) u h = h

true_false : {P : Type 0} (b : Bool) → b ≡ true → b ≡ false → P
true_false b p q = absurd (let z : ◌≡◌ {A = ℕ} 0 1 = cc in omega arith)

decides_id : (o : Option ℕ) (u : ℕ) → Decides (is_id o u) (IdIs o u)
decides_id None u = (λ e. true_false false e refl, λ h. elim h [ ])
decides_id (Some i) u = Decides-eqb u i

pub decides_among : (xs : List Element) (u : ℕ) → Decides (among xs u) (Among xs u)
decides_among [] u = (λ e. true_false false e refl, λ h. elim h [ ])
decides_among (x ∷ xs) u =
    let d = decides_id (node_id x) u in
    Decides-or (is_id (node_id x) u) (among xs u) (λ e. bears_from x u (d.0 e), λ h. d.1 (bears_to x u h)) (decides_among xs u)

used_id : (xs : List Element) (o : Option ℕ) → used xs o ≡ true → (u : ℕ) × IdIs o u × Among xs u
used_id xs None e = true_false false e refl
used_id xs (Some i) e = (i, refl, (decides_among xs i).0 e)

pub used_true : (xs : List Element) (x : Element) → used xs (node_id x) ≡ true → Reused xs x
used_true xs x e = let h = used_id xs (node_id x) e in (h.0, bears_from x h.0 h.1, h.2)

unused_id : (xs : List Element) (o : Option ℕ) → used xs o ≡ false → (u : ℕ) → IdIs o u → Among xs u → ⊥
unused_id xs None e u h a = elim h [ ]
unused_id xs (Some i) e u h a = true_false (among xs i) ((decides_among xs i).1 (subst (Among xs) h a)) e

pub used_false : (xs : List Element) (x : Element) → used xs (node_id x) ≡ false → (u : ℕ) → Bears x u → Among xs u → ⊥
used_false xs x e u h = unused_id xs (node_id x) e u (bears_to x u h)

-- one element more
spells_last : (bs : List (ℕ × ℕ)) (xs : List Element) (b : ℕ × ℕ) (x : Element) → Spells bs xs → BytesOf b.0 b.1 x → Spells (bs ++ b ∷ []) (xs ++ x ∷ [])
spells_last [] [] b x s h = (h, tt)
spells_last [] (y ∷ ys) b x s h = elim s [ ]
spells_last (c ∷ cs) [] b x s h = elim s [ ]
spells_last (c ∷ cs) (y ∷ ys) b x s h = (s.0, spells_last cs ys b x s.1 h)

among_last : (xs : List Element) (x : Element) (u : ℕ) → Among (xs ++ x ∷ []) u → Among xs u ⊎ Bears x u
among_last [] x u (inl h) = inr h
among_last [] x u (inr h) = elim h [ ]
among_last (y ∷ ys) x u (inl h) = inl (inl h)
among_last (y ∷ ys) x u (inr h) = ⊎_elim (λ a. inl (inr a)) inr (among_last ys x u h)

unique_last : (xs : List Element) (x : Element) → Unique xs → ((u : ℕ) → Bears x u → Among xs u → ⊥) → Unique (xs ++ x ∷ [])
unique_last [] x o n = (λ u h a. elim a [ ], tt)
unique_last (y ∷ ys) x o n = (
  λ u h a. ⊎_elim (o.0 u h) (λ k. n u k (inl h)) (among_last ys x u a),
  unique_last ys x o.1 (λ u k a. n u k (inr a)),
)

id_low : (o : Option ℕ) → LowId o → (u : ℕ) → IdIs o u → u < 64
id_low None low u h = elim h [ ]
id_low (Some i) low u h = subst (λ k. k < 64) (sym h) low

low_last : (xs : List Element) (x : Element) → Low xs → LowId (node_id x) → Low (xs ++ x ∷ [])
low_last xs x l h u a = ⊎_elim (l u) (λ b. id_low (node_id x) h u (bears_to x u b)) (among_last xs x u a)

pub fine_last : (xs : List Element) (x : Element) → Fine xs → used xs (node_id x) ≡ false → LowId (node_id x) → Fine (xs ++ x ∷ [])
fine_last xs x f e low = (unique_last xs x f.0 (used_false xs x e), low_last xs x f.1 low)

abbrev ToldFrom : List (ℕ × ℕ) → List (ℕ × ℕ) → Result (List Element) ℕ → Type 0
ToldFrom front bs (Ok row) = Spells (front ++ bs) row × Fine row
ToldFrom front bs (Err p) = FirstWrong (front ++ bs) p

told_from : (bs front : List (ℕ × ℕ)) (row : List Element) (p : ℕ) → length front ≡ p → Spells front row → Fine row → ToldFrom front bs (row_read row p bs)
told_from [] front row p n s f = (subst (λ cs. Spells cs row) (sym (append-nil front)) s, f)
told_from (b ∷ bs) front row p n s f = at (bytes_read b.0 b.1) refl (λ x. told_from bs (front ++ b ∷ []) (row ++ x ∷ []) (p + 1))
  where
    wrong_here : Wrong row b → FirstWrong (front ++ (b ∷ bs)) p
    wrong_here w = record { front = front; here = b; rest = bs; row = row; parted = refl; place = n; spelled = s; fine = f; wrong = w }

    next : (x : Element) (u : Bool) → bytes_read b.0 b.1 ≡ Some x → used row (node_id x) ≡ u
        → (length (front ++ b ∷ []) ≡ p + 1 → Spells (front ++ b ∷ []) (row ++ x ∷ []) → Fine (row ++ x ∷ []) → ToldFrom (front ++ b ∷ []) bs (row_read (row ++ x ∷ []) (p + 1) bs))
        → ToldFrom front (b ∷ bs) (cond u (Err p) (row_read (row ++ x ∷ []) (p + 1) bs))
    next x true is e more = wrong_here (inr (x, read_is b.0 b.1 x is, used_true row x e))
    next x false is e more =
        let of = read_is b.0 b.1 x is in
        let told = more (length-append front (b ∷ []) ∙ ap (λ k. k + 1) n) (spells_last front row b x s of) (fine_last row x f e of.2) in
        moved (row_read (row ++ x ∷ []) (p + 1) bs) told
      where
        moved : (r : Result (List Element) ℕ) → ToldFrom (front ++ b ∷ []) bs r → ToldFrom front (b ∷ bs) r
        moved (Ok out) t = (subst (λ cs. Spells cs out) (append_assoc front (b ∷ []) bs) t.0, t.1)
        moved (Err q) t = subst (λ cs. FirstWrong cs q) (append_assoc front (b ∷ []) bs) t

    at : (o : Option Element) → bytes_read b.0 b.1 ≡ o
        → ((x : Element) → length (front ++ b ∷ []) ≡ p + 1 → Spells (front ++ b ∷ []) (row ++ x ∷ []) → Fine (row ++ x ∷ []) → ToldFrom (front ++ b ∷ []) bs (row_read (row ++ x ∷ []) (p + 1) bs))
        → ToldFrom front (b ∷ bs) (row_taken row p o (λ r. row_read r (p + 1) bs))
    at None is more = wrong_here (inl (λ x h. never (sym is ∙ is_read b.0 b.1 x h)))
    at (Some x) is more = next x (used row (node_id x)) is refl (more x)

pub row_told : (bs : List (ℕ × ℕ)) → ToldFrom [] bs (row_read [] 0 bs)
row_told bs = told_from bs [] [] 0 refl tt (tt, λ u a. elim a [ ])

pub read_fine : (bs : List (ℕ × ℕ)) (row : List Element) → row_read [] 0 bs ≡ Ok row → Spells bs row × Fine row
read_fine bs row e = subst (ToldFrom [] bs) e (row_told bs)

pub read_wrong : (bs : List (ℕ × ℕ)) (p : ℕ) → row_read [] 0 bs ≡ Err p → FirstWrong bs p
read_wrong bs p e = subst (ToldFrom [] bs) e (row_told bs)

-- fine rows, by a test
low_true : (o : Option ℕ) → ((u : ℕ) → IdIs o u → u < 64) → low_id o ≡ true
low_true None h = refl
low_true (Some i) h = lt-ltb i 64 (h i refl)

not_used : (xs : List Element) (o : Option ℕ) → ((u : ℕ) → IdIs o u → Among xs u → ⊥) → used xs o ≡ false
not_used xs o n = go (used xs o) refl
  where
    go : (b : Bool) → used xs o ≡ b → used xs o ≡ false
    go true e = let h = used_id xs o e in absurd (n h.0 h.1 h.2)
    go false e = e

pub fine_distinct : (xs : List Element) → Fine xs → distinct xs ≡ true
fine_distinct [] f = refl
fine_distinct (x ∷ xs) f =
    ap (λ b. (b && not (used xs (node_id x))) && distinct xs) (low_true (node_id x) (λ u h. f.1 u (inl (bears_from x u h))))
    ∙ ap (λ b. not b && distinct xs) (not_used xs (node_id x) (λ u h. f.0.0 u (bears_from x u h)))
    ∙ fine_distinct xs (f.0.1, λ u a. f.1 u (inr a))

pub not_reused : (xs : List Element) (x : Element) → (Reused xs x → ⊥) → used xs (node_id x) ≡ false
not_reused xs x n = not_used xs (node_id x) (λ u h a. n (u, bears_from x u h, a))

pub reused : (xs : List Element) (x : Element) → Reused xs x → used xs (node_id x) ≡ true
reused xs x (u, b, a) = go (used xs (node_id x)) refl
  where
    go : (v : Bool) → used xs (node_id x) ≡ v → used xs (node_id x) ≡ true
    go true e = e
    go false e = absurd (used_false xs x e u b a)

pub among_left : (xs ys : List Element) (u : ℕ) → Among xs u → Among (xs ++ ys) u
among_left [] ys u a = elim a [ ]
among_left (x ∷ xs) ys u (inl h) = inl h
among_left (x ∷ xs) ys u (inr h) = inr (among_left xs ys u h)

pub among_right : (xs ys : List Element) (u : ℕ) → Among ys u → Among (xs ++ ys) u
among_right [] ys u a = a
among_right (x ∷ xs) ys u a = inr (among_right xs ys u a)

pub bears_low : (x : Element) → low_id (node_id x) ≡ true → (u : ℕ) → Bears x u → u < 64
bears_low x e u b = go (node_id x) e (bears_to x u b)
  where
    go : (o : Option ℕ) → low_id o ≡ true → IdIs o u → u < 64
    go None e h = elim h [ ]
    go (Some i) e h = subst (λ k. k < 64) (sym h) (ltb-true i 64 e)

pub decides_bears : (x : Element) (u : ℕ) → Decides (is_id (node_id x) u) (Bears x u)
decides_bears x u = let d = decides_id (node_id x) u in (λ e. bears_from x u (d.0 e), λ h. d.1 (bears_to x u h))
