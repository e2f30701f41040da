-- The nodes of changed rows. Assumes nothing.
use Rattle.std.proofs.Common.{◌≡◌, ℕ, ◌≤◌, ◌⊎◌, ◌↔◌, Bool, true, false, ◌||◌, List, [], ◌∷◌, ◌++◌, take, drop, sym, refl, ap, ◌∙◌, subst, inl, inr, arith}
use Rattle.std.proofs.lemmas.List.{append_assoc, take-append-drop}
use Rattle.std.proofs.lemmas.Bool.{eqb-true, false≢true}
use Rattle.model.specs.declared.Element.{Element}
use Rattle.model.specs.declared.Element.TheVariants.{Activity, AndSplit, Bar, AndJoin, XorSplit, XorJoin, LoopStart, LoopEnd}
use Rattle.model.specs.Rows.{Bears, Among, Unique}
use Rattle.changes.specs.declared.Change.TheVariants.{DropEdge, Delete, Insert, InsertBeside, AddEdge}
use Rattle.changes.specs.Effects.{is_activity, has_activity, stretch, row_after}
use Rattle.changes.specs.Laws.{Suits}
use Rattle.changes.specs.Kept.{NodesRemainOrAreNew, IdsStayUnique}
use Rattle.changes.proofs.Deletes.{left}
use Rattle.changes.proofs.Wraps.{parted}

module _ (x : Element) where
  among_less : (ps rs : List Element) (u : ℕ) → Among (ps ++ x ∷ rs) u → Bears x u ⊎ Among (ps ++ rs) u
  among_less [] rs u h = h
  among_less (p ∷ ps) rs u (inl h) = inr (inl h)
  among_less (p ∷ ps) rs u (inr h) = elim (among_less ps rs u h) [
    | inl k ↦ inl k
    | inr k ↦ inr (inr k)
  ]

  among_more : (ps rs : List Element) (u : ℕ) → Bears x u ⊎ Among (ps ++ rs) u → Among (ps ++ x ∷ rs) u
  among_more [] rs u h = h
  among_more (p ∷ ps) rs u (inl h) = inr (among_more ps rs u (inl h))
  among_more (p ∷ ps) rs u (inr (inl h)) = inl h
  among_more (p ∷ ps) rs u (inr (inr h)) = inr (among_more ps rs u (inr h))

  unique_more : (ps rs : List Element) → ((u : ℕ) → Bears x u → Among (ps ++ rs) u → ⊥) → Unique (ps ++ rs) → Unique (ps ++ x ∷ rs)
  unique_more [] rs fresh q = (fresh, q)
  unique_more (p ∷ ps) rs fresh q = (
    (λ u h k. elim (among_less ps rs u k) [
      | inl m ↦ fresh u m (inl h)
      | inr m ↦ q.0 u h m
    ]),
    unique_more ps rs (λ u h k. fresh u h (inr k)) q.1,
  )

  unique_less : (ps rs : List Element) → Unique (ps ++ x ∷ rs) → Unique (ps ++ rs)
  unique_less [] rs q = q.1
  unique_less (p ∷ ps) rs q = ((λ u h k. q.0 u h (among_more ps rs u (inr k))), unique_less ps rs q.1)

  gone : (ps rs : List Element) → Unique (ps ++ x ∷ rs) → (u : ℕ) → Bears x u → Among (ps ++ rs) u → ⊥
  gone [] rs q u h k = q.0 u h k
  gone (p ∷ ps) rs q u h (inl k) = q.0 u k (among_more ps rs u (inl h))
  gone (p ∷ ps) rs q u h (inr k) = gone ps rs q.1 u h k

-- Element x was put into xs, which gave ys.
record Put (x : Element) (xs ys : List Element) : Type 0 where
  before : List Element
  after : List Element
  was : xs ≡ before ++ after
  is : ys ≡ before ++ x ∷ after

module _ (x : Element) (xs ys : List Element) (p : Put x xs ys) where
  nodes : (u : ℕ) → Among ys u ↔ (Bears x u ⊎ Among xs u)
  nodes u = (
    λ h. subst (λ l. Bears x u ⊎ Among l u) (sym p.was) (among_less x p.before p.after u (subst (λ l. Among l u) p.is h)),
    λ h. subst (λ l. Among l u) (sym p.is) (among_more x p.before p.after u (subst (λ l. Bears x u ⊎ Among l u) p.was h)),
  )

  unique_put : ((u : ℕ) → Bears x u → Among xs u → ⊥) → Unique xs → Unique ys
  unique_put fresh q =
      subst Unique (sym p.is) (unique_more x p.before p.after (λ u h k. fresh u h (subst (λ l. Among l u) (sym p.was) k)) (subst Unique p.was q))

  unique_taken : Unique ys → Unique xs
  unique_taken q = subst Unique (sym p.was) (unique_less x p.before p.after (subst Unique p.is q))

  taken : Unique ys → (u : ℕ) → Bears x u → Among xs u → ⊥
  taken q u h k = gone x p.before p.after (subst Unique p.is q) u h (subst (λ l. Among l u) p.was k)

put_in : (a g : ℕ) (xs : List Element) → Put (Activity a) xs (row_after (Insert a g) xs)
put_in a g xs = record { before = take g xs; after = drop g xs; was = sym (take-append-drop g xs); is = refl }

-- where an activity stands
pub found : (xs : List Element) (a : ℕ) → has_activity xs a ≡ true → (ps rs : List Element) × (xs ≡ ps ++ Activity a ∷ rs)
found [] a h = absurd (false≢true h)
found (x ∷ xs) a h = go (is_activity x a) refl (found xs a) h
  where
    here : (x : Element) → is_activity x a ≡ true → x ≡ Activity a
    here (Activity i) e = ap Activity (sym (eqb-true a i e))
    here AndSplit e = absurd (false≢true e)
    here Bar e = absurd (false≢true e)
    here AndJoin e = absurd (false≢true e)
    here (XorSplit i) e = absurd (false≢true e)
    here XorJoin e = absurd (false≢true e)
    here LoopStart e = absurd (false≢true e)
    here (LoopEnd i) e = absurd (false≢true e)

    go : (b : Bool) → is_activity x a ≡ b → (has_activity xs a ≡ true → (ps rs : List Element) × (xs ≡ ps ++ Activity a ∷ rs))
        → (b || has_activity xs a) ≡ true → (ps rs : List Element) × (x ∷ xs ≡ ps ++ Activity a ∷ rs)
    go true e f k = ([], xs, ap (λ y. y ∷ xs) (here x e))
    go false e f k = let r = f k in (x ∷ r.0, r.1, ap (λ l. x ∷ l) r.2)

-- a delete is an insert read backwards
put_back : (a : ℕ) (xs : List Element) → Suits (Delete a) xs → Put (Activity a) (row_after (Delete a) xs) xs
put_back a xs s =
    let f = found xs a s.1 in
    record {
      before = f.0;
      after = f.1;
      was = ap (row_after (Delete a)) f.2 ∙ left a f.0 f.1 (subst Unique f.2 s.0);
      is = f.2;
    }

-- an activity beside items: four elements are put in, one by one
module _ (a b c : ℕ) (xs : List Element) (order : b ≤ c) where
  abbrev front : List Element
  front = take b xs ++ stretch b c xs

  abbrev joined : List Element
  joined = front ++ AndJoin ∷ drop c xs

  abbrev with_activity : List Element
  with_activity = front ++ Activity a ∷ AndJoin ∷ drop c xs

  abbrev with_bar : List Element
  with_bar = front ++ Bar ∷ Activity a ∷ AndJoin ∷ drop c xs

  join : Put AndJoin xs joined
  join = record {
    before = front;
    after = drop c xs;
    was = sym (take-append-drop b xs) ∙ ap (λ l. take b xs ++ l) (parted xs b c order) ∙ sym (append_assoc (take b xs) (stretch b c xs) (drop c xs));
    is = refl;
  }

  activity : Put (Activity a) joined with_activity
  activity = record { before = front; after = AndJoin ∷ drop c xs; was = refl; is = refl }

  bar : Put Bar with_activity with_bar
  bar = record { before = front; after = Activity a ∷ AndJoin ∷ drop c xs; was = refl; is = refl }

  split : Put AndSplit with_bar (row_after (InsertBeside a b c) xs)
  split = record {
    before = take b xs;
    after = stretch b c xs ++ Bar ∷ Activity a ∷ AndJoin ∷ drop c xs;
    was = append_assoc (take b xs) (stretch b c xs) (Bar ∷ Activity a ∷ AndJoin ∷ drop c xs);
    is = refl;
  }

  all_nodes : (u : ℕ) → Among (row_after (InsertBeside a b c) xs) u ↔ ((u ≡ a) ⊎ Among xs u)
  all_nodes u = (
    λ h. none (λ k. elim ((nodes _ _ _ activity u).0 (none (λ k. k) ((nodes _ _ _ bar u).0 k))) [
      | inl m ↦ inl m
      | inr m ↦ inr (none (λ k. k) ((nodes _ _ _ join u).0 m))
    ]) ((nodes _ _ _ split u).0 h),
    λ h. (nodes _ _ _ split u).1 (inr ((nodes _ _ _ bar u).1 (inr ((nodes _ _ _ activity u).1 (elim h [
      | inl k ↦ inl k
      | inr k ↦ inr ((nodes _ _ _ join u).1 (inr k))
    ]))))),
  )
    where
      none : {A B : Type 0} → (A → B) → ⊥ ⊎ A → B
      none f (inl h) = absurd h
      none f (inr h) = f h

  all_unique : (Among xs a → ⊥) → Unique xs → Unique (row_after (InsertBeside a b c) xs)
  all_unique fresh q =
      unique_put _ _ _ split (λ u h. absurd h)
      (unique_put _ _ _ bar (λ u h. absurd h)
      (unique_put _ _ _ activity
      (λ u h k. elim ((nodes _ _ _ join u).0 k) [
        | inl m ↦ m
        | inr m ↦ fresh (subst (Among xs) h m)
      ])
      (unique_put _ _ _ join (λ u h. absurd h) q)))

unchanged : {A : Type 0} → A ↔ ((A × Unit {0}) ⊎ ⊥)
unchanged = (
  λ h. inl (h, tt),
  λ h. elim h [
    | inl k ↦ k.0
    | inr k ↦ absurd k
  ],
)

one_new : {A B C : Type 0} → C ↔ (B ⊎ A) → C ↔ ((A × Unit {0}) ⊎ B)
one_new e = (
  λ h. elim (e.0 h) [
    | inl k ↦ inr k
    | inr k ↦ inl (k, tt)
  ],
  λ h. e.1 (elim h [
    | inl k ↦ inr k.0
    | inr k ↦ inl k
  ]),
)

pub remain_or_new : NodesRemainOrAreNew
remain_or_new (DropEdge e) xs u s = unchanged
remain_or_new (Delete a) xs u s =
    let p = put_back a xs s in (
      λ h. inl ((nodes _ _ _ p u).1 (inr h), λ e. taken _ _ _ p s.0 u e h),
      λ h. elim h [
        | inl k ↦ elim ((nodes _ _ _ p u).0 k.0) [
          | inl m ↦ absurd (k.1 m)
          | inr m ↦ m
        ]
        | inr k ↦ absurd k
      ],
    )
remain_or_new (Insert a g) xs u s = one_new (nodes _ _ _ (put_in a g xs) u)
remain_or_new (InsertBeside a b c) xs u s = one_new (all_nodes a b c xs (omega (arith, s.0)) u)
remain_or_new (AddEdge e) xs u s = unchanged

pub unique_again : IdsStayUnique
unique_again (DropEdge e) xs s fresh q = q
unique_again (Delete a) xs s fresh q = unique_taken _ _ _ (put_back a xs s) q
unique_again (Insert a g) xs s fresh q = unique_put _ _ _ (put_in a g xs) fresh q
unique_again (InsertBeside a b c) xs s fresh q = all_unique a b c xs (omega (arith, s.0)) (fresh a refl) q
unique_again (AddEdge e) xs s fresh q = q
