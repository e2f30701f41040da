-- A changed tree has the nodes of the tree, but for the new activity. Assumes nothing.
use Rattle.std.proofs.Common.{◌≡◌, ℕ, ◌<◌, ◌⊎◌, ◌↔◌, sym, refl, subst, inl, inr}
use Rattle.model.specs.declared.Entry.{Entry}
use Rattle.model.specs.declared.Entry.TheVariants.{Start, End, Choose, Leave}
use Rattle.model.specs.Entries.{entry_id}
use Rattle.model.specs.Nodes.{Holds, HoldsItem, HoldsBranches, HasNode}
use Rattle.model.specs.Trees.{Seq, nil, cons, Item, activity, loop, and, xor, Branches, count}
use Rattle.changes.proofs.Widths.{same_count}
use Rattle.changes.specs.Changed.{Changed, here, in_item, later, ChangedItem, in_loop, in_and, in_xor, ChangedBranches, in_last, in_first, in_later, InFront, followed_by, beside, Gathered}

-- the item is the node of the step
abbrev pub IsNode : Entry → Item → Type 0
IsNode (Start i) (activity j) = i ≡ j
IsNode (Start i) (loop t j) = ⊥
IsNode (Start i) (and b) = ⊥
IsNode (Start i) (xor j b) = ⊥
IsNode (End i) (activity j) = i ≡ j
IsNode (End i) (loop t j) = ⊥
IsNode (End i) (and b) = ⊥
IsNode (End i) (xor j b) = ⊥
IsNode (Choose i n) (activity j) = ⊥
IsNode (Choose i n) (loop t j) = ⊥
IsNode (Choose i n) (and b) = ⊥
IsNode (Choose i n) (xor j b) = (i ≡ j) × (n < count b)
IsNode (Leave i) (activity j) = ⊥
IsNode (Leave i) (loop t j) = i ≡ j
IsNode (Leave i) (and b) = ⊥
IsNode (Leave i) (xor j b) = ⊥

-- an item of the tree is the node of the step; the item or one in it is; one in the branches is
abbrev pub NodeIn : Entry → Seq → Type 0
NodeIn e t = (x : Item) × Holds t x × IsNode e x

abbrev pub NodeAt : Entry → Item → Type 0
NodeAt e y = (x : Item) × ((x ≡ y) ⊎ HoldsItem y x) × IsNode e x

abbrev pub NodeAmong : Entry → Branches → Type 0
NodeAmong e b = (x : Item) × HoldsBranches b x × IsNode e x

has_in : (e : Entry) (t : Seq) → HasNode t e → NodeIn e t
has_in (Start i) t h = (activity i, h, refl)
has_in (End i) t h = (activity i, h, refl)
has_in (Choose i n) t (b, h, l) = (xor i b, h, (refl, l))
has_in (Leave i) t (u, h) = (loop u i, h, refl)

in_has : (e : Entry) (t : Seq) → NodeIn e t → HasNode t e
in_has e t s = go e s.0 s.1 s.2
  where
    go : (e : Entry) (x : Item) → Holds t x → IsNode e x → HasNode t e
    go (Start i) (activity j) h k = subst (λ n. Holds t (activity n)) (sym k) h
    go (Start i) (loop u j) h k = elim k [ ]
    go (Start i) (and b) h k = elim k [ ]
    go (Start i) (xor j b) h k = elim k [ ]
    go (End i) (activity j) h k = subst (λ n. Holds t (activity n)) (sym k) h
    go (End i) (loop u j) h k = elim k [ ]
    go (End i) (and b) h k = elim k [ ]
    go (End i) (xor j b) h k = elim k [ ]
    go (Choose i n) (activity j) h k = elim k [ ]
    go (Choose i n) (loop u j) h k = elim k [ ]
    go (Choose i n) (and b) h k = elim k [ ]
    go (Choose i n) (xor j b) h k = (b, subst (λ m. Holds t (xor m b)) (sym k.0) h, k.1)
    go (Leave i) (activity j) h k = elim k [ ]
    go (Leave i) (loop u j) h k = (u, subst (λ n. Holds t (loop u n)) (sym k) h)
    go (Leave i) (and b) h k = elim k [ ]
    go (Leave i) (xor j b) h k = elim k [ ]

-- a change and the same read backwards
abbrev pub Back : (Seq → Seq → Type 0) → Seq → Seq → Type 0
Back R t u = R u t

module _ (R : Seq → Seq → Type 0) where
  mutual
    pub flipped : (g : ℕ) (t u : Seq) → Changed R g t u → Changed (Back R) g u t
    flipped _ _ _ (here {t = t} {u = u} h) = here h
    flipped _ _ _ (in_item {g = g} {x = x} {y = y} h) = in_item (flipped_item g x y h)
    flipped _ _ _ (later {g = g} {x = x} {t = t} {u = u} h) = later (flipped g t u h)

    flipped_item : (g : ℕ) (x y : Item) → ChangedItem R g x y → ChangedItem (Back R) g y x
    flipped_item _ _ _ (in_loop {g = g} {t = t} {u = u} h) = in_loop (flipped g t u h)
    flipped_item _ _ _ (in_and {g = g} {b = b} {c = c} h) = in_and (flipped_branches g b c h)
    flipped_item _ _ _ (in_xor {g = g} {b = b} {c = c} h) = in_xor (flipped_branches g b c h)

    flipped_branches : (g : ℕ) (b c : Branches) → ChangedBranches R g b c → ChangedBranches (Back R) g c b
    flipped_branches _ _ _ (in_last {g = g} {t = t} {u = u} h) = in_last (flipped g t u h)
    flipped_branches _ _ _ (in_first {g = g} {t = t} {u = u} h) = in_first (flipped g t u h)
    flipped_branches _ _ _ (in_later {g = g} {b = b} {c = c} h) = in_later (flipped_branches g b c h)

  -- what changes in an item does not change which node it is
  stays_node : (e : Entry) (g : ℕ) (x y : Item) → ChangedItem R g x y → IsNode e x → IsNode e y
  stays_node (Start i) _ _ _ (in_loop h) k = k
  stays_node (Start i) _ _ _ (in_and h) k = k
  stays_node (Start i) _ _ _ (in_xor h) k = k
  stays_node (End i) _ _ _ (in_loop h) k = k
  stays_node (End i) _ _ _ (in_and h) k = k
  stays_node (End i) _ _ _ (in_xor h) k = k
  stays_node (Choose i n) _ _ _ (in_loop h) k = k
  stays_node (Choose i n) _ _ _ (in_and h) k = k
  stays_node (Choose i n) _ _ _ (in_xor {g = g} {b = b} {c = c} h) k = (k.0, subst (λ m. n < m) (same_count R g b c h) k.1)
  stays_node (Leave i) _ _ _ (in_loop h) k = k
  stays_node (Leave i) _ _ _ (in_and h) k = k
  stays_node (Leave i) _ _ _ (in_xor h) k = k

  module _ (e : Entry) (keeps : (t u : Seq) → R t u → NodeIn e t → NodeIn e u) where
    mutual
      pub moved : (g : ℕ) (t u : Seq) → Changed R g t u → NodeIn e t → NodeIn e u
      moved _ _ _ (here {t = t} {u = u} h) s = keeps t u h s
      moved _ _ _ (in_item {g = g} {x = x} {y = y} {t = t} h) (z, inl k, n) = let r = moved_item g x y h (z, k, n) in (r.0, inl r.1, r.2)
      moved _ _ _ (in_item {g = g} {x = x} {y = y} {t = t} h) (z, inr k, n) = (z, inr k, n)
      moved _ _ _ (later {g = g} {x = x} {t = t} {u = u} h) (z, inl k, n) = (z, inl k, n)
      moved _ _ _ (later {g = g} {x = x} {t = t} {u = u} h) (z, inr k, n) = let r = moved g t u h (z, k, n) in (r.0, inr r.1, r.2)

      moved_item : (g : ℕ) (x y : Item) → ChangedItem R g x y → NodeAt e x → NodeAt e y
      moved_item g x y h (z, inl k, n) = (y, inl refl, stays_node e g x y h (subst (IsNode e) k n))
      moved_item _ _ _ (in_loop {g = g} {t = t} {u = u} h) (z, inr k, n) = let r = moved g t u h (z, k, n) in (r.0, inr r.1, r.2)
      moved_item _ _ _ (in_and {g = g} {b = b} {c = c} h) (z, inr k, n) = let r = moved_branches g b c h (z, k, n) in (r.0, inr r.1, r.2)
      moved_item _ _ _ (in_xor {g = g} {b = b} {c = c} h) (z, inr k, n) = let r = moved_branches g b c h (z, k, n) in (r.0, inr r.1, r.2)

      moved_branches : (g : ℕ) (b c : Branches) → ChangedBranches R g b c → NodeAmong e b → NodeAmong e c
      moved_branches _ _ _ (in_last {g = g} {t = t} {u = u} h) s = moved g t u h s
      moved_branches _ _ _ (in_first {g = g} {t = t} {u = u} {b = b} h) (z, inl k, n) = let r = moved g t u h (z, k, n) in (r.0, inl r.1, r.2)
      moved_branches _ _ _ (in_first {g = g} {t = t} {u = u} {b = b} h) (z, inr k, n) = (z, inr k, n)
      moved_branches _ _ _ (in_later {g = g} {t = t} {b = b} {c = c} h) (z, inl k, n) = (z, inl k, n)
      moved_branches _ _ _ (in_later {g = g} {t = t} {b = b} {c = c} h) (z, inr k, n) = let r = moved_branches g b c h (z, k, n) in (r.0, inr r.1, r.2)

-- an activity is the node of its own steps only
own_steps : (e : Entry) (a : ℕ) → IsNode e (activity a) → entry_id e ≡ a
own_steps (Start i) a k = k
own_steps (End i) a k = k
own_steps (Choose i n) a k = elim k [ ]
own_steps (Leave i) a k = elim k [ ]

and_no_step : {P : Type 0} (e : Entry) (b : Branches) → IsNode e (and b) → P
and_no_step (Start i) b k = elim k [ ]
and_no_step (End i) b k = elim k [ ]
and_no_step (Choose i n) b k = elim k [ ]
and_no_step (Leave i) b k = elim k [ ]

-- what stands in items one after the other
held_first : (m r : Seq) (x : Item) → Holds m x → Holds (followed_by m r) x
held_first nil r x h = elim h [ ]
held_first (cons y m) r x (inl h) = inl h
held_first (cons y m) r x (inr h) = inr (held_first m r x h)

held_last : (m r : Seq) (x : Item) → Holds r x → Holds (followed_by m r) x
held_last nil r x h = h
held_last (cons y m) r x h = inr (held_last m r x h)

held_either : (m r : Seq) (x : Item) → Holds (followed_by m r) x → Holds m x ⊎ Holds r x
held_either nil r x h = inr h
held_either (cons y m) r x (inl h) = inl (inl h)
held_either (cons y m) r x (inr h) = elim (held_either m r x h) [
  | inl k ↦ inl (inr k)
  | inr k ↦ inr k
]

module _ (e : Entry) (a : ℕ) (other : entry_id e ≡ a → ⊥) where
  kept_in_front : (t u : Seq) → InFront a t u → NodeIn e t → NodeIn e u
  kept_in_front t u q (x, h, k) = (x, subst (λ v. Holds v x) (sym q) (inr h), k)

  was_behind : (u t : Seq) → Back (InFront a) u t → NodeIn e u → NodeIn e t
  was_behind u t q (x, h, k) = go (subst (λ v. Holds v x) q h)
    where
      go : Holds (cons (activity a) t) x → NodeIn e t
      go (inl (inl i)) = absurd (other (own_steps e a (subst (IsNode e) i k)))
      go (inl (inr i)) = elim i [ ]
      go (inr i) = (x, i, k)

  kept_gathered : (n : ℕ) (t u : Seq) → Gathered a n t u → NodeIn e t → NodeIn e u
  kept_gathered n t u q (x, h, k) = (x, subst (λ v. Holds v x) (sym q.4) (go (held_either q.0 q.1 x (subst (λ v. Holds v x) q.3 h))), k)
    where
      go : Holds q.0 x ⊎ Holds q.1 x → Holds (cons (beside q.0 a) q.1) x
      go (inl i) = inl (inr (inl i))
      go (inr i) = inr i

  was_gathered : (n : ℕ) (u t : Seq) → Back (Gathered a n) u t → NodeIn e u → NodeIn e t
  was_gathered n u t q (x, h, k) = (x, subst (λ v. Holds v x) (sym q.3) (go (subst (λ v. Holds v x) q.4 h)), k)
    where
      go : Holds (cons (beside q.0 a) q.1) x → Holds (followed_by q.0 q.1) x
      go (inl (inl i)) = and_no_step e _ (subst (IsNode e) i k)
      go (inl (inr (inl i))) = held_first q.0 q.1 x i
      go (inl (inr (inr (inl (inl i))))) = absurd (other (own_steps e a (subst (IsNode e) i k)))
      go (inl (inr (inr (inl (inr i))))) = elim i [ ]
      go (inl (inr (inr (inr i)))) = elim i [ ]
      go (inr i) = held_last q.0 q.1 x i

  -- steps of other nodes find their node after a change as before it
  pub inserted_has : (g : ℕ) (t u : Seq) → Changed (InFront a) g t u → HasNode t e ↔ HasNode u e
  inserted_has g t u h = (
    λ n. in_has e u (moved (InFront a) e kept_in_front g t u h (has_in e t n)),
    λ n. in_has e t (moved (Back (InFront a)) e was_behind g u t (flipped (InFront a) g t u h) (has_in e u n)),
  )

  pub wrapped_has : (b n : ℕ) (t u : Seq) → Changed (Gathered a n) b t u → HasNode t e ↔ HasNode u e
  wrapped_has b n t u h = (
    λ k. in_has e u (moved (Gathered a n) e (kept_gathered n) b t u h (has_in e t k)),
    λ k. in_has e t (moved (Back (Gathered a n)) e (was_gathered n) b u t (flipped (Gathered a n) b t u h) (has_in e u k)),
  )
