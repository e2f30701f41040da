-- What the changes of a row do to its tree. Assumes nothing.
--   Changed R g t u      in one sequence of t, what stands from gap g on was changed as R says; u is the tree after it
--   Inserted a g t u     activity a was put in at gap g
--   Removed a t u        activity a was taken out
--   Wrapped a b c t u    the items from gap b to gap c became branch 0 of a new AND block, activity a its branch 1
-- A gap counts the elements before it in the row of the tree. It lies between two items of a sequence, before the first
-- or behind the last, or in an empty branch.
use Rattle.std.specs.Prelude.{◌≡◌, ℕ, ◌+◌, ◌-◌, [], length}
use Rattle.model.specs.Trees.{Seq, nil, cons, Item, activity, loop, and, xor, Branches, last, bar, spell_item, flatten}

-- Nothing else differs: neither what stands earlier in that sequence nor what lies around it.
mutual
  pub data Changed (R : Seq → Seq → Type 0) : ℕ → Seq → Seq → Type 0 where
    here : {t u : Seq} → R t u → Changed R 0 t u
    in_item : {g : ℕ} {x y : Item} {t : Seq} → ChangedItem R g x y → Changed R g (cons x t) (cons y t)
    later : {g : ℕ} {x : Item} {t u : Seq} → Changed R g t u → Changed R (length (spell_item x []) + g) (cons x t) (cons x u)

  pub data ChangedItem (R : Seq → Seq → Type 0) : ℕ → Item → Item → Type 0 where
    in_loop : {g i : ℕ} {t u : Seq} → Changed R g t u → ChangedItem R (1 + g) (loop t i) (loop u i)
    in_and : {g : ℕ} {b c : Branches} → ChangedBranches R g b c → ChangedItem R (1 + g) (and b) (and c)
    in_xor : {g i : ℕ} {b c : Branches} → ChangedBranches R g b c → ChangedItem R (1 + g) (xor i b) (xor i c)

  pub data ChangedBranches (R : Seq → Seq → Type 0) : ℕ → Branches → Branches → Type 0 where
    in_last : {g : ℕ} {t u : Seq} → Changed R g t u → ChangedBranches R g (last t) (last u)
    in_first : {g : ℕ} {t u : Seq} {b : Branches} → Changed R g t u → ChangedBranches R g (bar t b) (bar u b)
    in_later : {g : ℕ} {t : Seq} {b c : Branches} → ChangedBranches R g b c
        → ChangedBranches R (length (flatten t) + 1 + g) (bar t b) (bar t c)

-- The activity stands first now, and then what stood there before.
abbrev pub InFront : ℕ → Seq → Seq → Type 0
InFront a t u = u ≡ cons (activity a) t

abbrev pub Inserted : ℕ → ℕ → Seq → Seq → Type 0
Inserted a g t u = Changed (InFront a) g t u

abbrev pub Removed : ℕ → Seq → Seq → Type 0
Removed a t u = (g : ℕ) × Changed (λ r s. InFront a s r) g t u

-- The items of t, and then those of u.
abbrev pub followed_by : Seq → Seq → Seq
followed_by nil u = u
followed_by (cons x t) u = cons x (followed_by t u)

-- The AND block with these items in branch 0 and the activity in branch 1.
abbrev pub beside : Seq → ℕ → Item
beside t a = and (bar t (last (cons (activity a) nil)))

-- The first items, which have n elements, stand in that block now.
abbrev pub Gathered : ℕ → ℕ → Seq → Seq → Type 0
Gathered a n t u = (m r : Seq) × (length (flatten m) ≡ n) × (t ≡ followed_by m r) × (u ≡ cons (beside m a) r)

abbrev pub Wrapped : ℕ → ℕ → ℕ → Seq → Seq → Type 0
Wrapped a b c t u = Changed (Gathered a (c - b)) b t u
