-- A change in one sequence of a tree keeps how two nodes stand to one another, if it keeps that there. Assumes nothing.
use Rattle.std.proofs.Common.{ℕ, ◌⊎◌, inl, inr}
use Rattle.model.specs.Trees.{Seq, cons, Item, loop, and, xor, Branches, last, bar}
use Rattle.model.specs.Relations.{In, InItem, InBranches, Beside, BesideItem, BesideBranches, Across, Level, LevelItem, LevelBranches, Looped, LoopedItem, LoopedBranches}
use Rattle.edges.proofs.TreeOrder.{Before, BeforeItem, BeforeBranches}
use Rattle.changes.specs.Changed.{Changed, here, in_item, later, ChangedItem, in_loop, in_and, in_xor, ChangedBranches, in_last, in_first, in_later}

either : {A B C D : Type 0} → (A → C) → (B → D) → A ⊎ B → C ⊎ D
either f g (inl h) = inl (f h)
either f g (inr h) = inr (g h)

both : {A B C D : Type 0} → (A → C) → (B → D) → A × B → C × D
both f g h = (f h.0, g h.1)

same : {A : Type 0} → A → A
same h = h

module _ (x y : ℕ) where
  -- what holds of x and y in t holds in u
  pub record Kept (t u : Seq) : Type 0 where
    pub first_in : In t x → In u x
    pub second_in : In t y → In u y
    pub before : Before t x y → Before u x y
    pub beside : Beside t x y → Beside u x y
    pub first_level : Level t x → Level u x
    pub second_level : Level t y → Level u y
    pub looped : Looped t x y → Looped u x y

  record KeptItem (p q : Item) : Type 0 where
    first_in : InItem p x → InItem q x
    second_in : InItem p y → InItem q y
    before : BeforeItem p x y → BeforeItem q x y
    beside : BesideItem p x y → BesideItem q x y
    first_level : LevelItem p x → LevelItem q x
    second_level : LevelItem p y → LevelItem q y
    looped : LoopedItem p x y → LoopedItem q x y

  record KeptBranches (b c : Branches) : Type 0 where
    first_in : InBranches b x → InBranches c x
    second_in : InBranches b y → InBranches c y
    before : BeforeBranches b x y → BeforeBranches c x y
    beside : BesideBranches b x y → BesideBranches c x y
    across : Across b x y → Across c x y
    first_level : LevelBranches b x → LevelBranches c x
    second_level : LevelBranches b y → LevelBranches c y
    looped : LoopedBranches b x y → LoopedBranches c x y

  kept_in_item : (p q : Item) (t : Seq) → KeptItem p q → Kept (cons p t) (cons q t)
  kept_in_item p q t k = record {
    first_in = either k.first_in same;
    second_in = either k.second_in same;
    before = either k.before (either (both k.first_in same) same);
    beside = either k.beside same;
    first_level = either k.first_level same;
    second_level = either k.second_level same;
    looped = either k.looped same;
  }

  pub kept_later : (p : Item) (t u : Seq) → Kept t u → Kept (cons p t) (cons p u)
  kept_later p t u k = record {
    first_in = either same k.first_in;
    second_in = either same k.second_in;
    before = either same (either (both same k.second_in) k.before);
    beside = either same k.beside;
    first_level = either same k.first_level;
    second_level = either same k.second_level;
    looped = either same k.looped;
  }

  kept_in_loop : (i : ℕ) (t u : Seq) → Kept t u → KeptItem (loop t i) (loop u i)
  kept_in_loop i t u k = record {
    first_in = either k.first_in same;
    second_in = either k.second_in same;
    before = either k.before (both k.first_in same);
    beside = k.beside;
    first_level = same;
    second_level = same;
    looped = either (both k.first_level k.second_level) k.looped;
  }

  kept_in_and : (b c : Branches) → KeptBranches b c → KeptItem (and b) (and c)
  kept_in_and b c k = record {
    first_in = k.first_in;
    second_in = k.second_in;
    before = k.before;
    beside = either k.across k.beside;
    first_level = k.first_level;
    second_level = k.second_level;
    looped = k.looped;
  }

  kept_in_xor : (i : ℕ) (b c : Branches) → KeptBranches b c → KeptItem (xor i b) (xor i c)
  kept_in_xor i b c k = record {
    first_in = either same k.first_in;
    second_in = either same k.second_in;
    before = either (both same k.second_in) k.before;
    beside = k.beside;
    first_level = k.first_level;
    second_level = k.second_level;
    looped = k.looped;
  }

  kept_in_last : (t u : Seq) → Kept t u → KeptBranches (last t) (last u)
  kept_in_last t u k = record {
    first_in = k.first_in;
    second_in = k.second_in;
    before = k.before;
    beside = k.beside;
    across = same;
    first_level = k.first_level;
    second_level = k.second_level;
    looped = k.looped;
  }

  kept_in_first : (t u : Seq) (b : Branches) → Kept t u → KeptBranches (bar t b) (bar u b)
  kept_in_first t u b k = record {
    first_in = either k.first_in same;
    second_in = either k.second_in same;
    before = either k.before same;
    beside = either k.beside same;
    across = either (both k.first_in same) same;
    first_level = either k.first_level same;
    second_level = either k.second_level same;
    looped = either k.looped same;
  }

  kept_in_later : (t : Seq) (b c : Branches) → KeptBranches b c → KeptBranches (bar t b) (bar t c)
  kept_in_later t b c k = record {
    first_in = either same k.first_in;
    second_in = either same k.second_in;
    before = either same k.before;
    beside = either same k.beside;
    across = either (both same k.second_in) k.across;
    first_level = either same k.first_level;
    second_level = either same k.second_level;
    looped = either same k.looped;
  }

  module _ (R : Seq → Seq → Type 0) (keeps : (t u : Seq) → R t u → Kept t u) where
    mutual
      pub kept : (g : ℕ) (t u : Seq) → Changed R g t u → Kept t u
      kept _ _ _ (here {t = t} {u = u} h) = keeps t u h
      kept _ _ _ (in_item {g = g} {x = p} {y = q} {t = t} h) = kept_in_item p q t (kept_item g p q h)
      kept _ _ _ (later {g = g} {x = p} {t = t} {u = u} h) = kept_later p t u (kept g t u h)

      kept_item : (g : ℕ) (p q : Item) → ChangedItem R g p q → KeptItem p q
      kept_item _ _ _ (in_loop {g = g} {i = i} {t = t} {u = u} h) = kept_in_loop i t u (kept g t u h)
      kept_item _ _ _ (in_and {g = g} {b = b} {c = c} h) = kept_in_and b c (kept_branches g b c h)
      kept_item _ _ _ (in_xor {g = g} {i = i} {b = b} {c = c} h) = kept_in_xor i b c (kept_branches g b c h)

      kept_branches : (g : ℕ) (b c : Branches) → ChangedBranches R g b c → KeptBranches b c
      kept_branches _ _ _ (in_last {g = g} {t = t} {u = u} h) = kept_in_last t u (kept g t u h)
      kept_branches _ _ _ (in_first {g = g} {t = t} {u = u} {b = b} h) = kept_in_first t u b (kept g t u h)
      kept_branches _ _ _ (in_later {g = g} {t = t} {b = b} {c = c} h) = kept_in_later t b c (kept_branches g b c h)

-- A change read backwards.
module _ (R : Seq → Seq → Type 0) where
  abbrev pub Back : Seq → Seq → Type 0
  Back t u = R u t

  mutual
    pub turned : (g : ℕ) (t u : Seq) → Changed R g t u → Changed Back g u t
    turned _ _ _ (here h) = here h
    turned _ _ _ (in_item {g = g} {x = p} {y = q} h) = in_item (turned_item g p q h)
    turned _ _ _ (later {g = g} {t = t} {u = u} h) = later (turned g t u h)

    turned_item : (g : ℕ) (p q : Item) → ChangedItem R g p q → ChangedItem Back g q p
    turned_item _ _ _ (in_loop {g = g} {t = t} {u = u} h) = in_loop (turned g t u h)
    turned_item _ _ _ (in_and {g = g} {b = b} {c = c} h) = in_and (turned_branches g b c h)
    turned_item _ _ _ (in_xor {g = g} {b = b} {c = c} h) = in_xor (turned_branches g b c h)

    turned_branches : (g : ℕ) (b c : Branches) → ChangedBranches R g b c → ChangedBranches Back g c b
    turned_branches _ _ _ (in_last {g = g} {t = t} {u = u} h) = in_last (turned g t u h)
    turned_branches _ _ _ (in_first {g = g} {t = t} {u = u} h) = in_first (turned g t u h)
    turned_branches _ _ _ (in_later {g = g} {b = b} {c = c} h) = in_later (turned_branches g b c h)
