-- Where an activity is put in, and where it is taken out, the other nodes stand to one another as before. Assumes nothing.
use Rattle.std.proofs.Common.{◌≡◌, ℕ, ◌⊎◌, sym, subst, inr, arith}
use Rattle.model.specs.Trees.{Seq, nil, cons, activity}
use Rattle.model.specs.Relations.{In, Beside, Level, Looped}
use Rattle.edges.proofs.TreeOrder.{Before}
use Rattle.changes.specs.Changed.{InFront, followed_by, beside, Gathered}
use Rattle.draft_rules.proofs.RelationsKept.{Kept, Back}

-- the nodes of items that follow others
module _ (r : Seq) (x : ℕ) where
  in_parts : (m : Seq) → In (followed_by m r) x → In m x ⊎ In r x
  in_parts nil h = inr h
  in_parts (cons p m) h = grind (arith, h, in_parts m)

  in_whole : (m : Seq) → In m x ⊎ In r x → In (followed_by m r) x
  in_whole nil h = grind (arith, h)
  in_whole (cons p m) h = grind (arith, h, in_whole m)

  level_parts : (m : Seq) → Level (followed_by m r) x → Level m x ⊎ Level r x
  level_parts nil h = inr h
  level_parts (cons p m) h = grind (arith, h, level_parts m)

  level_whole : (m : Seq) → Level m x ⊎ Level r x → Level (followed_by m r) x
  level_whole nil h = grind (arith, h)
  level_whole (cons p m) h = grind (arith, h, level_whole m)

module _ (r : Seq) (x y : ℕ) where
  before_parts : (m : Seq) → Before (followed_by m r) x y → Before m x y ⊎ ((In m x × In r y) ⊎ Before r x y)
  before_parts nil h = inr (inr h)
  before_parts (cons p m) h = grind (arith, h, before_parts m, in_parts r y m)

  before_whole : (m : Seq) → Before m x y ⊎ ((In m x × In r y) ⊎ Before r x y) → Before (followed_by m r) x y
  before_whole nil h = grind (arith, h)
  before_whole (cons p m) h = grind (arith, h, before_whole m, in_whole r y m)

  beside_parts : (m : Seq) → Beside (followed_by m r) x y → Beside m x y ⊎ Beside r x y
  beside_parts nil h = inr h
  beside_parts (cons p m) h = grind (arith, h, beside_parts m)

  beside_whole : (m : Seq) → Beside m x y ⊎ Beside r x y → Beside (followed_by m r) x y
  beside_whole nil h = grind (arith, h)
  beside_whole (cons p m) h = grind (arith, h, beside_whole m)

  looped_parts : (m : Seq) → Looped (followed_by m r) x y → Looped m x y ⊎ Looped r x y
  looped_parts nil h = inr h
  looped_parts (cons p m) h = grind (arith, h, looped_parts m)

  looped_whole : (m : Seq) → Looped m x y ⊎ Looped r x y → Looped (followed_by m r) x y
  looped_whole nil h = grind (arith, h)
  looped_whole (cons p m) h = grind (arith, h, looped_whole m)

module _ (a x y : ℕ) where
  -- in front of the items of a sequence
  pub in_front : (t u : Seq) → InFront a t u → Kept x y t u
  in_front t u e = subst (Kept x y t) (sym e) (record {
    first_in = inr;
    second_in = inr;
    before = λ h. inr (inr h);
    beside = inr;
    first_level = inr;
    second_level = inr;
    looped = inr;
  })

  -- beside items
  items : (m r : Seq) → Kept x y (followed_by m r) (cons (beside m a) r)
  items m r = record {
    first_in = λ h. grind (arith, in_parts r x m h);
    second_in = λ h. grind (arith, in_parts r y m h);
    before = λ h. grind (arith, before_parts r x y m h);
    beside = λ h. grind (arith, beside_parts r x y m h);
    first_level = λ h. grind (arith, level_parts r x m h);
    second_level = λ h. grind (arith, level_parts r y m h);
    looped = λ h. grind (arith, looped_parts r x y m h);
  }

  pub gathered : (n : ℕ) (t u : Seq) → Gathered a n t u → Kept x y t u
  gathered n t u (m, r, long, was, is) = subst (Kept x y t) (sym is) (subst (λ s. Kept x y s (cons (beside m a) r)) (sym was) (items m r))

  module _ (other_x : x ≡ a → ⊥) (other_y : y ≡ a → ⊥) where
    -- the same read backwards, for other nodes than the activity
    behind : (t : Seq) → Kept x y (cons (activity a) t) t
    behind t = record {
      first_in = λ h. grind (arith, h, other_x);
      second_in = λ h. grind (arith, h, other_y);
      before = λ h. grind (arith, h, other_x);
      beside = λ h. grind (arith, h);
      first_level = λ h. grind (arith, h, other_x);
      second_level = λ h. grind (arith, h, other_y);
      looped = λ h. grind (arith, h);
    }

    pub no_longer_in_front : (t u : Seq) → Back (InFront a) t u → Kept x y t u
    no_longer_in_front t u e = subst (λ s. Kept x y s u) (sym e) (behind u)

    apart : (m r : Seq) → Kept x y (cons (beside m a) r) (followed_by m r)
    apart m r = record {
      first_in = λ h. grind (arith, h, in_whole r x m, other_x);
      second_in = λ h. grind (arith, h, in_whole r y m, other_y);
      before = λ h. grind (arith, h, before_whole r x y m, other_x);
      beside = λ h. grind (arith, h, beside_whole r x y m, other_y);
      first_level = λ h. grind (arith, h, level_whole r x m, other_x);
      second_level = λ h. grind (arith, h, level_whole r y m, other_y);
      looped = λ h. grind (arith, h, looped_whole r x y m);
    }

    pub no_longer_gathered : (n : ℕ) (t u : Seq) → Back (Gathered a n) t u → Kept x y t u
    no_longer_gathered n t u (m, r, long, was, is) = subst (λ s. Kept x y s u) (sym is) (subst (Kept x y (cons (beside m a) r)) (sym was) (apart m r))
