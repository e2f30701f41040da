-- Blocks keep their number of branches. Assumes nothing.
use Rattle.std.proofs.Common.{◌≡◌, ℕ, ◌+◌, refl, ap, subst}
use Rattle.model.specs.Trees.{Seq, Item, Branches, count, Width, Wide, WideItem, WideBranches}
use Rattle.changes.specs.Changed.{Changed, here, in_item, later, ChangedItem, in_loop, in_and, in_xor, ChangedBranches, in_last, in_first, in_later}

module _ (R : Seq → Seq → Type 0) where
  pub same_count : (g : ℕ) (b c : Branches) → ChangedBranches R g b c → count b ≡ count c
  same_count _ _ _ (in_last h) = refl
  same_count _ _ _ (in_first h) = refl
  same_count _ _ _ (in_later {g = g} {b = b} {c = c} h) = ap (λ k. 1 + k) (same_count g b c h)

  module _ (keeps : (t u : Seq) → R t u → Wide t → Wide u) where
    mutual
      pub wide : (g : ℕ) (t u : Seq) → Changed R g t u → Wide t → Wide u
      wide _ _ _ (here {t = t} {u = u} h) w = keeps t u h w
      wide _ _ _ (in_item {g = g} {x = x} {y = y} h) w = (wide_item g x y h w.0, w.1)
      wide _ _ _ (later {g = g} {t = t} {u = u} h) w = (w.0, wide g t u h w.1)

      wide_item : (g : ℕ) (x y : Item) → ChangedItem R g x y → WideItem x → WideItem y
      wide_item _ _ _ (in_loop {g = g} {t = t} {u = u} h) w = wide g t u h w
      wide_item _ _ _ (in_and {g = g} {b = b} {c = c} h) w = (subst Width (same_count g b c h) w.0, wide_branches g b c h w.1)
      wide_item _ _ _ (in_xor {g = g} {b = b} {c = c} h) w = (subst Width (same_count g b c h) w.0, wide_branches g b c h w.1)

      wide_branches : (g : ℕ) (b c : Branches) → ChangedBranches R g b c → WideBranches b → WideBranches c
      wide_branches _ _ _ (in_last {g = g} {t = t} {u = u} h) w = wide g t u h w
      wide_branches _ _ _ (in_first {g = g} {t = t} {u = u} h) w = (wide g t u h w.0, w.1)
      wide_branches _ _ _ (in_later {g = g} {b = b} {c = c} h) w = (w.0, wide_branches g b c h w.1)
