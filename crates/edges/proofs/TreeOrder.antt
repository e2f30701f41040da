-- Precedence and distinct ids, said over trees alone. Assumes nothing.
use Rattle.std.proofs.Common.{◌≡◌, ℕ, ◌<◌, ◌⊎◌}
use Rattle.model.specs.Trees.{Seq, nil, cons, Item, activity, loop, and, xor, Branches, last, bar}
use Rattle.model.specs.Relations.{In, InItem, InBranches}

-- u stands before v, and no block holds them in different branches.
abbrev mutual
  pub Before : Seq → ℕ → ℕ → Type 0
  Before nil u v = ⊥
  Before (cons x t) u v = BeforeItem x u v ⊎ ((InItem x u × In t v) ⊎ Before t u v)

  pub BeforeItem : Item → ℕ → ℕ → Type 0
  BeforeItem (activity i) u v = ⊥
  BeforeItem (loop t i) u v = Before t u v ⊎ (In t u × (v ≡ i))
  BeforeItem (and b) u v = BeforeBranches b u v
  BeforeItem (xor i b) u v = ((u ≡ i) × InBranches b v) ⊎ BeforeBranches b u v

  pub BeforeBranches : Branches → ℕ → ℕ → Type 0
  BeforeBranches (last t) u v = Before t u v
  BeforeBranches (bar t b) u v = Before t u v ⊎ BeforeBranches b u v

-- Each id is used once.
abbrev mutual
  pub Once : Seq → Type 0
  Once nil = Unit {0}
  Once (cons x t) = OnceItem x × Once t × ((u : ℕ) → InItem x u → In t u → ⊥)

  pub OnceItem : Item → Type 0
  OnceItem (activity i) = Unit {0}
  OnceItem (loop t i) = Once t × (In t i → ⊥)
  OnceItem (and b) = OnceBranches b
  OnceItem (xor i b) = OnceBranches b × (InBranches b i → ⊥)

  pub OnceBranches : Branches → Type 0
  OnceBranches (last t) = Once t
  OnceBranches (bar t b) = Once t × OnceBranches b × ((u : ℕ) → In t u → InBranches b u → ⊥)

-- Ids end at 63.
abbrev pub Small : Seq → Type 0
Small t = (u : ℕ) → In t u → u < 64
