-- What a queue holds once the closure of a withdrawal has said which ids stay. Assumes nothing.
use Rattle.std.proofs.Common.{◌≡◌, ℕ, Bool, true, not, eqb, List, ap, ◌∙◌, subst, sym}
use Rattle.std.specs.List.Retain.{RetainsInTurn}
use Rattle.arrayvec.proofs.ArrayVecLemmas.{filter-from_retain}
use Rattle.worklist.specs.Offers.{without_id}
use Rattle.queue.specs.Orders.{listed, each_once, withdrawn_order}
use Rattle.queue.proofs.Listed.{listed_withdrawn}
use Rattle.queue.proofs.Once.{once_kept}

module _ {F : Type 0} (R : F → ℕ → Bool → F → ℕ → Type 0) (f : F) (id : ℕ) (xs ys : List ℕ)
    (says : (x : ℕ) (b : Bool) (g : F) (y : ℕ) → R f x b g y → (b ≡ not (eqb x id)) × (g ≡ f) × (y ≡ x)) (ran : RetainsInTurn R f xs ys) where
  pub left_in_order : ys ≡ withdrawn_order id xs
  left_in_order = filter-from_retain R (λ x. not (eqb x id)) f says xs ys ran

pub left_listed : (id : ℕ) (xs ys : List ℕ) → ys ≡ withdrawn_order id xs → listed ys ≡ without_id id (listed xs)
left_listed id xs ys left = ap listed left ∙ listed_withdrawn id xs

pub left_once : (id : ℕ) (xs ys : List ℕ) → ys ≡ withdrawn_order id xs → each_once xs ≡ true → each_once ys ≡ true
left_once id xs ys left once = subst (λ zs. each_once zs ≡ true) (sym left) (once_kept (λ x. not (eqb x id)) xs once)
