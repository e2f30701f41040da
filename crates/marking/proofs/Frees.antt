-- A node is free if no edge keeps it waiting. Assumes nothing.
use Rattle.std.proofs.Common.{◌≡◌, ℕ, ◌+◌, ◌<◌, Bool, true, false, not, ◌&&◌, ◌||◌, ◌==◌, eqb, List, [], ◌∷◌, length, get_or, drop, sym, refl, ap, ◌∙◌}
use Rattle.std.proofs.lemmas.List.{at_drop_more}
use Rattle.std.proofs.lemmas.Bool.{eq-eqb, ne_eqb}
use Rattle.std.specs.List.{list_all}
use Rattle.model.specs.declared.Element.{Element}
use Rattle.model.specs.declared.Edge.{Edge}
use Rattle.model.specs.declared.Fact.{Fact}
use Rattle.model.specs.declared.Signal.{Signal}
use Rattle.model.specs.Signals.{fact_of}
use Rattle.marking.specs.States.{own, settled, free}

module _ (xs : List Element) (gs : List Signal) (fs : List Fact) (id : ℕ) where
  -- this edge does not
  abbrev pub lets : Edge → Bool
  lets e = not (e.target == id) || settled (own xs gs 0 e.source) (fact_of fs e.source)

  pub all_free : (es : List Edge) → list_all lets es ≡ free xs gs fs es id
  all_free [] = refl
  all_free (e ∷ es) = ap (λ b. lets e && b) (all_free es)

-- the search for a sync source that is not settled goes one edge further
module _ (xs : List Element) (gs : List Signal) (fs : List Fact) (es : List Edge) (id p : ℕ) (d : Edge) (h : p < length es) where
  abbrev source_settled : Bool
  source_settled = settled (own xs gs 0 (get_or es p d).source) (fact_of fs (get_or es p d).source)

  abbrev rest : Bool
  rest = free xs gs fs (drop (p + 1) es) id

  free_here : free xs gs fs (drop p es) id ≡ ((not (eqb (get_or es p d).target id) || source_settled) && rest)
  free_here = at_drop_more (λ ds. free xs gs fs ds id) es p d h

  pub free_other : ((get_or es p d).target ≡ id → ⊥) → free xs gs fs (drop p es) id ≡ rest
  free_other n = free_here ∙ ap (λ b. (not b || source_settled) && rest) (ne_eqb _ _ n)

  free_target : (get_or es p d).target ≡ id → free xs gs fs (drop p es) id ≡ (source_settled && rest)
  free_target e = free_here ∙ ap (λ b. (not b || source_settled) && rest) (eq-eqb _ _ e)

  pub free_settled : (b : Bool) → b ≡ source_settled → b ≡ true → (get_or es p d).target ≡ id → free xs gs fs (drop p es) id ≡ rest
  free_settled b is t e = free_target e ∙ ap (λ v. v && rest) (sym is ∙ t)

  pub free_waits : (b : Bool) → b ≡ source_settled → b ≡ false → (get_or es p d).target ≡ id → free xs gs fs (drop p es) id ≡ false
  free_waits b is f e = free_target e ∙ ap (λ v. v && rest) (sym is ∙ f)
