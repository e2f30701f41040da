-- What is left when the facts and the entries of some nodes are forgotten. Assumes nothing.
use Rattle.std.proofs.Common.{◌≡◌, ℕ, zero, suc, ◌+◌, Bool, true, false, cond, not, List, [], ◌∷◌, filter, get_or, sym, refl, ap, ◌∙◌, arith}
use Rattle.model.specs.declared.Entry.{Entry}
use Rattle.model.specs.declared.Fact.{Fact}
use Rattle.model.specs.declared.Fact.TheVariants.{Nothing}
use Rattle.model.specs.Entries.{entry_id}
use Rattle.facts.specs.Facts.{reset_from}
use Rattle.rounds.specs.Rounds.{outside}
use Rattle.rounds.specs.Laws.{ARoundIsForgotten}

module _ (P : ℕ → Bool) where
  either : (b : Bool) → Nothing ≡ cond b Nothing Nothing
  either true = refl
  either false = refl

  facts_from : (n : ℕ) (fs : List Fact) (k : ℕ) → get_or (reset_from P n fs) k Nothing ≡ cond (P (n + k)) Nothing (get_or fs k Nothing)
  facts_from n [] k = either (P (n + k))
  facts_from n (f ∷ fs) zero = ap (λ m. cond (P m) Nothing f) (omega arith)
  facts_from n (f ∷ fs) (suc k) = facts_from (n + 1) fs k ∙ ap (λ m. cond (P m) Nothing (get_or fs k Nothing)) (omega arith)

  entries_left : (es : List Entry) → outside P es ≡ filter (λ e. not (P (entry_id e))) es
  entries_left [] = refl
  entries_left (e ∷ es) = go (P (entry_id e)) (entries_left es)
    where
      go : (b : Bool) → outside P es ≡ filter (λ d. not (P (entry_id d))) es
          → cond b (outside P es) (e ∷ outside P es) ≡ cond (not b) (e ∷ filter (λ d. not (P (entry_id d))) es) (filter (λ d. not (P (entry_id d))) es)
      go true h = h
      go false h = ap (λ l. e ∷ l) h

pub round_forgotten : ARoundIsForgotten
round_forgotten P fs es = record { facts = λ id. facts_from P 0 fs id ∙ ap (λ m. cond (P m) Nothing (get_or fs id Nothing)) (omega arith); entries = entries_left P es }
