-- Whether the ids of a row are in order is told by a pass that keeps those that it met. Assumes nothing.
use Rattle.std.proofs.Common.{◌≡◌, ℕ, Bool, true, false, not, List, [], ◌∷◌, ◌++◌, Some, None, Option, sym, refl, ◌∙◌, ⊎_elim}
use Rattle.std.proofs.lemmas.Bool.{and_parts, and_cases, and_left, and_right, not-true, not-false, ltb-true}
use Rattle.ids.specs.declared.IdSet.{IdSet}
use Rattle.ids.specs.Sets.{with_id}
use Rattle.model.specs.declared.Element.{Element}
use Rattle.model.specs.Elements.{node_id, LowId}
use Rattle.schema.specs.Checks.{low_id, distinct}
use Rattle.schema.specs.Causes.{Fine, Reused}
use Rattle.schema.specs.Seen.{seen_before, fresh}
use Rattle.schema.proofs.Taking.{Seen, same_used, seen_more, among_last}
use Rattle.schema.proofs.Wrongs.{fine_last, used_true}
use Rattle.schema.proofs.Onlys.{unique_front}
use Rattle.schema.proofs.Checked.{distinct_fine}

low : (o : Option ℕ) → low_id o ≡ true → LowId o
low None e = tt
low (Some i) e = ltb-true i 64 e

module _ (seen : IdSet) (xs : List Element) (s : Seen seen xs) (x : Element) where
  module _ (e : fresh seen x ≡ true) where
    parts : (low_id (node_id x) ≡ true) × (not (seen_before seen (node_id x)) ≡ true)
    parts = and_parts _ _ e

    -- the ids of the row with one element more are in order
    pub fresh_fine : Fine xs → Fine (xs ++ x ∷ [])
    fresh_fine f = fine_last xs x f (same_used seen xs s (node_id x) ∙ not-true _ parts.1) (low (node_id x) parts.0)

    -- and the set has them all
    pub fresh_seen : Seen (with_id seen (node_id x)) (xs ++ x ∷ [])
    fresh_seen u = seen_more seen xs s (node_id x) (low (node_id x) parts.0) u ∙ sym (among_last xs x u)

  -- an element that is not fresh spoils a row
  pub stale : (ys : List Element) → fresh seen x ≡ false → distinct (xs ++ x ∷ ys) ≡ false
  stale ys e = ⊎_elim (high xs) (λ h. again (used_true xs x (same_used seen xs s (node_id x) ∙ not-false _ h))) (and_cases _ _ e)
    where
      high : (zs : List Element) → low_id (node_id x) ≡ false → distinct (zs ++ x ∷ ys) ≡ false
      high [] h = and_left _ _ (and_left _ _ h)
      high (z ∷ zs) h = and_right _ _ (high zs h)

      again : Reused xs x → distinct (xs ++ x ∷ ys) ≡ false
      again r = go (distinct (xs ++ x ∷ ys)) refl
        where
          go : (b : Bool) → distinct (xs ++ x ∷ ys) ≡ b → distinct (xs ++ x ∷ ys) ≡ false
          go true h = absurd (unique_front xs x ys (distinct_fine _ h).0 r)
          go false h = h
