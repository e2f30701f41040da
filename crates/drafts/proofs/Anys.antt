-- What a pass that stops at the first hit tells, by the definitions of the rules. Assumes nothing.
use Rattle.std.proofs.Common.{◌≡◌, ℕ, Bool, ◌||◌, List, refl}
use Rattle.std.proofs.lemmas.List.Recursion.{same_from_clauses}
use Rattle.std.specs.List.{list_any}
use Rattle.ids.specs.Sets.{is_id}
use Rattle.model.specs.declared.Element.{Element}
use Rattle.model.specs.Elements.{node_id}
use Rattle.schema.specs.Reading.{among}
use Rattle.changes.specs.declared.Change.{Change}
use Rattle.changes.specs.Effects.{is_activity, has_activity}
use Rattle.draft_rules.specs.Rules.{adds, any_adds, new_id, put_in}

pub some_adds : (cs : List Change) → list_any adds cs ≡ any_adds cs
some_adds cs = same_from_clauses (list_any adds) any_adds (λ c b. adds c || b) refl (λ _ _. refl) (λ _ _. refl) cs

module _ (a : ℕ) where
  abbrev brings : Change → Bool
  brings c = is_id (new_id c) a

  pub some_brings : (cs : List Change) → list_any (λ c. is_id (new_id c) a) cs ≡ put_in cs a
  some_brings cs = same_from_clauses (list_any brings) (λ ds. put_in ds a) (λ c b. brings c || b) refl (λ _ _. refl) (λ _ _. refl) cs

  abbrev bears : Element → Bool
  bears x = is_id (node_id x) a

  pub some_bears : (xs : List Element) → list_any (λ x. is_id (node_id x) a) xs ≡ among xs a
  some_bears xs = same_from_clauses (list_any bears) (λ ys. among ys a) (λ x b. bears x || b) refl (λ _ _. refl) (λ _ _. refl) xs

  abbrev is : Element → Bool
  is x = is_activity x a

  pub some_is : (xs : List Element) → list_any (λ x. is_activity x a) xs ≡ has_activity xs a
  some_is xs = same_from_clauses (list_any is) (λ ys. has_activity ys a) (λ x b. is x || b) refl (λ _ _. refl) (λ _ _. refl) xs
