-- How changes are judged under another version, and behind one that was admitted. Assumes nothing.
use Rattle.std.proofs.Common.{◌≡◌, ℕ, ◌<◌, ◌≤◌, Bool, true, false, not, ◌&&◌, List, [], ◌∷◌, ◌++◌, length, is_some, Some, None, Ok, Option, refl, sym, ap, ◌∙◌, subst}
use Rattle.std.proofs.lemmas.Bool.{and_parts, and_from, leb-true, ltb-true}
use Rattle.std.proofs.lemmas.List.{append_assoc, append-nil}
use Rattle.model.specs.declared.Element.{Element}
use Rattle.schema.specs.Checks.{SchemaParts}
use Rattle.plan_record.specs.declared.RawChange.{RawChange}
use Rattle.changes.specs.declared.Change.{Change}
use Rattle.changes.specs.declared.Change.TheVariants.{DropEdge, Delete, Insert, InsertBeside, AddEdge}
use Rattle.changes.specs.Effects.{row_after, edges_after}
use Rattle.changes.specs.Spellings.{bytes_read}
use Rattle.draft_rules.specs.declared.ChangeRefusal.{ChangeRefusal}
use Rattle.draft_rules.specs.declared.ChangeRefusal.TheVariants as refused
use Rattle.draft_rules.specs.Stages.{changed, changed_all, renewed}
use Rattle.draft_rules.specs.Rules.{formed, there, new_id, unused, fits, edge_kept, unless, refusal, by_refusal, by_bytes, change_judged, all_admitted}

module _ (base : List Element) (done : List Change) (n : ℕ) (S : SchemaParts) where
  -- the version plays no part
  pub refusal_renewed : (c : Change) → refusal base done (renewed n S) c ≡ refusal base done S c
  refusal_renewed (DropEdge e) = refl
  refusal_renewed (Delete a) = refl
  refusal_renewed (Insert a g) = refl
  refusal_renewed (InsertBeside a b c) = refl
  refusal_renewed (AddEdge e) = refl

  pub judged_renewed : (raw : RawChange) → change_judged base done (renewed n S) raw ≡ change_judged base done S raw
  judged_renewed raw = go (bytes_read raw.kind raw.a raw.b raw.c)
    where
      go : (o : Option Change) → by_bytes base done (renewed n S) o ≡ by_bytes base done S o
      go None = refl
      go (Some c) = ap (by_refusal c) (refusal_renewed c)

-- a change that is admitted has no cause against it
pub admitted_unrefused : (base : List Element) (done : List Change) (S : SchemaParts) (raw : RawChange) (c : Change)
    → change_judged base done S raw ≡ Ok c → refusal base done S c ≡ None
admitted_unrefused base done S raw c = go (bytes_read raw.kind raw.a raw.b raw.c)
  where
    by : (d : Change) (o : Option ChangeRefusal) → refusal base done S d ≡ o → by_refusal d o ≡ Ok c → refusal base done S c ≡ None
    by d None e h = let same : d ≡ c = cc in subst (λ x. refusal base done S x ≡ None) same e
    by d (Some r) e h = absurd cc

    go : (o : Option Change) → by_bytes base done S o ≡ Ok c → refusal base done S c ≡ None
    go None h = absurd cc
    go (Some d) h = by d (refusal base done S d) refl h

-- it fits
pub unrefused_fits : (base : List Element) (done : List Change) (S : SchemaParts) (c : Change) → refusal base done S c ≡ None → fits done S c ≡ true
unrefused_fits base done S c = one (formed done c) (there S c) (unused base done (new_id c)) (fits done S c)
  where
    one : (f t u x : Bool)
        → unless f refused.Form (unless t refused.Missing (unless u refused.Used (unless x refused.Full (unless (edge_kept S c) refused.Edge None)))) ≡ None
        → x ≡ true
    one false t u x e = absurd cc
    one true false u x e = absurd cc
    one true true false x e = absurd cc
    one true true true false e = absurd cc
    one true true true true e = refl

-- so it is no more than the sixteenth, and what it leaves is within the limits
pub record Within (done : List Change) (S : SchemaParts) (c : Change) : Type 0 where
  pub turn : length done < 16
  pub few : length (row_after c S.row) ≤ 128
  pub few_edges : length (edges_after c S.edges) ≤ 32

pub unrefused_within : (base : List Element) (done : List Change) (S : SchemaParts) (c : Change) → refusal base done S c ≡ None → Within done S c
unrefused_within base done S c e =
    let h = and_parts _ _ (unrefused_fits base done S c e) in
    let k = and_parts _ _ h.1 in
    record { turn = ltb-true _ _ h.0; few = leb-true _ _ k.0; few_edges = leb-true _ _ k.1 }

-- a list of admitted changes takes one more that is admitted
pub admitted_and_one : (base : List Element) (done : List Change) (S : SchemaParts) (cs : List Change) (c : Change)
    → all_admitted base done S cs ≡ true → refusal base (done ++ cs) (changed_all cs S) c ≡ None → all_admitted base done S (cs ++ c ∷ []) ≡ true
admitted_and_one base done S [] c a e =
    and_from _ _ (ap (λ o. not (is_some o)) (ap (λ ds. refusal base ds S c) (sym (append-nil done)) ∙ e)) refl
admitted_and_one base done S (d ∷ cs) c a e =
    let h = and_parts _ _ a in
    and_from _ _ h.0
    (admitted_and_one base (done ++ d ∷ []) (changed d S) cs c h.1
    (ap (λ ds. refusal base ds (changed_all cs (changed d S)) c) (append_assoc done (d ∷ []) cs) ∙ e))

-- whatever the version
pub admitted_renewed : (base : List Element) (done : List Change) (n : ℕ) (S : SchemaParts) (cs : List Change)
    → all_admitted base done (renewed n S) cs ≡ all_admitted base done S cs
admitted_renewed base done n S [] = refl
admitted_renewed base done n S (c ∷ cs) =
    ap (λ o. not (is_some o) && all_admitted base (done ++ c ∷ []) (renewed n (changed c S)) cs) (refusal_renewed base done n S c)
    ∙ ap (λ b. not (is_some (refusal base done S c)) && b) (admitted_renewed base (done ++ c ∷ []) n (changed c S) cs)
