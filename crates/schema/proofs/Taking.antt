-- One element more of a row that is read. Assumes nothing.
use Rattle.std.proofs.Common.{◌≡◌, ℕ, ◌+◌, ◌<◌, Bool, true, false, cond, ◌||◌, List, [], ◌∷◌, ◌++◌, length, get_or, drop, Some, None, Ok, Err, Option, Result, sym, refl, ap, ◌∙◌}
use Rattle.std.proofs.Math.Bool.{or-false}
use Rattle.std.proofs.lemmas.List.{at_drop_more}
use Rattle.std.proofs.lemmas.List.Recursion.{or_push}
use Rattle.ids.specs.declared.IdSet.{IdSet}
use Rattle.ids.specs.Sets.{has, is_id, only, with_id}
use Rattle.ids.proofs.Laws.{has_union, has_only}
use Rattle.model.specs.declared.Element.{Element}
use Rattle.model.specs.Elements.{node_id, bytes_read, LowId}
use Rattle.model.proofs.Bytes.{read_is}
use Rattle.record.proofs.Inverses.{never}
use Rattle.schema.specs.Reading.{among, used, row_taken, row_read}
use Rattle.schema.specs.Seen.{seen_before, unseen}

-- the set has the ids of the row
abbrev pub Seen : IdSet → List Element → Type 0
Seen seen row = (u : ℕ) → has seen u ≡ among row u

pub among_last : (xs : List Element) (x : Element) (u : ℕ) → among (xs ++ x ∷ []) u ≡ (among xs u || is_id (node_id x) u)
among_last xs x u = or_push (λ ys. among ys u) (λ y. is_id (node_id y) u) refl (λ y ys. refl) xs x

pub same_used : (seen : IdSet) (row : List Element) → Seen seen row → (o : Option ℕ) → used row o ≡ seen_before seen o
same_used seen row s None = refl
same_used seen row s (Some i) = sym (s i)

pub seen_more : (seen : IdSet) (row : List Element) → Seen seen row → (o : Option ℕ) → LowId o → (u : ℕ) → has (with_id seen o) u ≡ (among row u || is_id o u)
seen_more seen row s None low u = s u ∙ sym (or-false (among row u))
seen_more seen row s (Some i) low u =
    has_union seen (only i) u ∙ ap (λ b. b || has (only i) u) (s u) ∙ ap (λ b. among row u || b) (has_only i u low)

module _ (seen : IdSet) (row : List Element) (s : Seen seen row) (p : ℕ) (rest : List Element → Result (List Element) ℕ) where
  fault_by : (b : Bool) (y : Element) → cond b None (Some y) ≡ None → cond b (Err p) (rest (row ++ y ∷ [])) ≡ Err p
  fault_by true y e = refl
  fault_by false y e = never (sym e)

  fault_at : (o : Option Element) → None ≡ unseen seen o → row_taken row p o rest ≡ Err p
  fault_at None e = refl
  fault_at (Some y) e =
      ap (λ b. cond b (Err p) (rest (row ++ y ∷ []))) (same_used seen row s (node_id y)) ∙ fault_by (seen_before seen (node_id y)) y (sym e)

  taken_by : (b : Bool) (y x : Element) → cond b None (Some y) ≡ Some x → (cond b (Err p) (rest (row ++ y ∷ [])) ≡ rest (row ++ x ∷ [])) × (y ≡ x)
  taken_by true y x e = never e
  taken_by false y x e = let q : y ≡ x = cc in (ap (λ z. rest (row ++ z ∷ [])) q, q)

  taken_at : (o : Option Element) (x : Element) → Some x ≡ unseen seen o → (row_taken row p o rest ≡ rest (row ++ x ∷ [])) × (o ≡ Some x)
  taken_at None x e = never (sym e)
  taken_at (Some y) x e =
      let t = taken_by (seen_before seen (node_id y)) y x (sym e) in
      (ap (λ b. cond b (Err p) (rest (row ++ y ∷ []))) (same_used seen row s (node_id y)) ∙ t.0, ap (λ z. Some z) t.1)

module _ (ps : List (ℕ × ℕ)) (seen : IdSet) (row : List Element) (s : Seen seen row) (p : ℕ) (h : p < length ps) (b : ℕ × ℕ) (is : b ≡ get_or ps p (0, 0)) where
  here : row_read row p (drop p ps) ≡ row_taken row p (bytes_read b.0 b.1) (λ r. row_read r (p + 1) (drop (p + 1) ps))
  here =
      at_drop_more (row_read row p) ps p (0, 0) h
      ∙ ap (λ (d : ℕ × ℕ). row_taken row p (bytes_read d.0 d.1) (λ r. row_read r (p + 1) (drop (p + 1) ps))) (sym is)

  pub stops : None ≡ unseen seen (bytes_read b.0 b.1) → row_read row p (drop p ps) ≡ Err p
  stops e = here ∙ fault_at seen row s p _ (bytes_read b.0 b.1) e

  pub goes : (x : Element) → Some x ≡ unseen seen (bytes_read b.0 b.1) → row_read row p (drop p ps) ≡ row_read (row ++ x ∷ []) (p + 1) (drop (p + 1) ps)
  goes x e = here ∙ (taken_at seen row s p _ (bytes_read b.0 b.1) x e).0

  pub keeps : (x : Element) → Some x ≡ unseen seen (bytes_read b.0 b.1) → Seen (with_id seen (node_id x)) (row ++ x ∷ [])
  keeps x e u =
      let o = (taken_at seen row s p (λ r. Ok r) (bytes_read b.0 b.1) x e).1 in
      seen_more seen row s (node_id x) (read_is b.0 b.1 x o).2 u ∙ sym (among_last row x u)
