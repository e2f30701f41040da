-- Two schemas compared whole. Assumes nothing.
use Rattle.std.proofs.Common.{◌≡◌, ℕ, true, cond, eqb, List, sym, refl, ap, ap₂, ◌∙◌}
use Rattle.std.proofs.lemmas.Bool.{and_parts, and_from, eqb-true, eq-eqb}
use lib.Pointwise.{pointwise, pointwise_decides}
use Rattle.model.specs.declared.Edge.{Edge}
use Rattle.model.specs.declared.Element.{Element}
use Rattle.model.specs.declared.Element.TheVariants.{Activity, AndSplit, Bar, AndJoin, XorSplit, XorJoin, LoopStart, LoopEnd}
use Rattle.model.specs.Elements.{kind_byte, id_byte}
use Rattle.edges.specs.Edges.{same}
use Rattle.schema.specs.Checks.{SchemaParts}
use Rattle.draft_rules.specs.Plans.{same_element, same_schema}

-- The element of a kind and an id.
abbrev of_bytes : ℕ → ℕ → Element
of_bytes k i =
    cond (eqb k 1) (Activity i) (cond (eqb k 2) AndSplit (cond (eqb k 3) Bar (cond (eqb k 4) AndJoin
    (cond (eqb k 5) (XorSplit i) (cond (eqb k 6) XorJoin (cond (eqb k 7) LoopStart (LoopEnd i)))))))

of_own : (x : Element) → of_bytes (kind_byte x) (id_byte x) ≡ x
of_own (Activity i) = refl
of_own AndSplit = refl
of_own Bar = refl
of_own AndJoin = refl
of_own (XorSplit i) = refl
of_own XorJoin = refl
of_own LoopStart = refl
of_own (LoopEnd i) = refl

elements : (x y : Element) → (same_element x y ≡ true → x ≡ y) × (x ≡ y → same_element x y ≡ true)
elements x y = (
  (λ h.
      let p = and_parts (eqb (kind_byte x) (kind_byte y)) _ h in
      sym (of_own x) ∙ ap₂ of_bytes (eqb-true _ _ p.0) (eqb-true _ _ p.1) ∙ of_own y),
  (λ e. and_from _ _ (eq-eqb (kind_byte x) (kind_byte y) (ap kind_byte e)) (eq-eqb (id_byte x) (id_byte y) (ap id_byte e))),
)

edges : (d e : Edge) → (same d e ≡ true → d ≡ e) × (d ≡ e → same d e ≡ true)
edges d e = (
  (λ h.
      let p = and_parts (eqb d.source e.source) _ h in
      ap₂ (λ (a b : ℕ). record { source = a; target = b }) (eqb-true _ _ p.0) (eqb-true _ _ p.1)),
  (λ q. and_from _ _ (eq-eqb d.source e.source (ap (λ f. f.source) q)) (eq-eqb d.target e.target (ap (λ f. f.target) q))),
)

pub same_is : (S T : SchemaParts) → same_schema S T ≡ true → S ≡ T
same_is S T h =
    let p = and_parts (eqb S.version T.version) _ h in
    let q = and_parts (pointwise same_element S.row T.row) _ p.1 in
    let row = (pointwise_decides elements S.row T.row).0 q.0 in
    let list = (pointwise_decides edges S.edges T.edges).0 q.1 in
    ap₂ (λ (n : ℕ) (xs : List Element). record { version = n; row = xs; edges = S.edges }) (eqb-true _ _ p.0) row
    ∙ ap (λ (es : List Edge). record { version = T.version; row = T.row; edges = es }) list

pub is_same : (S T : SchemaParts) → S ≡ T → same_schema S T ≡ true
is_same S T e =
    and_from _ _ (eq-eqb S.version T.version (ap (λ s. s.version) e))
    (and_from _ _ ((pointwise_decides elements S.row T.row).1 (ap (λ s. s.row) e)) ((pointwise_decides edges S.edges T.edges).1 (ap (λ s. s.edges) e)))
