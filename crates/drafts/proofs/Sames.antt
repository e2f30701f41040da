-- Equal rows and lists of edges are told by comparing them. Assumes nothing.
use Rattle.std.proofs.Common.{◌≡◌, ℕ, Bool, List, Decides, refl, sym, ap, ◌∙◌, ap₂}
use Rattle.std.proofs.lemmas.Bool.Decides.{Decides-eqb}
use Rattle.std.proofs.lemmas.Bool.{and_parts, and_from}
use Rattle.std.proofs.lemmas.Slice.Eq.{slice_eq-Decides}
use Rattle.std.specs.Cmp.Lexicographic.{pointwise}
use Rattle.model.specs.declared.Edge.{Edge}
use Rattle.model.specs.declared.Element.{Element}
use Rattle.model.specs.declared.Element.TheVariants.{Activity, AndSplit, Bar, AndJoin, XorSplit, XorJoin, LoopStart, LoopEnd}
use Rattle.model.specs.contracts.ElementPartialEq.TheImpl as element
use Rattle.model.specs.contracts.EdgePartialEq.TheImpl as edge

same_edge : (a b : Edge) → Decides (edge.eq-value.it a b) (a ≡ b)
same_edge a b = (
  λ e. let h = and_parts _ _ e in ap₂ (λ (s t : ℕ). record { source = s; target = t }) ((Decides-eqb a.source b.source).0 h.0) ((Decides-eqb a.target b.target).0 h.1),
  λ e. and_from _ _ ((Decides-eqb a.source b.source).1 (ap (λ d. d.source) e)) ((Decides-eqb a.target b.target).1 (ap (λ d. d.target) e)),
)

same_element : (x y : Element) → Decides (element.eq-value.it x y) (x ≡ y)
same_element (Activity i) (Activity j) = (λ e. ap Activity ((Decides-eqb i j).0 e), λ e. (Decides-eqb i j).1 cc)
same_element (Activity i) y = (λ e. absurd cc, λ e. absurd cc)
same_element AndSplit AndSplit = (λ e. refl, λ e. refl)
same_element AndSplit y = (λ e. absurd cc, λ e. absurd cc)
same_element Bar Bar = (λ e. refl, λ e. refl)
same_element Bar y = (λ e. absurd cc, λ e. absurd cc)
same_element AndJoin AndJoin = (λ e. refl, λ e. refl)
same_element AndJoin y = (λ e. absurd cc, λ e. absurd cc)
same_element (XorSplit i) (XorSplit j) = (λ e. ap XorSplit ((Decides-eqb i j).0 e), λ e. (Decides-eqb i j).1 cc)
same_element (XorSplit i) y = (λ e. absurd cc, λ e. absurd cc)
same_element XorJoin XorJoin = (λ e. refl, λ e. refl)
same_element XorJoin y = (λ e. absurd cc, λ e. absurd cc)
same_element LoopStart LoopStart = (λ e. refl, λ e. refl)
same_element LoopStart y = (λ e. absurd cc, λ e. absurd cc)
same_element (LoopEnd i) (LoopEnd j) = (λ e. ap LoopEnd ((Decides-eqb i j).0 e), λ e. (Decides-eqb i j).1 cc)
same_element (LoopEnd i) y = (λ e. absurd cc, λ e. absurd cc)

pub same_rows : (xs ys : List Element) (r : Bool) → r ≡ pointwise element.eq-value.it xs ys → Decides r (xs ≡ ys)
same_rows xs ys r e = slice_eq-Decides same_element xs ys r e

pub same_edges : (ds es : List Edge) (r : Bool) → r ≡ pointwise edge.eq-value.it ds es → Decides r (ds ≡ es)
same_edges ds es r e = slice_eq-Decides same_edge ds es r e

pub decides_read : {X : Type 0} (xs ys us vs : List X) (r : Bool) → us ≡ xs → vs ≡ ys → Decides r (us ≡ vs) → Decides r (xs ≡ ys)
decides_read xs ys us vs r p q d = (λ e. sym p ∙ d.0 e ∙ q, λ e. d.1 (p ∙ e ∙ sym q))
