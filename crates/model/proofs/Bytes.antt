-- The two bytes of an element and their reading are inverse. Assumes nothing.
use Rattle.std.proofs.Common.{◌≡◌, ℕ, ◌<◌, Bool, true, false, cond, eqb, ltb, Some, None, Option, sym, refl, ap, ◌∙◌, subst, arith}
use Rattle.std.proofs.lemmas.Bool.{eqb-true, ltb-true, lt-ltb, cond-true}
use Rattle.model.specs.declared.Element.{Element}
use Rattle.model.specs.declared.Element.TheVariants.{Activity, AndSplit, Bar, AndJoin, XorSplit, XorJoin, LoopStart, LoopEnd}
use Rattle.model.specs.Elements.{node_id, kind_byte, id_byte, LowId, BytesOf, with_id, without_id, bytes_read}

none_some : {A : Type 0} (x : Element) → ◌≡◌ {A = Option Element} None (Some x) → A
none_some x e = absurd (let z : ◌≡◌ {A = ℕ} 0 1 = cc in omega arith)

-- an element with an id
with : (b : Bool) (i : ℕ) (y x : Element) → ltb i 64 ≡ b → cond b (Some y) None ≡ Some x → (i < 64) × (y ≡ x)
with true i y x h e = (ltb-true i 64 h, cc)
with false i y x h e = none_some x e

without : (b : Bool) (i : ℕ) (y x : Element) → eqb i 255 ≡ b → cond b (Some y) None ≡ Some x → (i ≡ 255) × (y ≡ x)
without true i y x h e = (eqb-true i 255 h, cc)
without false i y x h e = none_some x e

-- one kind after the other
by_kind : {P : Type 0} (b : Bool) (k n : ℕ) (here rest : Option Element) (x : Element) → eqb k n ≡ b
    → (k ≡ n → here ≡ Some x → P) → (rest ≡ Some x → P) → cond b here rest ≡ Some x → P
by_kind true k n here rest x h f g e = f (eqb-true k n h) e
by_kind false k n here rest x h f g e = g e

module _ (k i : ℕ) (x : Element) where
  noded : (n : ℕ) (y : Element) → kind_byte y ≡ n → node_id y ≡ Some i → k ≡ n → with_id i y ≡ Some x → BytesOf k i x
  noded n y is id q e =
      let w = with (ltb i 64) i y x refl e in
      subst (λ z. BytesOf k i z) w.1 (q ∙ sym is, sym (ap Rattle.model.specs.Elements.or_none id), subst LowId (sym id) w.0)

  bare : (n : ℕ) (y : Element) → kind_byte y ≡ n → node_id y ≡ None → k ≡ n → without_id i y ≡ Some x → BytesOf k i x
  bare n y is id q e =
      let w = without (eqb i 255) i y x refl e in
      subst (λ z. BytesOf k i z) w.1 (q ∙ sym is, w.0 ∙ sym (ap Rattle.model.specs.Elements.or_none id), subst LowId (sym id) tt)

  pub read_is : bytes_read k i ≡ Some x → BytesOf k i x
  read_is e =
      by_kind (eqb k 1) k 1 _ _ x refl (noded 1 (Activity i) refl refl)
      (by_kind (eqb k 2) k 2 _ _ x refl (bare 2 AndSplit refl refl)
      (by_kind (eqb k 3) k 3 _ _ x refl (bare 3 Bar refl refl)
      (by_kind (eqb k 4) k 4 _ _ x refl (bare 4 AndJoin refl refl)
      (by_kind (eqb k 5) k 5 _ _ x refl (noded 5 (XorSplit i) refl refl)
      (by_kind (eqb k 6) k 6 _ _ x refl (bare 6 XorJoin refl refl)
      (by_kind (eqb k 7) k 7 _ _ x refl (bare 7 LoopStart refl refl)
      (by_kind (eqb k 8) k 8 _ _ x refl (noded 8 (LoopEnd i) refl refl) (λ z. none_some x z)))))))) e

own : (x : Element) → LowId (node_id x) → bytes_read (kind_byte x) (id_byte x) ≡ Some x
own (Activity i) h = cond-true _ _ _ (lt-ltb i 64 h)
own AndSplit h = refl
own Bar h = refl
own AndJoin h = refl
own (XorSplit i) h = cond-true _ _ _ (lt-ltb i 64 h)
own XorJoin h = refl
own LoopStart h = refl
own (LoopEnd i) h = cond-true _ _ _ (lt-ltb i 64 h)

pub is_read : (k i : ℕ) (x : Element) → BytesOf k i x → bytes_read k i ≡ Some x
is_read k i x b = ap (λ n. bytes_read n i) b.0 ∙ ap (λ n. bytes_read (kind_byte x) n) b.1 ∙ own x b.2
