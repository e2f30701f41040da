-- The own signal of a node is that at its place. Assumes nothing.
use Rattle.std.proofs.Common.{◌≡◌, ℕ, zero, suc, ◌+◌, ◌<◌, Bool, true, false, cond, List, [], ◌∷◌, length, get_or, take, sym, refl, ap, ◌∙◌, inl, inr, arith}
use Rattle.std.proofs.lemmas.List.{get_or-take}
use Rattle.std.specs.declared.option.Option.TheVariants as option
use Rattle.model.specs.declared.Element.{Element}
use Rattle.model.specs.declared.Element.TheVariants.{AndSplit}
use Rattle.model.specs.declared.Signal.{Signal}
use Rattle.model.specs.declared.Signal.TheVariants.{None}
use Rattle.model.specs.Elements.{node_id}
use Rattle.model.specs.Rows.{Bears, Among, Unique, Low}
use Rattle.layout.specs.Nodes.{Finds}
use Rattle.ids.specs.Sets.{is_id}
use Rattle.schema.proofs.Wrongs.{decides_bears}
use Rattle.marking.specs.States.{own}

module _ (gs : List Signal) (id : ℕ) where
  absent : (xs : List Element) (p : ℕ) → (Among xs id → ⊥) → own xs gs p id ≡ option.None
  absent [] p n = refl
  absent (x ∷ xs) p n = go (is_id (node_id x) id) refl (absent xs (p + 1) (λ a. n (inr a)))
    where
      go : (b : Bool) → is_id (node_id x) id ≡ b → own xs gs (p + 1) id ≡ option.None → own (x ∷ xs) gs p id ≡ option.None
      go true e ih = absurd (n (inl ((decides_bears x id).0 e)))
      go false e ih = ap (λ b. cond b (option.Some (get_or gs p None)) (own xs gs (p + 1) id)) e ∙ ih

  -- the first element that is the node, at k places behind p
  among_at : (xs : List Element) (k : ℕ) → k < length xs → Bears (get_or xs k AndSplit) id → Among xs id
  among_at [] k h b = absurd (omega arith)
  among_at (x ∷ xs) zero h b = inl b
  among_at (x ∷ xs) (suc k) h b = inr (among_at xs k (omega arith) b)

  present : (xs : List Element) (p k : ℕ) → Unique xs → k < length xs → Bears (get_or xs k AndSplit) id → own xs gs p id ≡ option.Some (get_or gs (p + k) None)
  present [] p k o h b = absurd (omega arith)
  present (x ∷ xs) p zero o h b =
      ap (λ v. cond v (option.Some (get_or gs p None)) (own xs gs (p + 1) id)) ((decides_bears x id).1 b) ∙ ap (λ n. option.Some (get_or gs n None)) (omega arith)
  present (x ∷ xs) p (suc k) o h b = go (is_id (node_id x) id) refl (present xs (p + 1) k o.1 (omega arith) b)
    where
      go : (v : Bool) → is_id (node_id x) id ≡ v → own xs gs (p + 1) id ≡ option.Some (get_or gs (p + 1 + k) None) → own (x ∷ xs) gs p id ≡ option.Some (get_or gs (p + suc k) None)
      go true e ih = absurd (o.0 id ((decides_bears x id).0 e) (among_at xs k (omega arith) b))
      go false e ih =
          ap (λ v. cond v (option.Some (get_or gs p None)) (own xs gs (p + 1) id)) e ∙ ih ∙ ap (λ n. option.Some (get_or gs n None)) (omega arith)

  pub own_at : (xs : List Element) (p : ℕ) → Unique xs → Finds xs id (option.Some p) → own xs gs 0 id ≡ option.Some (get_or gs p None)
  own_at xs p o f = present xs 0 p o f.0 f.1 ∙ ap (λ n. option.Some (get_or gs n None)) (omega arith)

  -- read where the signals are the front of these
  pub own_taken : (xs : List Element) (gaps : List Signal) (p : ℕ) → take (length xs + 1) gaps ≡ gs → Unique xs → Finds xs id (option.Some p)
      → own xs gs 0 id ≡ option.Some (get_or gaps p None)
  own_taken xs gaps p told o f =
      own_at xs p o f ∙ ap option.Some (sym (ap (λ hs. get_or hs p None) told) ∙ get_or-take (length xs + 1) gaps p None (omega (arith, f.0)))

  pub own_none : (xs : List Element) → Low xs → Finds xs id option.None → own xs gs 0 id ≡ option.None
  own_none xs low f = absent xs 0 (λ a. f (low id a) a)
