-- A delete takes out its activity. Assumes nothing.
use Rattle.std.proofs.Common.{◌≡◌, ℕ, Bool, true, false, not, eqb, List, [], ◌∷◌, ◌++◌, length, drop, sym, refl, ap, ◌∙◌, subst, inl, inr, arith}
use Rattle.std.proofs.lemmas.List.{drop_at, length-append}
use Rattle.std.proofs.lemmas.Bool.{eqb-true}
use Rattle.std.specs.Prelude.{filter}
use Rattle.model.specs.declared.Element.{Element}
use Rattle.model.specs.declared.Element.TheVariants.{Activity, AndSplit, Bar, AndJoin, XorSplit, XorJoin, LoopStart, LoopEnd}
use Rattle.model.specs.Rows.{Bears, Among, Unique}
use Rattle.model.specs.Trees.{Seq, nil, cons, activity, loop, and, xor, spell, flatten, Wide}
use Rattle.layout.proofs.Items.{Spelt, spelt}
use Rattle.changes.specs.declared.Change.TheVariants.{Delete}
use Rattle.changes.specs.Effects.{is_activity, row_after}
use Rattle.changes.specs.Changed.{InFront, Removed}
use Rattle.changes.specs.Laws.{Gives, ADeleteTakesOutItsActivity}
use Rattle.changes.proofs.Spots.{Ends, InSeq, spot}
use Rattle.changes.proofs.Widths.{wide}

module _ (a : ℕ) where
  abbrev other : Element → Bool
  other x = not (is_activity x a)

  is_other : (x : Element) → (Bears x a → ⊥) → other x ≡ true
  is_other (Activity i) h = go (eqb a i) refl
    where
      go : (b : Bool) → eqb a i ≡ b → not b ≡ true
      go true e = absurd (h (eqb-true a i e))
      go false e = refl
  is_other AndSplit h = refl
  is_other Bar h = refl
  is_other AndJoin h = refl
  is_other (XorSplit i) h = refl
  is_other XorJoin h = refl
  is_other LoopStart h = refl
  is_other (LoopEnd i) h = refl

  -- where activity a is missing, nothing goes
  missing : (xs : List Element) → (Among xs a → ⊥) → filter other xs ≡ xs
  missing [] h = refl
  missing (x ∷ xs) h = rw (is_other x (λ b. h (inl b)), missing xs (λ m. h (inr m))) refl

  in_middle : (xs ys : List Element) → Among (xs ++ Activity a ∷ ys) a
  in_middle [] ys = inl refl
  in_middle (x ∷ xs) ys = inr (in_middle xs ys)

  pub left : (xs ys : List Element) → Unique (xs ++ Activity a ∷ ys) → filter other (xs ++ Activity a ∷ ys) ≡ xs ++ ys
  left [] ys q = let e : eqb a a ≡ true = grind arith in rw e (missing ys (q.0 a refl))
  left (x ∷ xs) ys q = rw (is_other x (λ b. q.0 a b (in_middle xs ys)), left xs ys q.1) refl

  -- a sequence whose row begins with the activity begins with it
  leads : (t : Seq) (ys zs : List Element) → Ends ys → spell t ys ≡ Activity a ∷ zs → (r : Seq) × (t ≡ cons (activity a) r)
  leads nil ys zs e h = absurd (subst Ends h e)
  leads (cons (activity i) t) ys zs e h = let same : i ≡ a = cc in (t, ap (λ k. cons (activity k) t) same)
  leads (cons (loop t i) u) ys zs e h = absurd cc
  leads (cons (and b) t) ys zs e h = absurd cc
  leads (cons (xor i b) t) ys zs e h = absurd cc

-- what follows parts of the same length
rests : (xs ps rs qs ss : List Element) → xs ≡ ps ++ rs → xs ≡ qs ++ ss → length ps ≡ length qs → rs ≡ ss
rests xs ps rs qs ss e f h = sym (drop_at ps rs (length qs) h) ∙ ap (drop (length qs)) (sym e ∙ f) ∙ drop_at qs ss (length qs) refl

abbrev Back : ℕ → Seq → Seq → Type 0
Back a t u = InFront a u t

at_spot : (t : Seq) (a : ℕ) → Unique (flatten t) → (at : Spelt (flatten t) (activity a))
    → InSeq (Back a) (length at.before) t [] (flatten t) → Gives (Delete a) t (Removed a t)
at_spot t a one at s =
    let r = leads a s.rest s.after at.after s.ends (rests (flatten t) s.before (spell s.rest s.after) at.before (Activity a ∷ at.after) s.parted at.parted s.at_gap) in
    let w = s.swap r.0 r.1 in
    let parted : flatten t ≡ s.before ++ Activity a ∷ spell r.0 s.after = s.parted ∙ ap (λ k. s.before ++ spell k s.after) r.1 in
    let row : row_after (Delete a) (flatten t) ≡ s.before ++ spell r.0 s.after =
    ap (row_after (Delete a)) parted ∙ left a s.before (spell r.0 s.after) (subst Unique parted one) in
    (w.0, (length at.before, w.1), row ∙ sym w.2, wide (Back a) (λ r u e k. (subst Wide e k).1) (length at.before) t w.0 w.1)

pub taken_out : ADeleteTakesOutItsActivity
taken_out t a one holds =
    let at = spelt t (activity a) [] holds in
    let l = ap length at.parted ∙ length-append at.before (Activity a ∷ at.after) in
    at_spot t a one at (spot (Back a) t [] tt (length at.before) (omega (arith, l)))
