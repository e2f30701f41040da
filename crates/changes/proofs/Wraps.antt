-- Whole items are put beside an activity. Assumes nothing.
use Rattle.std.proofs.Common.{◌≡◌, ℕ, ◌+◌, ◌-◌, ◌<◌, ◌≤◌, List, [], ◌∷◌, ◌++◌, length, take, drop, sym, refl, ap, ap₂, ◌∙◌, subst, arith}
use Rattle.std.proofs.lemmas.List.{take_at, drop_at, drop-drop, length-drop, length-take-le, take-append-drop}
use Rattle.model.specs.declared.Element.{Element}
use Rattle.model.specs.declared.Element.TheVariants.{Activity, AndSplit, Bar, AndJoin}
use Rattle.model.specs.Trees.{Seq, nil, cons, spell, flatten, Wide}
use Rattle.layout.proofs.Facts.{spell_append}
use Rattle.changes.specs.declared.Change.TheVariants.{InsertBeside}
use Rattle.changes.specs.Effects.{stretch, wrapped}
use Rattle.changes.specs.Changed.{followed_by, beside, Gathered, Wrapped}
use Rattle.changes.specs.Laws.{Gives, AnInsertBesideWrapsItems}
use Rattle.changes.proofs.Readings.{first_items}
use Rattle.changes.proofs.Spots.{InSeq, spot}
use Rattle.changes.proofs.Widths.{wide}

wide_parts : (m r : Seq) → Wide (followed_by m r) → Wide m × Wide r
wide_parts nil r w = (tt, w)
wide_parts (cons x m) r w = let k = wide_parts m r w.1 in ((w.0, k.0), k.1)

keeps : (a n : ℕ) (t u : Seq) → Gathered a n t u → Wide t → Wide u
keeps a n t u h w =
    let k = wide_parts h.0 h.1 (subst Wide h.3 w) in
    subst Wide (sym h.4) (((omega arith, omega arith), (k.0, (tt, tt))), k.1)

-- a row in three parts
pub parted : (xs : List Element) (b c : ℕ) → b ≤ c → drop b xs ≡ stretch b c xs ++ drop c xs
parted xs b c h =
    let n : b + (c - b) ≡ c = omega arith in
    sym (take-append-drop (c - b) (drop b xs)) ∙ ap (λ l. stretch b c xs ++ l) (drop-drop (c - b) b xs ∙ ap (λ k. drop k xs) n)

stretch_long : (xs : List Element) (b c : ℕ) → b ≤ c → c ≤ length xs → length (stretch b c xs) ≡ c - b
stretch_long xs b c h k = let l = length-drop b xs in length-take-le (c - b) (drop b xs) (omega (arith, l))

-- what stands behind the items
abbrev tail : ℕ → List Element → List Element
tail a ys = Bar ∷ Activity a ∷ AndJoin ∷ ys

module _ (t : Seq) (a b c : ℕ) (order : b < c) (within : c ≤ length (flatten t)) (m : Seq) (is : stretch b c (flatten t) ≡ flatten m)
    (s : InSeq (Gathered a (c - b)) b t [] (flatten t)) where
  front : take b (flatten t) ≡ s.before
  front = ap (take b) s.parted ∙ take_at s.before (spell s.rest s.after) b s.at_gap

  back : spell s.rest s.after ≡ spell m (drop c (flatten t))
  back =
      sym (drop_at s.before (spell s.rest s.after) b s.at_gap) ∙ ap (drop b) (sym s.parted) ∙ parted (flatten t) b c (omega arith)
      ∙ ap (λ l. l ++ drop c (flatten t)) is
      ∙ sym (spell_append m (drop c (flatten t)))

  row : (r : Seq) → spell r s.after ≡ drop c (flatten t) → wrapped a b c (flatten t) ≡ s.before ++ spell (cons (beside m a) r) s.after
  row r e =
      ap₂ (λ k l. k ++ AndSplit ∷ (l ++ tail a (drop c (flatten t)))) front is
      ∙ ap (λ k. s.before ++ AndSplit ∷ k) (sym (spell_append m (tail a (drop c (flatten t)))) ∙ ap (λ k. spell m (tail a k)) (sym e))

  at_spot : Gives (InsertBeside a b c) t (Wrapped a b c t)
  at_spot =
      let r = first_items m s.rest (drop c (flatten t)) s.after s.ends back in
      let long : length (flatten m) ≡ c - b = ap length (sym is) ∙ stretch_long (flatten t) b c (omega arith) within in
      let w = s.swap (cons (beside m a) r.0) (m, r.0, long, r.1, refl) in
      (w.0, w.1, row r.0 r.2 ∙ sym w.2, wide (Gathered a (c - b)) (keeps a (c - b)) b t w.0 w.1)

pub wrapped_up : AnInsertBesideWrapsItems
wrapped_up t a b c order within (m, wide_m, is) =
    at_spot t a b c order within m is (spot (Gathered a (c - b)) t [] tt b (omega arith))
