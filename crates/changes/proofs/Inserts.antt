-- An insert fills a gap. Assumes nothing.
use Rattle.std.proofs.Common.{◌≡◌, ℕ, List, [], ◌∷◌, ◌++◌, length, sym, refl, ap, ap₂, ◌∙◌, subst}
use Rattle.std.proofs.lemmas.List.{take_at, drop_at}
use Rattle.std.specs.Prelude.{insert}
use Rattle.model.specs.declared.Element.{Element}
use Rattle.model.specs.declared.Element.TheVariants.{Activity}
use Rattle.model.specs.Trees.{Seq, cons, activity, spell, flatten, Wide}
use Rattle.changes.specs.declared.Change.TheVariants.{Insert}
use Rattle.changes.specs.Changed.{InFront, Inserted}
use Rattle.changes.specs.Laws.{Gives, AnInsertFillsAGap}
use Rattle.changes.proofs.Spots.{InSeq, spot}
use Rattle.changes.proofs.Widths.{wide}

inserted : (xs ps rs : List Element) (g : ℕ) (x : Element) → xs ≡ ps ++ rs → length ps ≡ g → insert xs g x ≡ ps ++ x ∷ rs
inserted xs ps rs g x e h =
    ap (λ l. insert l g x) e ∙ ap₂ (λ l m. l ++ x ∷ m) (take_at ps rs g h) (drop_at ps rs g h)

at_spot : (t : Seq) (a g : ℕ) → InSeq (InFront a) g t [] (flatten t) → Gives (Insert a g) t (Inserted a g t)
at_spot t a g s =
    let w = s.swap (cons (activity a) s.rest) refl in
    let row : insert (flatten t) g (Activity a) ≡ s.before ++ Activity a ∷ spell s.rest s.after =
    inserted (flatten t) s.before (spell s.rest s.after) g (Activity a) s.parted s.at_gap in
    (w.0, w.1, row ∙ sym w.2, wide (InFront a) (λ r u e k. subst Wide (sym e) (tt, k)) g t w.0 w.1)

pub filled : AnInsertFillsAGap
filled t a g h = at_spot t a g (spot (InFront a) t [] tt g h)
