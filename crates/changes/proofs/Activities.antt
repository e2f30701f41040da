-- The activities of a tree and of its row. Assumes nothing.
use Rattle.std.proofs.Common.{◌≡◌, ℕ, ◌⊎◌, true, List, [], ◌∷◌, ◌++◌, ap, ◌∙◌, inl, inr, arith}
use Rattle.std.proofs.lemmas.Bool.{eqb-true, or_cases, false≢true}
use Rattle.model.specs.declared.Element.{Element}
use Rattle.model.specs.declared.Element.TheVariants.{Activity, Bar, AndJoin, XorJoin, LoopEnd}
use Rattle.model.specs.Trees.{Seq, nil, cons, Item, activity, loop, and, xor, Branches, last, bar, spell, spell_item, spell_branches}
use Rattle.model.specs.Nodes.{Holds, HoldsItem, HoldsBranches}
use Rattle.layout.proofs.Items.{spelt}
use Rattle.changes.specs.Effects.{is_activity, has_activity}
use Rattle.changes.specs.Laws.{ActivitiesAreTold}

module _ (a : ℕ) where
  abbrev Later : List Element → Type 0
  Later ys = has_activity ys a ≡ true

  mutual
    held : (t : Seq) (ys : List Element) → Later (spell t ys) → Holds t (activity a) ⊎ Later ys
    held nil ys h = inr h
    held (cons x t) ys h = elim (held_item x (spell t ys) h) [
      | inl k ↦ inl (inl k)
      | inr k ↦ elim (held t ys k) [
        | inl m ↦ inl (inr m)
        | inr m ↦ inr m
      ]
    ]

    held_item : (x : Item) (ys : List Element) → Later (spell_item x ys) → ((activity a ≡ x) ⊎ HoldsItem x (activity a)) ⊎ Later ys
    held_item (activity i) ys h = elim (or_cases (is_activity (Activity i) a) (has_activity ys a) h) [
      | inl k ↦ inl (inl (ap activity (eqb-true a i k)))
      | inr k ↦ inr k
    ]
    held_item (loop t i) ys h = elim (held t (LoopEnd i ∷ ys) h) [
      | inl k ↦ inl (inr k)
      | inr k ↦ inr k
    ]
    held_item (and b) ys h = elim (held_branches b (AndJoin ∷ ys) h) [
      | inl k ↦ inl (inr k)
      | inr k ↦ inr k
    ]
    held_item (xor i b) ys h = elim (held_branches b (XorJoin ∷ ys) h) [
      | inl k ↦ inl (inr k)
      | inr k ↦ inr k
    ]

    held_branches : (b : Branches) (ys : List Element) → Later (spell_branches b ys) → HoldsBranches b (activity a) ⊎ Later ys
    held_branches (last t) ys h = held t ys h
    held_branches (bar t b) ys h = elim (held t (Bar ∷ spell_branches b ys) h) [
      | inl k ↦ inl (inl k)
      | inr k ↦ elim (held_branches b ys k) [
        | inl m ↦ inl (inr m)
        | inr m ↦ inr m
      ]
    ]

  pub in_middle : (xs ys : List Element) → has_activity (xs ++ Activity a ∷ ys) a ≡ true
  in_middle [] ys = grind arith
  in_middle (x ∷ xs) ys = grind (arith, in_middle xs ys)

pub told : ActivitiesAreTold
told t a = (
  λ h. elim (held a t [] h) [
    | inl k ↦ k
    | inr k ↦ absurd (false≢true k)
  ],
  λ h. let s = spelt t (activity a) [] h in ap (λ l. has_activity l a) s.parted ∙ in_middle a s.before s.after,
)
