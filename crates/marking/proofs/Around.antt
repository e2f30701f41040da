-- What the position of an element tells of the signals around it. Assumes nothing.
use Rattle.std.proofs.Common.{◌≡◌, ℕ, ◌+◌, ◌<◌, ◌⊎◌, Bool, true, false, cond, not, eqb, List, ◌∷◌, length, get_or, Some, Option, sym, refl, ap, ◌∙◌, subst, inl, inr, ⊎_elim, arith, length-append}
use Rattle.std.proofs.lemmas.List.{get_or_default}
use Rattle.std.proofs.lemmas.Bool.{cases_eq}
use Rattle.std.specs.declared.option.Option.TheVariants as option
use Rattle.model.specs.declared.Element.{Element}
use Rattle.model.specs.declared.Element.TheVariants.{Activity, AndSplit, Bar, AndJoin, XorSplit, XorJoin, LoopStart, LoopEnd}
use Rattle.model.specs.declared.Fact.{Fact}
use Rattle.model.specs.declared.Signal.{Signal}
use Rattle.model.specs.declared.Signal.TheVariants.{True, False, None}
use Rattle.model.specs.Trees.{Seq, spell_branches, flatten}
use Rattle.model.specs.Signals.{fact_of, is_false, decided, head_of}
use Rattle.layout.specs.declared.Position.{Position}
use Rattle.layout.specs.Gaps.{Begins, Closes, Inside, Whole, Within, Gap, free, block, gap_of, Closed, Positioned, Ends}
use Rattle.layout.proofs.Facts.{within_opener, closes_end, whole_closes}
use Rattle.layout.proofs.Shapes.{spell_longer_branches}
use Rattle.marking.specs.Nearby.{signal_in, dead, decision, branch_of, fell_against}
use Rattle.marking.proofs.Reaches.{headed}
use Rattle.marking.proofs.OneGap.{whole_false, within_false, bar_signal}

one_gap : (x : Element) (p : ℕ) → (gap_of x p ≡ p) ⊎ ((x ≡ Bar) × (gap_of x p ≡ p + 1))
one_gap (Activity i) p = inl refl
one_gap AndSplit p = inl refl
one_gap Bar p = inr (refl, refl)
one_gap AndJoin p = inl refl
one_gap (XorSplit i) p = inl refl
one_gap XorJoin p = inl refl
one_gap LoopStart p = inl refl
one_gap (LoopEnd i) p = inl refl

-- what no bar is stands at the gap before it
pub stands_before : (P : Element → Type 0) → (P Bar → ⊥) → (x : Element) (p : ℕ) → P x → gap_of x p ≡ p
stands_before P never x p h = ⊎_elim (λ e. e) (λ w. absurd (never (subst P w.0 h))) (one_gap x p)

pub begins_before : (x : Element) (s : ℕ) → Begins x → gap_of x s ≡ s
begins_before = stands_before Begins (λ b. b)

closes_before : (x : Element) (p : ℕ) → Closes x → gap_of x p ≡ p
closes_before = stands_before Closes (λ c. c)

false_or_not : (k b : Bool) → is_false (cond b True False) ≡ not b
false_or_not k true = refl
false_or_not k false = refl

same_false : (k : Bool) → is_false (cond k False None) ≡ k
same_false true = refl
same_false false = refl

module _ (fs : List Fact) where
  -- the head of a branch of a block that was decided, and of one that was not
  head_decided : (x : Element) (n d : ℕ) (g : Signal) → branch_of fs (decision x) ≡ Some d → is_false (headed fs x n g) ≡ not (eqb d n)
  head_decided (Activity i) n d g e = absurd cc
  head_decided AndSplit n d g e = absurd cc
  head_decided Bar n d g e = absurd cc
  head_decided AndJoin n d g e = absurd cc
  head_decided (XorSplit i) n d g e = ap (λ o. is_false (head_of (is_false g) o n)) e ∙ false_or_not (is_false g) (eqb d n)
  head_decided XorJoin n d g e = absurd cc
  head_decided LoopStart n d g e = absurd cc
  head_decided (LoopEnd i) n d g e = absurd cc

  head_open : (x : Element) (n : ℕ) (g : Signal) → branch_of fs (decision x) ≡ option.None → is_false (headed fs x n g) ≡ is_false g
  head_open (Activity i) n g e = refl
  head_open AndSplit n g e = refl
  head_open Bar n g e = refl
  head_open AndJoin n g e = refl
  head_open (XorSplit i) n g e = ap (λ o. is_false (head_of (is_false g) o n)) e ∙ same_false (is_false g)
  head_open XorJoin n g e = refl
  head_open LoopStart n g e = refl
  head_open (LoopEnd i) n g e = refl

  -- of a block with a decision, and of one with none
  pub head_by : (x : Element) (n i : ℕ) (g : Signal) → decision x ≡ Some i → headed fs x n g ≡ head_of (is_false g) (decided (fact_of fs i)) n
  head_by (Activity j) n i g e = absurd cc
  head_by AndSplit n i g e = absurd cc
  head_by Bar n i g e = absurd cc
  head_by AndJoin n i g e = absurd cc
  head_by (XorSplit j) n i g e = let same : j ≡ i = cc in ap (λ k. head_of (is_false g) (decided (fact_of fs k)) n) same
  head_by XorJoin n i g e = absurd cc
  head_by LoopStart n i g e = absurd cc
  head_by (LoopEnd j) n i g e = absurd cc

  pub head_plain : (x : Element) (n : ℕ) (g : Signal) → decision x ≡ option.None → headed fs x n g ≡ g
  head_plain (Activity i) n g e = refl
  head_plain AndSplit n g e = refl
  head_plain Bar n g e = refl
  head_plain AndJoin n g e = refl
  head_plain (XorSplit i) n g e = absurd cc
  head_plain XorJoin n g e = refl
  head_plain LoopStart n g e = refl
  head_plain (LoopEnd i) n g e = refl

module _ (xs : List Element) (fs : List Fact) (p : ℕ) (h : Position) (told : Positioned xs p (Some h)) where
  abbrev here : Element
  here = get_or xs p AndSplit

  -- outside every block
  module _ (outside : h.block ≡ option.None) where
    around_none : Whole xs (gap_of here p)
    around_none = subst (Inside xs (gap_of here p) h) outside told.1.inside

    pub dead_outside : dead xs fs p ≡ false
    dead_outside = whole_false fs xs (gap_of here p) around_none

    free_first : {ys : List Element} (o : Position) → Gap xs ys o → o.block ≡ option.None → o.branch ≡ 0
    free_first o (free u e) is = refl
    free_first o (block x b n s begins left number around) is = absurd cc

    pub no_bar : here ≡ Bar → ⊥
    no_bar is = let later = told.1.later is in let first = free_first h told.1.gap outside in omega arith

    pub no_end : (t : Seq) → xs ≡ flatten t → Closes here → ⊥
    no_end t is closes =
        whole_closes t is told.0 (subst (Whole xs) (closes_before here p closes) around_none)
        (subst Closes (get_or_default xs p AndSplit Bar told.0) closes)

  -- in the block that begins at s
  module _ (s : ℕ) (inside : h.block ≡ Some s) where
    abbrev opener : Element
    opener = get_or xs s AndSplit

    around_some : Within xs s (gap_of here p) h.branch
    around_some = subst (Inside xs (gap_of here p) h) inside told.1.inside

    end_of : (e : ℕ) × Ends xs s e
    end_of = subst (Closed xs) inside told.2

    pub opens_block : Begins opener
    opens_block = subst Begins (sym (within_opener AndSplit around_some)) around_some.begins

    pub start_before : s < p
    start_before =
        let w = around_some in
        let n = ap length w.parted ∙ length-append w.before (w.opener ∷ spell_branches w.branches w.after) in
        let m = spell_longer_branches w.branches w.after in
        let less : s < gap_of here p = omega (arith, n, m, w.at_start, w.at_place) in
        go (one_gap here p) less
      where
        go : (gap_of here p ≡ p) ⊎ ((here ≡ Bar) × (gap_of here p ≡ p + 1)) → s < gap_of here p → s < p
        go (inl e) less = omega arith
        go (inr e) less = apart (cases_eq s p)
          where
            apart : (s ≡ p) ⊎ (s ≡ p → ⊥) → s < p
            apart (inl same) = absurd (let b : Begins Bar = subst Begins (ap (λ k. get_or xs k AndSplit) same ∙ e.0) opens_block in b)
            apart (inr other) = let after = e.1 in omega arith

    pub start_alive : is_false (signal_in xs fs s) ≡ dead xs fs s
    start_alive = ap (λ k. is_false (signal_in xs fs k)) (sym (begins_before opener s opens_block))

    around : dead xs fs p ≡ is_false (headed fs opener h.branch (signal_in xs fs s))
    around = within_false fs xs around_some end_of.1

    pub dead_told : (against : Bool) → fell_against (branch_of fs (decision opener)) h.branch ≡ Some against → dead xs fs p ≡ against
    dead_told against e = go (branch_of fs (decision opener)) refl
      where
        go : (o : Option ℕ) → branch_of fs (decision opener) ≡ o → dead xs fs p ≡ against
        go option.None is = let f : fell_against option.None h.branch ≡ Some against = ap (λ o. fell_against o h.branch) (sym is) ∙ e in absurd cc
        go (option.Some d) is =
            let f : fell_against (Some d) h.branch ≡ Some against = ap (λ o. fell_against o h.branch) (sym is) ∙ e in
            around ∙ head_decided fs opener h.branch d (signal_in xs fs s) is ∙ cc

    pub dead_open : fell_against (branch_of fs (decision opener)) h.branch ≡ option.None → dead xs fs p ≡ dead xs fs s
    dead_open e = go (branch_of fs (decision opener)) refl
      where
        go : (o : Option ℕ) → branch_of fs (decision opener) ≡ o → dead xs fs p ≡ dead xs fs s
        go option.None is = around ∙ head_open fs opener h.branch (signal_in xs fs s) is ∙ start_alive
        go (option.Some d) is =
            let f : fell_against (Some d) h.branch ≡ option.None = ap (λ o. fell_against o h.branch) (sym is) ∙ e in
            absurd cc

    pub behind_bar : here ≡ Bar → signal_in xs fs (p + 1) ≡ headed fs opener h.branch (signal_in xs fs s)
    behind_bar is =
        bar_signal fs xs (subst (λ k. Within xs s k h.branch) (ap (λ x. gap_of x p) is) around_some) end_of.1 told.0 is (told.1.later is)

    pub ends_here : Closes here → Ends xs s p
    ends_here closes =
        let w : Within xs s p h.branch = subst (λ k. Within xs s k h.branch) (closes_before here p closes) around_some in
        let same = closes_end w (subst Closes (get_or_default xs p AndSplit Bar told.0) closes) end_of.1 in
        subst (Ends xs s) (sym same) end_of.1
