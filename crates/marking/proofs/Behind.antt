-- The signal of a gap, by what stands before it: a node, the head of a branch, or a whole block. Assumes nothing.
use Rattle.std.proofs.Common.{◌≡◌, ℕ, ◌+◌, ◌<◌, ◌≤◌, ◌⊎◌, Bool, true, cond, List, [], ◌∷◌, length, get_or, Some, Option, sym, refl, ap, ◌∙◌, subst, inl, inr, arith}
use Rattle.std.proofs.lemmas.List.{get_or_past}
use Rattle.std.specs.declared.option.Option.TheVariants as option
use Rattle.std.specs.List.{slice_range}
use Rattle.model.specs.declared.Element.{Element}
use Rattle.model.specs.declared.Element.TheVariants.{Activity, AndSplit, Bar, AndJoin, XorSplit, XorJoin, LoopStart, LoopEnd}
use Rattle.model.specs.declared.Fact.{Fact}
use Rattle.model.specs.declared.Signal.{Signal}
use Rattle.model.specs.declared.Signal.TheVariants.{True, False, None}
use Rattle.model.specs.Trees.{Seq, flatten}
use Rattle.model.specs.Signals.{fact_of, is_done, is_false, decided, head_of}
use Rattle.layout.specs.declared.Position.{Position}
use Rattle.layout.specs.Gaps.{Begins, Closes, gap_of, Positioned, Ends}
use Rattle.marking.specs.declared.nearby.Before.{Before}
use Rattle.marking.specs.declared.nearby.Before.TheVariants.{Node, Head, Block, Astray}
use Rattle.marking.specs.Machine.{chosen, Gap, step, signals, start}
use Rattle.marking.specs.Nearby.{signal_in, dead, before, turned, ended, decision, alone}
use Rattle.marking.proofs.TreeSignals.{choice_first, head_at}
use Rattle.marking.proofs.Reaches.{headed}
use Rattle.marking.proofs.OneGap.{at_next, block_signal, alone_false}
use Rattle.marking.proofs.Around.{begins_before, head_by, head_plain, no_bar, no_end, start_before, start_alive, opens_block, behind_bar, ends_here}

-- what it says of the element and its position
abbrev Says : Element → ℕ → Position → Before → Type 0
Says x p h (Node i) = (x ≡ Activity i) ⊎ (x ≡ LoopEnd i)
Says x p h (Head s n) = (Begins x × (s ≡ p) × (n ≡ 0)) ⊎ ((x ≡ Bar) × (h.block ≡ Some s) × (n ≡ h.branch))
Says x p h (Block s) = Closes x × (h.block ≡ Some s)
Says x p h Astray = ((x ≡ Bar) ⊎ Closes x) × (h.block ≡ option.None)

module _ (p : ℕ) (h : Position) where
  says_turned : (b : Option ℕ) → h.block ≡ b → Says Bar p h (turned b h.branch)
  says_turned option.None e = (inl refl, e)
  says_turned (option.Some s) e = inr (refl, e, refl)

  says_ended : (x : Element) (b : Option ℕ) → Closes x → h.block ≡ b → Says x p h (ended b)
  says_ended x option.None c e = (inr c, e)
  says_ended x (option.Some s) c e = (c, e)

  says : (x : Element) → Says x p h (before x p h)
  says (Activity i) = inl refl
  says AndSplit = inl (tt, refl, refl)
  says Bar = says_turned h.block refl
  says AndJoin = says_ended AndJoin h.block tt refl
  says (XorSplit i) = inl (tt, refl, refl)
  says XorJoin = says_ended XorJoin h.block tt refl
  says LoopStart = inl (tt, refl, refl)
  says (LoopEnd i) = inr refl

-- what makes the same of none and of true, and false of false alone
steady : (f : Signal → Signal) → ((g : Signal) → is_false (f g) ≡ is_false g) → (v : Signal) → f None ≡ v → f True ≡ v
    → (g : Signal) → f g ≡ cond (is_false g) False v
steady f keeps v none all True = all
steady f keeps v none all None = none
steady f keeps v none all False = only (f False) (keeps False)
  where
    only : (g : Signal) → is_false g ≡ true → g ≡ False
    only True e = absurd cc
    only False e = refl
    only None e = absurd cc

module _ (fs : List Fact) where
  -- behind node i, where its place is dead or not
  abbrev node_by : ℕ → Bool → Signal
  node_by i k = cond k False (cond (is_done (fact_of fs i)) True None)

  -- behind an element that begins a block, its first branch does
  first_head : (x : Element) → Begins x → (o : Gap) → (step fs x o).signal ≡ headed fs x 0 o.signal
  first_head (Activity i) b o = elim b [ ]
  first_head AndSplit b o = refl
  first_head Bar b o = elim b [ ]
  first_head AndJoin b o = elim b [ ]
  first_head (XorSplit i) b o = ap (chosen (is_false o.signal)) (choice_first (fact_of fs i)) ∙ head_at (is_false o.signal) (decided (fact_of fs i)) 0 None
  first_head XorJoin b o = elim b [ ]
  first_head LoopStart b o = refl
  first_head (LoopEnd i) b o = elim b [ ]

module _ (xs : List Element) (fs : List Fact) (p gap : ℕ) (one : gap ≡ p + 1) (h : Position) (told : Positioned xs p (Some h)) where
  abbrev here : Element
  here = get_or xs p AndSplit

  said : (k : Before) → k ≡ before here p h → Says here p h k
  said k e = subst (Says here p h) (sym e) (says p h here)

  pub node_signal : (i : ℕ) → Node i ≡ before here p h
      → signal_in xs fs gap ≡ cond (dead xs fs p) False (cond (is_done (fact_of fs i)) True None)
  node_signal i e = ap (signal_in xs fs) one ∙ go (said (Node i) e)
    where
      behind : (x : Element) → here ≡ x → gap_of x p ≡ p → ((o : Gap) → (step fs x o).signal ≡ node_by fs i (is_false o.signal))
          → signal_in xs fs (p + 1) ≡ node_by fs i (dead xs fs p)
      behind x is plain steps =
          let r = at_next fs xs p told.0 in
          r.2 ∙ ap (λ y. (step fs y r.0).signal) is ∙ steps r.0 ∙ ap (λ g. node_by fs i (is_false g)) r.1
          ∙ ap (λ k. node_by fs i (is_false (signal_in xs fs k))) (sym (ap (λ y. gap_of y p) is ∙ plain))

      go : (here ≡ Activity i) ⊎ (here ≡ LoopEnd i) → signal_in xs fs (p + 1) ≡ node_by fs i (dead xs fs p)
      go (inl is) = behind (Activity i) is refl (λ o. refl)
      go (inr is) = behind (LoopEnd i) is refl (λ o. refl)

  module _ (s n : ℕ) (e : Head s n ≡ before here p h) where
    pub head_before : s ≤ p
    head_before = go (said (Head s n) e)
      where
        go : (Begins here × (s ≡ p) × (n ≡ 0)) ⊎ ((here ≡ Bar) × (h.block ≡ Some s) × (n ≡ h.branch)) → s ≤ p
        go (inl w) = omega (arith, w.1)
        go (inr w) = let less = start_before xs fs p h told s w.1 in omega arith

    head_begins : Begins (get_or xs s AndSplit)
    head_begins = go (said (Head s n) e)
      where
        go : (Begins here × (s ≡ p) × (n ≡ 0)) ⊎ ((here ≡ Bar) × (h.block ≡ Some s) × (n ≡ h.branch)) → Begins (get_or xs s AndSplit)
        go (inl w) = subst (λ k. Begins (get_or xs k AndSplit)) (sym w.1) w.0
        go (inr w) = opens_block xs fs p h told s w.1

    head_signal : signal_in xs fs (p + 1) ≡ headed fs (get_or xs s AndSplit) n (signal_in xs fs s)
    head_signal = go (said (Head s n) e)
      where
        go : (Begins here × (s ≡ p) × (n ≡ 0)) ⊎ ((here ≡ Bar) × (h.block ≡ Some s) × (n ≡ h.branch))
            → signal_in xs fs (p + 1) ≡ headed fs (get_or xs s AndSplit) n (signal_in xs fs s)
        go (inl w) =
            let r = at_next fs xs p told.0 in
            r.2 ∙ first_head fs here w.0 r.0 ∙ ap (headed fs here 0) r.1
            ∙ ap (λ k. headed fs (get_or xs k AndSplit) 0 (signal_in xs fs k)) (sym w.1)
            ∙ ap (λ m. headed fs (get_or xs s AndSplit) m (signal_in xs fs s)) (sym w.2)
        go (inr w) = behind_bar xs fs p h told s w.1 w.0 ∙ ap (λ m. headed fs (get_or xs s AndSplit) m (signal_in xs fs s)) (sym w.2)

    pub decided_head : (i : ℕ) → decision (get_or xs s AndSplit) ≡ Some i → signal_in xs fs gap ≡ head_of (dead xs fs s) (decided (fact_of fs i)) n
    decided_head i is =
        ap (signal_in xs fs) one ∙ head_signal ∙ head_by fs (get_or xs s AndSplit) n i (signal_in xs fs s) is
        ∙ ap (λ k. head_of (is_false (signal_in xs fs k)) (decided (fact_of fs i)) n) (sym (begins_before (get_or xs s AndSplit) s head_begins))

    pub plain_head : decision (get_or xs s AndSplit) ≡ option.None → signal_in xs fs gap ≡ signal_in xs fs s
    plain_head is = ap (signal_in xs fs) one ∙ head_signal ∙ head_plain fs (get_or xs s AndSplit) n (signal_in xs fs s) is

  module _ (s : ℕ) (e : Block s ≡ before here p h) where
    pub block_before : s < p
    block_before = start_before xs fs p h told s (said (Block s) e).1

    closed : Ends xs s p
    closed = let w = said (Block s) e in ends_here xs fs p h told s w.1 w.0

    pub behind_block : signal_in xs fs gap ≡ alone fs (slice_range xs s gap) (signal_in xs fs s)
    behind_block =
        ap (signal_in xs fs) one ∙ block_signal fs xs closed ∙ ap (λ k. alone fs (slice_range xs s k) (signal_in xs fs s)) (sym one)

    keeps : (g : Signal) → is_false (alone fs (slice_range xs s gap) g) ≡ is_false g
    keeps g = ap (λ k. is_false (alone fs (slice_range xs s k) g)) one ∙ alone_false fs xs closed g

    pub steady_block : (v : Signal) → alone fs (slice_range xs s gap) None ≡ v → alone fs (slice_range xs s gap) True ≡ v
        → signal_in xs fs gap ≡ cond (dead xs fs s) False v
    steady_block v none all =
        behind_block ∙ steady (alone fs (slice_range xs s gap)) keeps v none all (signal_in xs fs s)
        ∙ ap (λ k. cond k False v) (start_alive xs fs p h told s (said (Block s) e).1)

  pub none_astray : (t : Seq) → xs ≡ flatten t → Astray ≡ before here p h → ⊥
  none_astray t is e = let w = said Astray e in go w.0 w.1
    where
      go : (here ≡ Bar) ⊎ Closes here → h.block ≡ option.None → ⊥
      go (inl bar) none = no_bar xs fs p h told none bar
      go (inr closes) none = no_end xs fs p h told none t is closes

-- past the row's end there is none
signals_long : (fs : List Fact) (xs : List Element) (o : Gap) → length (signals fs o xs) ≡ length xs + 1
signals_long fs [] o = refl
signals_long fs (x ∷ xs) o = let n = signals_long fs xs (step fs x o) in omega (arith, n)

pub past_signal : (fs : List Fact) (xs : List Element) (p : ℕ) → length xs < p → None ≡ signal_in xs fs p
past_signal fs xs p h = let n = signals_long fs xs start in sym (get_or_past (signals fs start xs) p None (omega (arith, n)))
