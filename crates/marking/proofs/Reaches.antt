-- Where the pass from left to right is behind items, and in a block that is still open. Assumes nothing.
use Rattle.std.proofs.Common.{◌≡◌, ℕ, ◌+◌, Bool, true, cond, ◌&&◌, List, [], ◌∷◌, ◌++◌, length, get_or, Option, refl, ap, ◌∙◌, arith}
use Rattle.model.specs.declared.Element.{Element}
use Rattle.model.specs.declared.Element.TheVariants.{Activity, AndSplit, Bar, AndJoin, XorSplit, XorJoin, LoopStart, LoopEnd}
use Rattle.model.specs.declared.Fact.{Fact}
use Rattle.model.specs.declared.Signal.{Signal}
use Rattle.model.specs.declared.Signal.TheVariants.{False, None}
use Rattle.marking.specs.declared.signals.Opened.{Opened}
use Rattle.marking.specs.declared.signals.Opened.TheVariants.{And, Xor}
use Rattle.model.specs.Trees.{Seq, nil, cons, Item, activity, loop, and, xor, Branches, last, bar, spell, spell_item, spell_branches, count}
use Rattle.model.specs.Signals.{fact_of, is_true, is_false, and_joined, decided, is_branch, head_of, ends, after, all_true, decided_end}
use Rattle.layout.specs.Gaps.{Begins}
use Rattle.layout.proofs.Shapes.{some_branch}
use Rattle.marking.specs.Machine.{chosen, ending, Gap, gap, step, signals, reach}
use Rattle.marking.proofs.TreeSignals.{choice_at, found, and_assoc, head_at, turned_at, found_more, found_last, found_first, choice_first}

module _ (fs : List Fact) where
  pub reach_append : (us ys : List Element) (st : Gap) → reach fs st (us ++ ys) ≡ reach fs (reach fs st us) ys
  reach_append [] ys st = refl
  reach_append (x ∷ us) ys st = reach_append us ys (step fs x st)

  pub signal_reached : (us ys : List Element) (st : Gap) → get_or (signals fs st (us ++ ys)) (length us) None ≡ (reach fs st us).signal
  signal_reached [] [] st = refl
  signal_reached [] (y ∷ ys) st = refl
  signal_reached (x ∷ us) ys st = signal_reached us ys (step fs x st)

  -- into an XOR block, and over one of its bars
  into_xor : (i : ℕ) (g : Signal) (s : List Opened) (ys : List Element)
      → reach fs (gap g s) (XorSplit i ∷ ys)
      ≡ reach fs (gap (head_of (is_false g) (decided (fact_of fs i)) 0) (Xor (is_false g) (choice_at (decided (fact_of fs i)) 0 None) ∷ s)) ys
  into_xor i g s ys =
      let k = is_false g in
      let o = decided (fact_of fs i) in
      ap (λ c. reach fs (gap (chosen k c) (Xor k c ∷ s)) ys) (choice_first (fact_of fs i))
      ∙ ap (λ v. reach fs (gap v (Xor k (choice_at o 0 None) ∷ s)) ys) (head_at k o 0 None)

  over_bar : (k : Bool) (o : Option ℕ) (i : ℕ) (e g : Signal) (s : List Opened) (ys : List Element)
      → reach fs (gap g (Xor k (choice_at o i e) ∷ s)) (Bar ∷ ys)
      ≡ reach fs (gap (head_of k o (i + 1)) (Xor k (choice_at o (i + 1) (cond (is_branch o i) g e)) ∷ s)) ys
  over_bar k o i e g s ys =
      let e' = cond (is_branch o i) g e in
      ap (λ c. reach fs (gap (chosen k c) (Xor k c ∷ s)) ys) (turned_at o i e g)
      ∙ ap (λ v. reach fs (gap v (Xor k (choice_at o (i + 1) e') ∷ s)) ys) (head_at k o (i + 1) e')

  mutual
    pub past_seq : (t : Seq) (g : Signal) (s : List Opened) (ys : List Element)
        → reach fs (gap g s) (spell t ys) ≡ reach fs (gap (ends fs t g) s) ys
    past_seq nil g s ys = refl
    past_seq (cons x t) g s ys = past_item x g s (spell t ys) ∙ past_seq t (after fs x g) s ys

    pub past_item : (x : Item) (g : Signal) (s : List Opened) (ys : List Element)
        → reach fs (gap g s) (spell_item x ys) ≡ reach fs (gap (after fs x g) s) ys
    past_item (activity i) g s ys = refl
    past_item (loop t i) g s ys = past_seq t g s (LoopEnd i ∷ ys)
    past_item (and b) g s ys = past_and b g true s ys
    past_item (xor i b) g s ys =
        let k = is_false g in
        let o = decided (fact_of fs i) in
        into_xor i g s (spell_branches b (XorJoin ∷ ys))
        ∙ past_xor b k o 0 None s ys
        ∙ ap (λ v. reach fs (gap (cond k False v) s) ys) (found_first o None (decided_end fs b k o 0))

    past_and : (b : Branches) (g : Signal) (all : Bool) (s : List Opened) (ys : List Element)
        → reach fs (gap g (And g all ∷ s)) (spell_branches b (AndJoin ∷ ys)) ≡ reach fs (gap (and_joined g (all && all_true fs b g)) s) ys
    past_and (last t) g all s ys = past_seq t g (And g all ∷ s) (AndJoin ∷ ys)
    past_and (bar t b) g all s ys =
        past_seq t g (And g all ∷ s) (Bar ∷ spell_branches b (AndJoin ∷ ys))
        ∙ past_and b g (all && is_true (ends fs t g)) s ys
        ∙ ap (λ v. reach fs (gap (and_joined g v) s) ys) (and_assoc all (is_true (ends fs t g)) (all_true fs b g))

    past_xor : (b : Branches) (k : Bool) (o : Option ℕ) (i : ℕ) (e : Signal) (s : List Opened) (ys : List Element)
        → reach fs (gap (head_of k o i) (Xor k (choice_at o i e) ∷ s)) (spell_branches b (XorJoin ∷ ys))
        ≡ reach fs (gap (cond k False (found o i e (decided_end fs b k o i))) s) ys
    past_xor (last t) k o i e s ys =
        past_seq t (head_of k o i) (Xor k (choice_at o i e) ∷ s) (XorJoin ∷ ys)
        ∙ ap (λ v. reach fs (gap (cond k False v) s) ys)
        (ap ending (turned_at o i e (ends fs t (head_of k o i))) ∙ found_last o i e (ends fs t (head_of k o i)))
    past_xor (bar t b) k o i e s ys =
        let g = ends fs t (head_of k o i) in
        let e' = cond (is_branch o i) g e in
        past_seq t (head_of k o i) (Xor k (choice_at o i e) ∷ s) (Bar ∷ spell_branches b (XorJoin ∷ ys))
        ∙ over_bar k o i e g s (spell_branches b (XorJoin ∷ ys))
        ∙ past_xor b k o (i + 1) e' s ys
        ∙ ap (λ v. reach fs (gap (cond k False v) s) ys) (found_more o i e g (decided_end fs b k o (i + 1)))

-- the branch that is read
abbrev pub current : Branches → Seq
current (last t) = t
current (bar t b) = current b

module _ (fs : List Fact) where
  -- at branch n of a block that begins with x behind g, the signal at the branch's head
  abbrev pub headed : Element → ℕ → Signal → Signal
  headed (Activity i) n g = g
  headed AndSplit n g = g
  headed Bar n g = g
  headed AndJoin n g = g
  headed (XorSplit i) n g = head_of (is_false g) (decided (fact_of fs i)) n
  headed XorJoin n g = g
  headed LoopStart n g = g
  headed (LoopEnd i) n g = g

  -- what stands on top for the block
  abbrev pub Top : Element → ℕ → Gap → List Opened → Type 0
  Top (Activity i) n o s = ⊥
  Top AndSplit n o s = (a : Bool) × (s ≡ And o.signal a ∷ o.blocks)
  Top Bar n o s = ⊥
  Top AndJoin n o s = ⊥
  Top (XorSplit i) n o s = (e : Signal) × (s ≡ Xor (is_false o.signal) (choice_at (decided (fact_of fs i)) n e) ∷ o.blocks)
  Top XorJoin n o s = ⊥
  Top LoopStart n o s = s ≡ o.blocks
  Top (LoopEnd i) n o s = ⊥

  -- where the pass is in the branch n, of which it has passed the items u, of a block that begins behind o
  pub record Open (x : Element) (n : ℕ) (o : Gap) (u : Seq) (h : Gap) : Type 0 where
    pub signal : h.signal ≡ ends fs u (headed x n o.signal)
    pub blocks : Top x n o h.blocks

  in_and : (b : Branches) (g : Signal) (all : Bool) (s : List Opened)
      → (a : Bool) × (reach fs (gap g (And g all ∷ s)) (spell_branches b []) ≡ gap (ends fs (current b) g) (And g a ∷ s))
  in_and (last t) g all s = (all, past_seq fs t g (And g all ∷ s) [])
  in_and (bar t b) g all s =
      let r = in_and b g (all && is_true (ends fs t g)) s in
      (r.0, past_seq fs t g (And g all ∷ s) (Bar ∷ spell_branches b []) ∙ r.1)

  in_xor : (b : Branches) (k : Bool) (o : Option ℕ) (i n : ℕ) (e : Signal) (s : List Opened) → i + count b ≡ n + 1
      → (f : Signal) × (reach fs (gap (head_of k o i) (Xor k (choice_at o i e) ∷ s)) (spell_branches b [])
      ≡ gap (ends fs (current b) (head_of k o n)) (Xor k (choice_at o n f) ∷ s))
  in_xor (last t) k o i n e s is =
      let same : i ≡ n = omega arith in (
        e,
        past_seq fs t (head_of k o i) (Xor k (choice_at o i e) ∷ s) []
            ∙ ap (λ m. gap (ends fs t (head_of k o m)) (Xor k (choice_at o m e) ∷ s)) same,
      )
  in_xor (bar t b) k o i n e s is =
      let g = ends fs t (head_of k o i) in
      let r = in_xor b k o (i + 1) n (cond (is_branch o i) g e) s (omega arith) in (
        r.0,
        past_seq fs t (head_of k o i) (Xor k (choice_at o i e) ∷ s) (Bar ∷ spell_branches b [])
            ∙ over_bar fs k o i e g s (spell_branches b []) ∙ r.1,
      )

  pub opens : (x : Element) (b : Branches) (n : ℕ) (o : Gap) → Begins x → count b ≡ n + 1 → (x ≡ LoopStart → n ≡ 0)
      → Open x n o (current b) (reach fs (step fs x o) (spell_branches b []))
  opens (Activity i) b n o begins is one = elim begins [ ]
  opens AndSplit b n o begins is one =
      let r = in_and b o.signal true o.blocks in
      record { signal = ap (λ h. h.signal) r.1; blocks = (r.0, ap (λ h. h.blocks) r.1) }
  opens Bar b n o begins is one = elim begins [ ]
  opens AndJoin b n o begins is one = elim begins [ ]
  opens (XorSplit i) b n o begins is one =
      let k = is_false o.signal in
      let d = decided (fact_of fs i) in
      let r = in_xor b k d 0 n None o.blocks (omega (arith, is)) in
      let e = into_xor fs i o.signal o.blocks (spell_branches b []) ∙ r.1 in
      record { signal = ap (λ h. h.signal) e; blocks = (r.0, ap (λ h. h.blocks) e) }
  opens XorJoin b n o begins is one = elim begins [ ]
  opens LoopStart (last t) n o begins is one =
      let e = past_seq fs t o.signal o.blocks [] in
      record { signal = ap (λ h. h.signal) e; blocks = ap (λ h. h.blocks) e }
  opens LoopStart (bar t b) n o begins is one = let zero = one refl in let r = some_branch b in absurd (omega (arith, r.1))
  opens (LoopEnd i) b n o begins is one = elim begins [ ]
