-- Along a run nodes with facts have true signals, and facts and signals only grow. Assumes nothing.
use Rattle.std.proofs.Common.{◌≡◌, ℕ, ◌<◌, Bool, true, ◌⊎◌, List, [], ◌∷◌, length, set, Option, sym, refl, ap, ◌∙◌, subst, inl, inr, ⊎_elim, arith, length-set}
use Rattle.std.specs.declared.option.Option.TheVariants as option
use Rattle.std.proofs.lemmas.List.{get_or-set_same, get_or-set_other, length-replicate}
use Rattle.std.proofs.lemmas.Bool.{cases_eq, false≢true}
use Rattle.bounded.proofs.Replicas.{get_or-replicate_default}
use Rattle.model.specs.declared.Element.{Element}
use Rattle.model.specs.declared.Entry.{Entry}
use Rattle.model.specs.declared.Entry.TheVariants.{Start, End, Choose, Leave}
use Rattle.model.specs.declared.Fact.{Fact}
use Rattle.model.specs.declared.Fact.TheVariants.{Nothing, Begun, Ended, Decided, Left}
use Rattle.model.specs.declared.Signal.{Signal}
use Rattle.model.specs.declared.Signal.TheVariants.{True, False, None}
use Rattle.model.specs.declared.State.{State}
use Rattle.model.specs.declared.State.TheVariants.{NotActivated, Skipped}
use Rattle.model.specs.Entries.{entry_id, needed, fact_set}
use Rattle.model.specs.Trees.{flatten}
use Rattle.model.specs.Signals.{fact_of, tree_signals}
use Rattle.model.specs.States.{state_of}
use Rattle.schema.specs.Checks.{SchemaParts}
use Rattle.schema.proofs.Checked.{checked_fine, checked_nested}
use Rattle.marking.specs.Machine.{signals, start}
use Rattle.marking.specs.States.{own, free, with_signal}
use Rattle.marking.proofs.TreeSignals.{on_tree}
use Rattle.runs.specs.Steps.{Allowed, Runs, ends, steps}
use Rattle.agreement.specs.Laws.{Checked, no_facts}
use Rattle.agreement.specs.Growth.{has_fact, Grown, Leq}
use Rattle.agreement.proofs.Progress.{rank, rank_needed, step_of}
use Rattle.agreement.proofs.SoundRows.{Stands, Leqs, own_stands, stands_own, stood}
use Rattle.agreement.proofs.GrowTrees.{Rule, Fit, leq_refl, grow_tree}

grown_refl : (f : Fact) → Grown f f
grown_refl Nothing = tt
grown_refl Begun = inl refl
grown_refl Ended = refl
grown_refl (Decided b) = refl
grown_refl Left = refl

grown_trans : (f g h : Fact) → Grown f g → Grown g h → Grown f h
grown_trans Nothing g h p q = tt
grown_trans Begun g h (inl e) q = subst (λ x. Grown x h) e q
grown_trans Begun g h (inr e) q = inr (subst (λ x. Grown x h) e q)
grown_trans Ended g h p q = subst (λ x. Grown x h) p q
grown_trans (Decided b) g h p q = subst (λ x. Grown x h) p q
grown_trans Left g h p q = subst (λ x. Grown x h) p q

leq_trans : (u v w : Signal) → Leq u v → Leq v w → Leq u w
leq_trans True v w p q = subst (λ x. Leq x w) p q
leq_trans False v w p q = subst (λ x. Leq x w) p q
leq_trans None v w p q = tt

-- a step finds a fact that its own outgrows
grown_rank : (e : Entry) (f : Fact) → rank f ≡ rank_needed e → Grown f (fact_set e)
grown_rank e Nothing h = tt
grown_rank (Start i) Begun h = inl refl
grown_rank (End i) Begun h = inr refl
grown_rank (Choose i b) Begun h = absurd (omega arith)
grown_rank (Leave i) Begun h = absurd (omega arith)
grown_rank (Start i) Ended h = absurd (omega arith)
grown_rank (End i) Ended h = absurd (omega arith)
grown_rank (Choose i b) Ended h = absurd (omega arith)
grown_rank (Leave i) Ended h = absurd (omega arith)
grown_rank (Start i) (Decided d) h = absurd (omega arith)
grown_rank (End i) (Decided d) h = absurd (omega arith)
grown_rank (Choose i b) (Decided d) h = absurd (omega arith)
grown_rank (Leave i) (Decided d) h = absurd (omega arith)
grown_rank (Start i) Left h = absurd (omega arith)
grown_rank (End i) Left h = absurd (omega arith)
grown_rank (Choose i b) Left h = absurd (omega arith)
grown_rank (Leave i) Left h = absurd (omega arith)

never : {P : Type 0} (e : Entry) (s : State) → s ≡ needed e → (s ≡ Skipped) ⊎ (s ≡ NotActivated) → P
never (Start i) s h (inl k) = absurd cc
never (Start i) s h (inr k) = absurd cc
never (End i) s h (inl k) = absurd cc
never (End i) s h (inr k) = absurd cc
never (Choose i b) s h (inl k) = absurd cc
never (Choose i b) s h (inr k) = absurd cc
never (Leave i) s h (inl k) = absurd cc
never (Leave i) s h (inr k) = absurd cc

-- where nodes with facts have true signals, so has the node of a step
step_true : (e : Entry) (v : Signal) (f : Fact) (r : Bool) → state_of v f r ≡ needed e → (has_fact f ≡ true → v ≡ True) → v ≡ True
step_true e True f r h s = refl
step_true e False f r h s = never e Skipped h (inl refl)
step_true e None Nothing r h s = never e NotActivated h (inr refl)
step_true e None Begun r h s = s refl
step_true e None Ended r h s = s refl
step_true e None (Decided b) r h s = s refl
step_true e None Left r h s = s refl

no_fact : (f : Fact) → (has_fact f ≡ true → ⊥) → f ≡ Nothing
no_fact Nothing h = refl
no_fact Begun h = absurd (h refl)
no_fact Ended h = absurd (h refl)
no_fact (Decided b) h = absurd (h refl)
no_fact Left h = absurd (h refl)

false_true : False ≡ True → ⊥
false_true e = cc

none_true : None ≡ True → ⊥
none_true e = cc

-- a fact that stays
rule_stays : (v : Signal) (f : Fact) → (has_fact f ≡ true → v ≡ True) → Rule v f f
rule_stays True f s = grown_refl f
rule_stays False f s = let n = no_fact f (λ h. false_true (s h)) in (n, n)
rule_stays None f s = no_fact f (λ h. none_true (s h))

some_one : (o : Option Signal) (u v : Signal) → o ≡ option.Some u → o ≡ option.Some v → u ≡ v
some_one o u v p q = cc

-- every node with a fact has the own signal true
abbrev pub Sound : List Element → List Fact → Type 0
Sound xs fs = (i : ℕ) (v : Signal) → Stands xs (signals fs start xs) i v → has_fact (fact_of fs i) ≡ true → v ≡ True

pub no_facts_sound : (xs : List Element) → Sound xs no_facts
no_facts_sound xs i v h e = absurd (false≢true (sym (ap has_fact (get_or-replicate_default 64 i Nothing)) ∙ e))

module _ (S : SchemaParts) (c : Checked S) where
  grow_row : (fs gs : List Fact) → Fit fs gs S.row (signals fs start S.row) → Leqs (signals fs start S.row) (signals gs start S.row)
  grow_row fs gs F =
      let n = checked_nested S.row S.edges c in
      let a : signals fs start S.row ≡ tree_signals fs n.0 = on_tree fs S.row _ refl n.0 n.2 in
      let b : signals gs start S.row ≡ tree_signals gs n.0 = on_tree gs S.row _ refl n.0 n.2 in
      let F' : Fit fs gs (flatten n.0) (tree_signals fs n.0) = subst (λ us. Fit fs gs (flatten n.0) us) a (subst (λ xs. Fit fs gs xs (signals fs start S.row)) n.2 F) in
      subst (λ us. Leqs us (signals gs start S.row)) (sym a) (subst (λ vs. Leqs (tree_signals fs n.0) vs) (sym b) (grow_tree fs gs n.0 F'))

  -- the own signal of a step's node
  pub step_own : (fs : List Fact) (e : Entry) → Sound S.row fs → Allowed S fs e → own S.row (signals fs start S.row) 0 (entry_id e) ≡ option.Some True
  step_own fs e s a = go (own S.row (signals fs start S.row) 0 (entry_id e)) refl a.state
    where
      go : (o : Option Signal) → own S.row (signals fs start S.row) 0 (entry_id e) ≡ o
          → with_signal o (fact_of fs (entry_id e)) (free S.row (signals fs start S.row) fs S.edges (entry_id e)) ≡ option.Some (needed e)
          → own S.row (signals fs start S.row) 0 (entry_id e) ≡ option.Some True
      go option.None is h = absurd cc
      go (option.Some g) is h =
          let same : state_of g (fact_of fs (entry_id e)) (free S.row (signals fs start S.row) fs S.edges (entry_id e)) ≡ needed e = cc in
          is ∙ ap option.Some (step_true e g (fact_of fs (entry_id e)) _ same (s (entry_id e) g (own_stands S.row _ (entry_id e) g is)))

  module _ (fs : List Fact) (e : Entry) (long : length fs ≡ 64) (s : Sound S.row fs) (a : Allowed S fs e) where
    abbrev next : List Fact
    next = set fs (entry_id e) (fact_set e)

    now : fact_of next (entry_id e) ≡ fact_set e
    now = get_or-set_same fs (entry_id e) (fact_set e) Nothing (subst (λ k. entry_id e < k) (sym long) (step_of S c fs e a).low)

    outgrows : Grown (fact_of fs (entry_id e)) (fact_of next (entry_id e))
    outgrows = subst (Grown (fact_of fs (entry_id e))) (sym now) (grown_rank e (fact_of fs (entry_id e)) (step_of S c fs e a).before)

    pub step_grown : (i : ℕ) → Grown (fact_of fs i) (fact_of next i)
    step_grown i =
        ⊎_elim (λ q. subst (λ j. Grown (fact_of fs j) (fact_of next j)) (sym q) outgrows)
        (λ q. subst (Grown (fact_of fs i)) (sym (get_or-set_other fs (entry_id e) i (fact_set e) Nothing q)) (grown_refl (fact_of fs i)))
        (cases_eq i (entry_id e))

    at_node : (i : ℕ) (v : Signal) → Stands S.row (signals fs start S.row) i v → i ≡ entry_id e → v ≡ True
    at_node i v h q =
        some_one (own S.row (signals fs start S.row) 0 i) v True
        (stands_own S.row _ i v (checked_fine S.row S.edges c).0 h) (ap (own S.row (signals fs start S.row) 0) q ∙ step_own fs e s a)

    step_fit : Fit fs next S.row (signals fs start S.row)
    step_fit i v h =
        ⊎_elim (λ q. subst (λ w. Rule w (fact_of fs i) (fact_of next i)) (sym (at_node i v h q)) (step_grown i))
        (λ q. subst (Rule v (fact_of fs i)) (sym (get_or-set_other fs (entry_id e) i (fact_set e) Nothing q)) (rule_stays v (fact_of fs i) (s i v h)))
        (cases_eq i (entry_id e))

    pub step_leqs : Leqs (signals fs start S.row) (signals next start S.row)
    step_leqs = grow_row fs next step_fit

    pub step_sound : Sound S.row next
    step_sound i v h f =
        let r = stood S.row (signals fs start S.row) (signals next start S.row) i v step_leqs h in
        let was : r.0 ≡ True = ⊎_elim (at_node i r.0 r.1) (λ q. s i r.0 r.1 (ap has_fact (sym (get_or-set_other fs (entry_id e) i (fact_set e) Nothing q)) ∙ f)) (cases_eq i (entry_id e)) in
        subst (λ u. Leq u v) was r.2

  -- what a run keeps and what it changes
  pub record Ran (fs gs : List Fact) : Type 0 where
    pub long : length gs ≡ 64
    pub sound : Sound S.row gs
    pub grown : (i : ℕ) → Grown (fact_of fs i) (fact_of gs i)
    pub leqs : Leqs (signals fs start S.row) (signals gs start S.row)

  pub ran : (fs gs : List Fact) (es : List Entry) → length fs ≡ 64 → Sound S.row fs → Runs S fs es gs → Ran fs gs
  ran fs gs [] n s ends = record { long = n; sound = s; grown = λ i. grown_refl (fact_of fs i); leqs = λ p. leq_refl _ }
  ran fs gs (e ∷ es) n s (steps a r) =
      let i = ran (set fs (entry_id e) (fact_set e)) gs es (length-set fs (entry_id e) (fact_set e) ∙ n) (step_sound fs e n s a) r in
      record {
        long = i.long;
        sound = i.sound;
        grown = λ j. grown_trans _ _ _ (step_grown fs e n s a j) (i.grown j);
        leqs = λ p. leq_trans _ _ _ (step_leqs fs e n s a p) (i.leqs p);
      }

  pub ran_first : (gs : List Fact) (es : List Entry) → Runs S no_facts es gs → Ran no_facts gs
  ran_first gs es r = ran no_facts gs es (length-replicate {A = Fact} 64 Nothing) (no_facts_sound S.row) r
