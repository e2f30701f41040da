-- Each step raises the rank of its node's fact. Assumes nothing.
use Rattle.std.proofs.Common.{◌≡◌, ℕ, ◌+◌, ◌<◌, ◌≤◌, Bool, true, false, cond, List, [], ◌∷◌, length, get_or, set, Option, sym, refl, ap, ◌∙◌, subst, inl, inr, ⊎_elim, arith, length-set}
use Rattle.std.specs.declared.option.Option.TheVariants as option
use Rattle.std.proofs.lemmas.List.{get_or-set_same, get_or-set_other}
use Rattle.std.proofs.lemmas.Bool.{cases_eq}
use Rattle.model.specs.declared.Element.{Element}
use Rattle.model.specs.declared.Entry.{Entry}
use Rattle.model.specs.declared.Entry.TheVariants.{Start, End, Choose, Leave}
use Rattle.model.specs.declared.Fact.{Fact}
use Rattle.model.specs.declared.Fact.TheVariants.{Nothing, Begun, Ended, Decided, Left}
use Rattle.model.specs.declared.Signal.{Signal}
use Rattle.model.specs.declared.Signal.TheVariants.{True, False, None}
use Rattle.model.specs.declared.State.{State}
use Rattle.model.specs.declared.State.TheVariants.{Activated, Running}
use Rattle.model.specs.Elements.{node_id}
use Rattle.model.specs.Entries.{entry_id, entry_kind, needed, fact_set}
use Rattle.model.specs.Rows.{Among}
use Rattle.model.specs.Signals.{fact_of}
use Rattle.model.specs.States.{state_of, by_fact, waiting}
use Rattle.ids.specs.Sets.{is_id}
use Rattle.schema.specs.Checks.{SchemaParts}
use Rattle.schema.proofs.Checked.{checked_fine}
use Rattle.schema.proofs.Wrongs.{decides_bears}
use Rattle.marking.specs.Machine.{signals, start}
use Rattle.marking.specs.States.{own, free, with_signal}
use Rattle.runs.specs.Steps.{Allowed, Runs, ends, steps}
use Rattle.agreement.specs.Laws.{Checked, Occurs, EachOnce}

abbrev pub rank : Fact → ℕ
rank Nothing = 0
rank Begun = 1
rank Ended = 2
rank (Decided b) = 2
rank Left = 2

-- the rank that a step needs
abbrev pub rank_needed : Entry → ℕ
rank_needed (Start i) = 0
rank_needed (End i) = 1
rank_needed (Choose i b) = 0
rank_needed (Leave i) = 0

never : {P : Type 0} (s t : State) → (s ≡ t → ◌≡◌ {A = ℕ} 0 1) → s ≡ t → P
never s t f e = absurd (let z = f e in omega arith)

waits : (g : Signal) (r : Bool) → waiting g r ≡ Running → ⊥
waits True true e = cc
waits True false e = cc
waits False r e = cc
waits None r e = cc

-- Activated has no fact, Running is begun
active_fact : (f : Fact) (w : State) → by_fact f w ≡ Activated → rank f ≡ 0
active_fact Nothing w e = refl
active_fact Begun w e = absurd cc
active_fact Ended w e = absurd cc
active_fact (Decided b) w e = absurd cc
active_fact Left w e = absurd cc

running_fact : (f : Fact) (g : Signal) (r : Bool) → by_fact f (waiting g r) ≡ Running → rank f ≡ 1
running_fact Nothing g r e = absurd (waits g r e)
running_fact Begun g r e = refl
running_fact Ended g r e = absurd cc
running_fact (Decided b) g r e = absurd cc
running_fact Left g r e = absurd cc

active_rank : (g : Signal) (f : Fact) (r : Bool) → state_of g f r ≡ Activated → rank f ≡ 0
active_rank True f r e = active_fact f _ e
active_rank False f r e = absurd cc
active_rank None f r e = active_fact f _ e

running_rank : (g : Signal) (f : Fact) (r : Bool) → state_of g f r ≡ Running → rank f ≡ 1
running_rank True f r e = running_fact f True r e
running_rank False f r e = absurd cc
running_rank None f r e = running_fact f None r e

needed_rank : (e : Entry) (g : Signal) (f : Fact) (r : Bool) → state_of g f r ≡ needed e → rank f ≡ rank_needed e
needed_rank (Start i) g f r h = active_rank g f r h
needed_rank (End i) g f r h = running_rank g f r h
needed_rank (Choose i b) g f r h = active_rank g f r h
needed_rank (Leave i) g f r h = active_rank g f r h

pub raised : (e : Entry) → rank_needed e < rank (fact_set e)
raised (Start i) = omega arith
raised (End i) = omega arith
raised (Choose i b) = omega arith
raised (Leave i) = omega arith

-- what has a state is in the row
pub own_among : (xs : List Element) (gs : List Signal) (p id : ℕ) (g : Signal) → own xs gs p id ≡ option.Some g → Among xs id
own_among [] gs p id g e = absurd cc
own_among (x ∷ xs) gs p id g e = go (is_id (node_id x) id) refl e (own_among xs gs (p + 1) id g)
  where
    go : (b : Bool) → is_id (node_id x) id ≡ b → cond b (option.Some (get_or gs p None)) (own xs gs (p + 1) id) ≡ option.Some g → (own xs gs (p + 1) id ≡ option.Some g → Among xs id) → Among (x ∷ xs) id
    go true i h rec = inl ((decides_bears x id).0 i)
    go false i h rec = inr (rec h)

module _ (S : SchemaParts) (c : Checked S) where
  pub record StepOf (fs : List Fact) (e : Entry) : Type 0 where
    pub low : entry_id e < 64
    pub before : rank (fact_of fs (entry_id e)) ≡ rank_needed e

  pub step_of : (fs : List Fact) (e : Entry) → Allowed S fs e → StepOf fs e
  step_of fs e a = go (own S.row (signals fs start S.row) 0 (entry_id e)) refl a.state
    where
      go : (o : Option Signal) → own S.row (signals fs start S.row) 0 (entry_id e) ≡ o
          → with_signal o (fact_of fs (entry_id e)) (free S.row (signals fs start S.row) fs S.edges (entry_id e)) ≡ option.Some (needed e) → StepOf fs e
      go option.None is h = absurd cc
      go (option.Some g) is h =
          let same : state_of g (fact_of fs (entry_id e)) (free S.row (signals fs start S.row) fs S.edges (entry_id e)) ≡ needed e = cc in
          record { low = (checked_fine S.row S.edges c).1 (entry_id e) (own_among S.row _ 0 (entry_id e) g is); before = needed_rank e g _ _ same }

  -- ranks never fall along a run, so a step to come finds at most the rank it needs
  pub to_come : (fs gs : List Fact) (es : List Entry) (e : Entry) → length fs ≡ 64 → Runs S fs es gs → Occurs e es → rank (fact_of fs (entry_id e)) ≤ rank_needed e
  to_come fs gs [] e n ends o = elim o [ ]
  to_come fs gs (x ∷ es) e n (steps a r) (inl (k, i)) =
      let s = step_of fs x a in
      let same : rank (fact_of fs (entry_id e)) ≡ rank_needed x = ap (λ j. rank (fact_of fs j)) i ∙ s.before in
      omega (arith, kinds e x k)
    where
      kinds : (e x : Entry) → entry_kind e ≡ entry_kind x → rank_needed e ≡ rank_needed x
      kinds (Start i) (Start j) h = refl
      kinds (Start i) (End j) h = absurd (omega arith)
      kinds (Start i) (Choose j b) h = absurd (omega arith)
      kinds (Start i) (Leave j) h = absurd (omega arith)
      kinds (End i) (Start j) h = absurd (omega arith)
      kinds (End i) (End j) h = refl
      kinds (End i) (Choose j b) h = absurd (omega arith)
      kinds (End i) (Leave j) h = absurd (omega arith)
      kinds (Choose i b) (Start j) h = absurd (omega arith)
      kinds (Choose i b) (End j) h = absurd (omega arith)
      kinds (Choose i b) (Choose j c) h = refl
      kinds (Choose i b) (Leave j) h = absurd (omega arith)
      kinds (Leave i) (Start j) h = absurd (omega arith)
      kinds (Leave i) (End j) h = absurd (omega arith)
      kinds (Leave i) (Choose j b) h = absurd (omega arith)
      kinds (Leave i) (Leave j) h = refl
  to_come fs gs (x ∷ es) e n (steps a r) (inr o) =
      let s = step_of fs x a in
      let h = to_come (set fs (entry_id x) (fact_set x)) gs es e (length-set fs (entry_id x) (fact_set x) ∙ n) r o in
      ⊎_elim (λ q. own_node s q h) (λ q. subst (λ f. rank f ≤ rank_needed e) (get_or-set_other fs (entry_id x) (entry_id e) (fact_set x) Nothing q) h) (cases_eq (entry_id e) (entry_id x))
    where
      own_node : StepOf fs x → entry_id e ≡ entry_id x → rank (fact_of (set fs (entry_id x) (fact_set x)) (entry_id e)) ≤ rank_needed e → rank (fact_of fs (entry_id e)) ≤ rank_needed e
      own_node s q h =
          let now : rank (fact_of (set fs (entry_id x) (fact_set x)) (entry_id e)) ≡ rank (fact_set x) = ap (λ j. rank (fact_of (set fs (entry_id x) (fact_set x)) j)) q ∙ ap rank (get_or-set_same fs (entry_id x) (fact_set x) Nothing (subst (λ k. entry_id x < k) (sym n) s.low)) in
          let was : rank (fact_of fs (entry_id e)) ≡ rank_needed x = ap (λ j. rank (fact_of fs j)) q ∙ s.before in
          omega (arith, raised x)

  pub each_once : (fs gs : List Fact) (es : List Entry) → length fs ≡ 64 → Runs S fs es gs → EachOnce es
  each_once fs gs [] n ends = tt
  each_once fs gs (e ∷ es) n (steps a r) =
      let s = step_of fs e a in
      let long = length-set fs (entry_id e) (fact_set e) ∙ n in
      let now : rank (fact_of (set fs (entry_id e) (fact_set e)) (entry_id e)) ≡ rank (fact_set e) = ap rank (get_or-set_same fs (entry_id e) (fact_set e) Nothing (subst (λ k. entry_id e < k) (sym n) s.low)) in
      (λ o. let h = to_come _ gs es e long r o in let up = raised e in omega arith, each_once _ gs es long r)
