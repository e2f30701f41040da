-- Adding a sync edge is judged rightly. Assumes nothing.
use Rattle.std.proofs.Common.{◌≡◌, ℕ, ◌≤◌, Bool, true, false, cond, not, ◌&&◌, ◌||◌, ltb, List, length, get_or, Some, Option, sym, refl, ap, ◌∙◌, inl, inr, arith, lt-ltb, ltb-true, ne_eqb}
use Rattle.std.specs.declared.option.Option.TheVariants as option
use Rattle.std.proofs.lemmas.List.{length-replicate}
use Rattle.std.proofs.lemmas.Bool.{and_parts, and_from, or_cases, or_left, or_right, false≢true, true≢false, not-true, not_from_false}
use Rattle.bounded.proofs.Replicas.{get_or-replicate_default}
use Rattle.model.specs.declared.Edge.{Edge}
use Rattle.model.specs.declared.Entry.{Entry}
use Rattle.model.specs.declared.Fact.{Fact}
use Rattle.model.specs.declared.Fact.TheVariants.{Nothing, Begun, Ended, Decided, Left}
use Rattle.model.specs.declared.Signal.{Signal}
use Rattle.model.specs.declared.Signal.TheVariants.{True, False, None}
use Rattle.model.specs.Signals.{fact_of, is_done, is_false}
use Rattle.model.specs.States.{state_of}
use Rattle.schema.specs.Checks.{SchemaParts, Admitted}
use Rattle.marking.specs.Machine.{signals, start}
use Rattle.marking.specs.States.{free_in, settled_in, with_signal, state_in}
use Rattle.runs.specs.Steps.{Runs}
use Rattle.agreement.specs.Laws.{no_facts}
use Rattle.agreement.specs.Growth.{has_fact, Grown, Leq}
use Rattle.agreement.specs.FalseGaps.{against}
use Rattle.agreement.proofs.Progress.{each_once}
use Rattle.agreement.proofs.GrowRuns.{ran, ran_first}
use Rattle.agreement.proofs.SoundRows.{own_stands}
use Rattle.history.specs.declared.EntryKind.{EntryKind}
use Rattle.history.specs.declared.EntryKind.TheVariants.{Start, End, Choose}
use Rattle.history.specs.Entries.{kind_byte, last_place, before}
use Rattle.conditions.specs.Deciders.{decided_against}
use Rattle.conditions.specs.Conditions.{is_busy, is_completed, is_skipped, decided_before, decisions_around_node, decider, in_order}
use Rattle.new_edges.specs.Laws.{AddingAnEdgeIsJudgedRightly}
use Rattle.new_edges.proofs.Activities.{Standing, stands}
use Rattle.new_edges.proofs.EdgedRuns.{Waited, run_less, run_waited, run_more, unstarted, Started, started}
use Rattle.new_edges.proofs.Starts.{at_start, shows, shows_at_start}
use Rattle.new_edges.proofs.Settling.{Around, the_decider, decided_earlier, plain_done, stays_plain, fallen, settled_by}

-- the states of a node whose signal is true if it has a fact
busy_of : (g : Signal) (f : Fact) (r : Bool) → (has_fact f ≡ true → g ≡ True) → is_busy (Some (state_of g f r)) ≡ has_fact f
busy_of True Nothing true h = refl
busy_of True Nothing false h = refl
busy_of True Begun r h = refl
busy_of True Ended r h = refl
busy_of True (Decided b) r h = refl
busy_of True Left r h = refl
busy_of False Nothing r h = refl
busy_of False Begun r h = absurd (let e = h refl in cc)
busy_of False Ended r h = absurd (let e = h refl in cc)
busy_of False (Decided b) r h = absurd (let e = h refl in cc)
busy_of False Left r h = absurd (let e = h refl in cc)
busy_of None Nothing r h = refl
busy_of None Begun r h = refl
busy_of None Ended r h = refl
busy_of None (Decided b) r h = refl
busy_of None Left r h = refl

completed_of : (g : Signal) (f : Fact) (r : Bool) → (has_fact f ≡ true → g ≡ True) → is_done f ≡ true → is_completed (Some (state_of g f r)) ≡ true
completed_of g Nothing r h d = absurd (false≢true d)
completed_of g Begun r h d = absurd (false≢true d)
completed_of g Ended r h d = ap (λ v. is_completed (Some (state_of v Ended r))) (h refl)
completed_of g (Decided b) r h d = ap (λ v. is_completed (Some (state_of v (Decided b) r))) (h refl)
completed_of g Left r h d = ap (λ v. is_completed (Some (state_of v Left r))) (h refl)

skipped_of : (g : Signal) (f : Fact) (r : Bool) → is_false g ≡ true → is_skipped (Some (state_of g f r)) ≡ true
skipped_of True f r e = absurd (false≢true e)
skipped_of False f r e = refl
skipped_of None f r e = absurd (false≢true e)

done_grown : (f g : Fact) → Grown f g → is_done f ≡ true → is_done g ≡ true
done_grown Nothing g h e = absurd (false≢true e)
done_grown Begun g h e = absurd (false≢true e)
done_grown Ended g h e = ap is_done h
done_grown (Decided d) g h e = ap is_done h
done_grown Left g h e = ap is_done h

false_grown : (u v : Signal) → Leq u v → is_false u ≡ true → is_false v ≡ true
false_grown True v l e = absurd (false≢true e)
false_grown False v l e = ap is_false l
false_grown None v l e = absurd (false≢true e)

-- what was decided stays so
chosen_kept : (f g : Fact) → Grown f g → shows Choose f ≡ true → f ≡ g
chosen_kept Nothing g h e = absurd (false≢true e)
chosen_kept Begun g h e = absurd (false≢true e)
chosen_kept Ended g h e = absurd (false≢true e)
chosen_kept (Decided d) g h e = sym h
chosen_kept Left g h e = absurd (false≢true e)

-- a finish completes
finish_done : (f : Fact) → shows End f ≡ true → is_done f ≡ true
finish_done Nothing e = absurd (false≢true e)
finish_done Begun e = absurd (false≢true e)
finish_done Ended e = refl
finish_done (Decided d) e = refl
finish_done Left e = refl

module _ (S : SchemaParts) (c : Admitted S) (e : Edge) (source : Standing S e.source) (target : Standing S e.target) (gs : List Fact) (es : List Entry) (r : Runs S no_facts es gs) where
  long : length no_facts ≡ 64
  long = length-replicate {A = Fact} 64 Nothing

  no_fact : (i : ℕ) → fact_of no_facts i ≡ Nothing
  no_fact i = get_or-replicate_default 64 i Nothing

  -- a node's signal, and that it is true if the node has a fact
  sure : (a : ℕ) (at : Standing S a) → has_fact (fact_of gs a) ≡ true → get_or (signals gs start S.row) at.place None ≡ True
  sure a at h = (ran_first S c.passed gs es r).sound a _ (own_stands S.row (signals gs start S.row) a _ (at.own gs)) h

  state : (a : ℕ) (at : Standing S a) → state_in S.row S.edges gs a
      ≡ Some (state_of (get_or (signals gs start S.row) at.place None) (fact_of gs a) (free_in S.row S.edges gs a))
  state a at = ap (λ o. with_signal o (fact_of gs a) (free_in S.row S.edges gs a)) (at.own gs)

  busy : is_busy (state_in S.row S.edges gs e.target) ≡ has_fact (fact_of gs e.target)
  busy = ap is_busy (state e.target target) ∙ busy_of _ (fact_of gs e.target) _ (sure e.target target)

  the_decisions : decider S.row gs e.source ≡ decided_against gs (Around S c e.source source)
  the_decisions = ap (λ o. decided_against gs (decisions_around_node S.row o)) source.found

  abbrev starting : Option (List Fact)
  starting = at_start e.target no_facts es

  -- an entry of this kind and node stands before the target's start exactly if it shows there
  shown : (k : EntryKind) (i : ℕ) (hs : List Fact) → 2 ≤ kind_byte k → starting ≡ Some hs
      → shows k (fact_of hs i) ≡ before (last_place k i es) (last_place Start e.target es)
  shown k i hs late at =
      let m = shows_at_start S c.passed k i e.target late no_facts gs hs es long r (each_once S c.passed no_facts gs es long r) at in
      m.2 ∙ ap (λ b. b || before (last_place k i es) (Some m.0)) (ap (shows k) (no_fact i) ∙ ne_eqb 0 (kind_byte k) (λ z. omega arith))
      ∙ ap (before (last_place k i es)) (sym m.1)

  abbrev Finished : Bool
  Finished = is_completed (state_in S.row S.edges gs e.source) && before (last_place End e.source es) (last_place Start e.target es)

  abbrev Fallen : Bool
  Fallen = is_skipped (state_in S.row S.edges gs e.source) && decided_before es e.target (decider S.row gs e.source)

  abbrev Busy : Bool
  Busy = is_busy (state_in S.row S.edges gs e.target)

  -- where the target was started with the facts hs
  module _ (hs : List Fact) (at : starting ≡ Some hs) where
    run : Started S e.target no_facts hs gs
    run = started S c.passed e.target no_facts hs gs es long r at

    grown : (i : ℕ) → Grown (fact_of hs i) (fact_of gs i)
    grown =
        let first = ran_first S c.passed hs run.front run.up in
        (ran S c.passed hs gs run.rest first.long first.sound run.on).grown

    leqs : (p : ℕ) → Leq (get_or (signals hs start S.row) p None) (get_or (signals gs start S.row) p None)
    leqs =
        let first = ran_first S c.passed hs run.front run.up in
        (ran S c.passed hs gs run.rest first.long first.sound run.on).leqs

    abbrev ds : List (ℕ × ℕ)
    ds = Around S c e.source source

    settled_then : settled_in S.row hs e.source ≡ (ltb 0 (against hs ds) || is_done (fact_of hs e.source))
    settled_then = settled_by S c e.source source hs run.front run.up

    finished_settled : Finished ≡ true → settled_in S.row hs e.source ≡ true
    finished_settled h =
        settled_then ∙ or_right _ _ (finish_done (fact_of hs e.source) (shown End e.source hs (omega arith) at ∙ (and_parts _ _ h).1))

    fallen_settled : Fallen ≡ true → settled_in S.row hs e.source ≡ true
    fallen_settled h = go (decided_against gs ds) refl (sym (ap (decided_before es e.target) the_decisions) ∙ (and_parts _ _ h).1)
      where
        go : (o : Option ℕ) → decided_against gs ds ≡ o → decided_before es e.target o ≡ true → settled_in S.row hs e.source ≡ true
        go option.None is w = absurd (false≢true w)
        go (Some i) is w =
            let same = chosen_kept (fact_of hs i) (fact_of gs i) (grown i) (shown Choose i hs (omega arith) at ∙ w) in
            settled_then ∙ or_left _ _ (lt-ltb 0 (against hs ds) (decided_earlier hs gs ds i is same))

    in_order_settled : in_order S gs es e ≡ true → settled_in S.row hs e.source ≡ true
    in_order_settled h = elim (or_cases (not Busy) (Finished || Fallen) h) [
      | inl k ↦ absurd (true≢false (sym run.begun ∙ sym busy ∙ not-true Busy k))
      | inr k ↦ elim (or_cases Finished Fallen k) [
        | inl m ↦ finished_settled m
        | inr m ↦ fallen_settled m
      ]
    ]

    settled_finished : is_done (fact_of hs e.source) ≡ true → Finished ≡ true
    settled_finished d =
        let plain = stays_plain S c e.source source no_facts hs run.front long run.up (inl (no_fact e.source)) in
        let done = done_grown (fact_of hs e.source) (fact_of gs e.source) (grown e.source) d in
        and_from _ _
        (ap is_completed (state e.source source) ∙ completed_of _ (fact_of gs e.source) _ (sure e.source source) done)
        (sym (shown End e.source hs (omega arith) at) ∙ sym (plain_done (fact_of hs e.source) plain) ∙ d)

    settled_fallen : ltb 0 (against hs ds) ≡ true → Fallen ≡ true
    settled_fallen l =
        let f = fallen S c e.source source gs es r in
        let one = the_decider hs gs ds grown (ltb-true 0 (against hs ds) l) f.1 in
        let skipped = false_grown _ _ (leqs source.place) ((fallen S c e.source source hs run.front run.up).0 ∙ l) in
        and_from _ _
        (ap is_skipped (state e.source source) ∙ skipped_of _ (fact_of gs e.source) _ skipped)
        (ap (decided_before es e.target) (the_decisions ∙ one.1) ∙ sym (shown Choose one.0 hs (omega arith) at) ∙ one.2)

    settled_in_order : settled_in S.row hs e.source ≡ true → in_order S gs es e ≡ true
    settled_in_order h = elim (or_cases (ltb 0 (against hs ds)) (is_done (fact_of hs e.source)) (sym settled_then ∙ h)) [
      | inl k ↦ or_right (not Busy) _ (or_right Finished _ (settled_fallen k))
      | inr k ↦ or_right (not Busy) _ (or_left Finished _ (settled_finished k))
    ]

  in_order_waited : in_order S gs es e ≡ true → Waited S c.passed e target starting ≡ true
  in_order_waited h = go starting refl
    where
      go : (o : Option (List Fact)) → starting ≡ o → Waited S c.passed e target o ≡ true
      go option.None at = refl
      go (Some hs) at = in_order_settled hs at h

  waited_in_order : Waited S c.passed e target starting ≡ true → in_order S gs es e ≡ true
  waited_in_order h = go starting refl h
    where
      go : (o : Option (List Fact)) → starting ≡ o → Waited S c.passed e target o ≡ true → in_order S gs es e ≡ true
      go option.None at w =
          or_left (not Busy) (Finished || Fallen)
          (not_from_false Busy (busy ∙ unstarted S c.passed e target no_facts gs es long r at (ap has_fact (no_fact e.target))))
      go (Some hs) at w = settled_in_order hs at w

-- none hinders exactly if what the edge asks for happened in its order
none_hinders : (b : Bool) (n : ℕ) → cond b option.None (Some n) ≡ option.None → b ≡ true
none_hinders true n h = refl
none_hinders false n h = absurd cc

pub judged : AddingAnEdgeIsJudgedRightly
judged S e es c ok =
    let both = and_parts _ _ ok.there in
    let source = stands S e.source c both.0 in
    let target = stands S e.target c both.1 in
    record {
      on = λ fs r h.
          run_more S c.passed e target no_facts fs es (length-replicate {A = Fact} 64 Nothing) r
          (inr (in_order_waited S c e source target fs es r (none_hinders _ e.target h)));
      only = λ fs gs r q.
          ap (λ b. cond b option.None (Some e.target)) (waited_in_order S c e source target fs es r (run_waited S c.passed e target no_facts gs es q));
      back = λ gs r. run_less S c.passed e target no_facts gs es r;
    }
