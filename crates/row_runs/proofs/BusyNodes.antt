-- At the end of a run the nodes of its entries are busy, and only nodes with facts are. Assumes nothing.
use Rattle.std.proofs.Common.{◌≡◌, ℕ, ◌+◌, ◌<◌, Bool, true, false, cond, List, [], ◌∷◌, length, set, get_or, Option, sym, refl, ap, ◌∙◌, subst, inl, inr, length-set}
use Rattle.std.specs.declared.option.Option.TheVariants as option
use Rattle.std.proofs.lemmas.List.{get_or-set_same, get_or-set_other, length-replicate}
use Rattle.std.proofs.lemmas.Bool.{false≢true, true≢false}
use Rattle.bounded.proofs.Replicas.{get_or-replicate_default}
use Rattle.ids.specs.Sets.{is_id}
use Rattle.model.specs.declared.Element.{Element}
use Rattle.model.specs.declared.Entry.{Entry}
use Rattle.model.specs.declared.Entry.TheVariants.{Start, End, Choose, Leave}
use Rattle.model.specs.declared.Fact.{Fact}
use Rattle.model.specs.declared.Fact.TheVariants.{Nothing, Begun, Ended, Decided, Left}
use Rattle.model.specs.declared.Signal.{Signal}
use Rattle.model.specs.declared.Signal.TheVariants.{True, False, None}
use Rattle.model.specs.Elements.{node_id}
use Rattle.model.specs.Entries.{entry_id, fact_set}
use Rattle.model.specs.Signals.{fact_of}
use Rattle.model.specs.States.{state_of}
use Rattle.schema.specs.Checks.{SchemaParts}
use Rattle.marking.specs.Machine.{signals, start}
use Rattle.marking.specs.States.{own, own_in, free_in, with_signal, state_in}
use Rattle.runs.specs.Steps.{Runs, ends, steps}
use Rattle.agreement.specs.Laws.{Checked, no_facts}
use Rattle.agreement.specs.Growth.{has_fact, Grown}
use Rattle.agreement.proofs.Progress.{step_of}
use Rattle.agreement.proofs.SoundRows.{own_stands}
use Rattle.agreement.proofs.GrowRuns.{Sound, no_facts_sound, step_own, step_sound, ran}
use Rattle.conditions.specs.Conditions.{is_busy}
use Rattle.conditions.specs.Kinds.{NoEntry}

-- what is busy has a fact
pub busy_fact : (o : Option Signal) (f : Fact) (r : Bool) → is_busy (with_signal o f r) ≡ true → has_fact f ≡ true
busy_fact option.None f r h = absurd (false≢true h)
busy_fact (option.Some True) Nothing true h = absurd (false≢true h)
busy_fact (option.Some True) Nothing false h = absurd (false≢true h)
busy_fact (option.Some False) Nothing r h = absurd (false≢true h)
busy_fact (option.Some None) Nothing r h = absurd (false≢true h)
busy_fact (option.Some g) Begun r h = refl
busy_fact (option.Some g) Ended r h = refl
busy_fact (option.Some g) (Decided b) r h = refl
busy_fact (option.Some g) Left r h = refl

-- with a true signal, what has a fact is busy
fact_busy : (f : Fact) (r : Bool) → has_fact f ≡ true → is_busy (option.Some (state_of True f r)) ≡ true
fact_busy Nothing r h = absurd (false≢true h)
fact_busy Begun r h = refl
fact_busy Ended r h = refl
fact_busy (Decided b) r h = refl
fact_busy Left r h = refl

-- facts do not go
pub has_grown : (f g : Fact) → Grown f g → has_fact f ≡ true → has_fact g ≡ true
has_grown Nothing g h k = absurd (false≢true k)
has_grown Begun g (inl h) k = ap has_fact h
has_grown Begun g (inr h) k = ap has_fact h
has_grown Ended g h k = ap has_fact h
has_grown (Decided b) g h k = ap has_fact h
has_grown Left g h k = ap has_fact h

-- every entry sets a fact
sets_fact : (e : Entry) → has_fact (fact_set e) ≡ true
sets_fact (Start i) = refl
sets_fact (End i) = refl
sets_fact (Choose i b) = refl
sets_fact (Leave i) = refl

-- whether a row has a node does not depend on the signals
own_none : (xs : List Element) (us vs : List Signal) (p id : ℕ) → own xs vs p id ≡ option.None → own xs us p id ≡ option.None
own_none [] us vs p id h = refl
own_none (x ∷ xs) us vs p id h = go (is_id (node_id x) id) (own_none xs us vs (p + 1) id) h
  where
    go : (b : Bool) → (own xs vs (p + 1) id ≡ option.None → own xs us (p + 1) id ≡ option.None)
        → cond b (option.Some (get_or vs p None)) (own xs vs (p + 1) id) ≡ option.None
        → cond b (option.Some (get_or us p None)) (own xs us (p + 1) id) ≡ option.None
    go true rec h = absurd cc
    go false rec h = rec h

-- no node has a fact at first
pub none_yet : (a : ℕ) → fact_of no_facts a ≡ Nothing
none_yet a = get_or-replicate_default 64 a Nothing

-- a step of another node leaves a fact as it is
pub other_fact : (fs : List Fact) (e : Entry) (a : ℕ) → (entry_id e ≡ a → ⊥) → fact_of (set fs (entry_id e) (fact_set e)) a ≡ fact_of fs a
other_fact fs e a n = get_or-set_other fs (entry_id e) a (fact_set e) Nothing (λ h. n (sym h))

module _ (S : SchemaParts) (c : Checked S) where
  -- the node of the first entry has a fact at the end
  pub begun_fact : (fs gs : List Fact) (e : Entry) (es : List Entry) → length fs ≡ 64 → Sound S.row fs → Runs S fs (e ∷ es) gs
      → has_fact (fact_of gs (entry_id e)) ≡ true
  begun_fact fs gs e es n s (steps a r) =
      let next = set fs (entry_id e) (fact_set e) in
      let w = ran S c next gs es (length-set fs (entry_id e) (fact_set e) ∙ n) (step_sound S c fs e n s a) r in
      let low : entry_id e < length fs = subst (λ k. entry_id e < k) (sym n) (step_of S c fs e a).low in
      has_grown _ _ (w.grown (entry_id e)) (ap has_fact (get_or-set_same fs (entry_id e) (fact_set e) Nothing low) ∙ sets_fact e)

  -- and it is busy
  pub begun_busy : (fs gs : List Fact) (e : Entry) (es : List Entry) → length fs ≡ 64 → Sound S.row fs → Runs S fs (e ∷ es) gs
      → is_busy (state_in S.row S.edges gs (entry_id e)) ≡ true
  begun_busy fs gs e es n s (steps a r) = go (own_in S.row gs (entry_id e)) refl
    where
      has : has_fact (fact_of gs (entry_id e)) ≡ true
      has = begun_fact fs gs e es n s (steps a r)

      go : (o : Option Signal) → own_in S.row gs (entry_id e) ≡ o → is_busy (with_signal o (fact_of gs (entry_id e)) (free_in S.row S.edges gs (entry_id e))) ≡ true
      go option.None is =
          let z = own_none S.row (signals fs start S.row) (signals gs start S.row) 0 (entry_id e) is in
          let y = step_own S c fs e s a in
          absurd cc
      go (option.Some v) is =
          let w = ran S c fs gs (e ∷ es) n s (steps a r) in
          let t : v ≡ True = w.sound (entry_id e) v (own_stands S.row _ (entry_id e) v is) has in
          subst (λ u. is_busy (option.Some (state_of u (fact_of gs (entry_id e)) (free_in S.row S.edges gs (entry_id e)))) ≡ true) (sym t)
          (fact_busy (fact_of gs (entry_id e)) _ has)

  -- no entry is of a node that is not busy at the end
  idle_no_entry : (a : ℕ) (fs gs : List Fact) (es : List Entry) → length fs ≡ 64 → Sound S.row fs → Runs S fs es gs
      → is_busy (state_in S.row S.edges gs a) ≡ false → NoEntry a es
  idle_no_entry a fs gs [] n s r h = tt
  idle_no_entry a fs gs (e ∷ es) n s (steps b r) h = (
    λ k. true≢false (sym (begun_busy fs gs e es n s (steps b r)) ∙ ap (λ i. is_busy (state_in S.row S.edges gs i)) k ∙ h),
    idle_no_entry a (set fs (entry_id e) (fact_set e)) gs es (length-set fs (entry_id e) (fact_set e) ∙ n) (step_sound S c fs e n s b) r h,
  )

  -- the same from no facts on
  pub no_entry_of_idle : (a : ℕ) (gs : List Fact) (es : List Entry) → Runs S no_facts es gs → is_busy (state_in S.row S.edges gs a) ≡ false → NoEntry a es
  no_entry_of_idle a gs es r h = idle_no_entry a no_facts gs es (length-replicate {A = Fact} 64 Nothing) (no_facts_sound S.row) r h

-- a node without entries gets no fact
no_entry_stays : (S : SchemaParts) (a : ℕ) (fs gs : List Fact) (es : List Entry) → Runs S fs es gs → NoEntry a es → fact_of gs a ≡ fact_of fs a
no_entry_stays S a fs _ [] ends q = refl
no_entry_stays S a fs gs (e ∷ es) (steps b r) q = no_entry_stays S a (set fs (entry_id e) (fact_set e)) gs es r q.1 ∙ other_fact fs e a q.0

-- and so it is not busy
pub idle_without_entry : (S : SchemaParts) (a : ℕ) (gs : List Fact) (es : List Entry) → Runs S no_facts es gs → NoEntry a es
    → is_busy (state_in S.row S.edges gs a) ≡ false
idle_without_entry S a gs es r q = go (is_busy (state_in S.row S.edges gs a)) refl
  where
    nothing : has_fact (fact_of gs a) ≡ false
    nothing = ap has_fact (no_entry_stays S a no_facts gs es r q ∙ none_yet a)

    go : (b : Bool) → is_busy (state_in S.row S.edges gs a) ≡ b → b ≡ false
    go true h = absurd (true≢false (sym (busy_fact (own_in S.row gs a) (fact_of gs a) (free_in S.row S.edges gs a) h) ∙ nothing))
    go false h = refl
