-- Runs on a row whose new activity halts the followers of a gap. Assumes nothing.
--   Halting S ys a g    what is needed of the schema S and of the row ys with the new activity a
--   Clear S g gs        gap g is false, or none of its followers is busy
use Rattle.std.proofs.Common.{◌≡◌, ℕ, ◌<◌, Bool, true, false, not, ◌&&◌, ◌||◌, ◌⊎◌, eqb, List, [], ◌∷◌, length, set, Option, sym, refl, ap, ap₂, ◌∙◌, subst, inl, inr, ⊎_elim, length-set}
use Rattle.std.specs.declared.option.Option.TheVariants as option
use Rattle.std.proofs.lemmas.List.{length-replicate}
use Rattle.std.proofs.lemmas.Bool.{cases_eq, false≢true, true≢false}
use Rattle.model.specs.declared.Edge.{Edge}
use Rattle.model.specs.declared.Element.{Element}
use Rattle.model.specs.declared.Entry.{Entry}
use Rattle.model.specs.declared.Fact.{Fact}
use Rattle.model.specs.declared.Fact.TheVariants.{Nothing, Begun, Ended, Decided, Left}
use Rattle.model.specs.declared.Signal.{Signal}
use Rattle.model.specs.declared.Signal.TheVariants.{True, False, None}
use Rattle.model.specs.Entries.{entry_id, needed, fact_set}
use Rattle.model.specs.Signals.{fact_of, is_true, is_false}
use Rattle.model.specs.States.{state_of}
use Rattle.schema.specs.Checks.{SchemaParts}
use Rattle.marking.specs.States.{own_in, settled, free_in, with_signal, state_in}
use Rattle.runs.specs.Steps.{fits_in, Allowed, Runs, ends, steps}
use Rattle.agreement.specs.Laws.{Checked, no_facts}
use Rattle.agreement.specs.Growth.{has_fact, Leq}
use Rattle.agreement.proofs.Progress.{step_of}
use Rattle.agreement.proofs.SoundRows.{own_stands}
use Rattle.agreement.proofs.GrowRuns.{Sound, no_facts_sound, step_own, step_sound, ran}
use Rattle.marking.specs.Nearby.{signal_in}
use Rattle.conditions.specs.Conditions.{is_busy, is_follower}
use Rattle.conditions.specs.Kinds.{NoEntry}
use Rattle.halting.specs.Halts.{Halts}
use Rattle.row_runs.proofs.BusyNodes.{none_yet, other_fact, begun_busy}
use Rattle.row_runs.proofs.FewerEdges.{not_needed}

-- no edge leads from node a
abbrev pub NoSource : ℕ → List Edge → Type 0
NoSource a [] = Unit {0}
NoSource a (e ∷ es) = (e.source ≡ a → ⊥) × NoSource a es

-- the schema with another row
abbrev pub on_row : SchemaParts → List Element → SchemaParts
on_row S ys = record { version = S.version; row = ys; edges = S.edges }

pub record Halting (S : SchemaParts) (ys : List Element) (a g : ℕ) : Type 0 where
  pub checked : Checked S
  pub again : Checked (on_row S ys)
  pub halts : (fs : List Fact) → fact_of fs a ≡ Nothing → Halts S.row ys a g fs
  pub apart : NoSource a S.edges
  pub fits : (e : Entry) → (entry_id e ≡ a → ⊥) → fits_in ys e ≡ fits_in S.row e

abbrev pub Clear : SchemaParts → ℕ → List Fact → Type 0
Clear S g gs =
    (is_false (signal_in S.row gs g) ≡ true)
    ⊎ ((id : ℕ) → id < 64 → is_follower S.row g id ≡ true → is_busy (state_in S.row S.edges gs id) ≡ false)

-- a gap that is false at the end was never true
was_not_true : (u v : Signal) → Leq u v → is_false v ≡ true → is_true u ≡ false
was_not_true True v l h = absurd (false≢true (sym (ap is_false l) ∙ h))
was_not_true False v l h = refl
was_not_true None v l h = refl

was_not_false : (u v : Signal) → Leq u v → is_false v ≡ false → is_false u ≡ false
was_not_false True v l h = refl
was_not_false False v l h = absurd (true≢false (sym (ap is_false l) ∙ h))
was_not_false None v l h = refl

-- a node that was halted is settled as it was
settled_alike : (o p : Option Signal) (f : Fact) → (p ≡ o) ⊎ ((o ≡ option.Some True) × (p ≡ option.Some None)) → settled p f ≡ settled o f
settled_alike o p f (inl e) = ap (λ q. settled q f) e
settled_alike o p f (inr (h, k)) = ap (λ q. settled q f) k ∙ sym (ap (λ q. settled q f) h)

-- a node with neither signal nor fact allows no step
halted_state : {P : Type 0} (e : Entry) (f : Fact) (r : Bool) → has_fact f ≡ false → state_of None f r ≡ needed e → P
halted_state e Nothing r n h = not_needed e h
halted_state e Begun r n h = absurd (true≢false n)
halted_state e Ended r n h = absurd (true≢false n)
halted_state e (Decided b) r n h = absurd (true≢false n)
halted_state e Left r n h = absurd (true≢false n)

halted : {P : Type 0} (e : Entry) (o : Option Signal) (f : Fact) (r : Bool) → o ≡ option.Some None → has_fact f ≡ false
    → with_signal o f r ≡ option.Some (needed e) → P
halted e option.None f r k n h = absurd cc
halted e (option.Some g) f r k n h =
    let u : g ≡ None = cc in
    let same : state_of g f r ≡ needed e = cc in
    halted_state e f r n (subst (λ v. state_of v f r ≡ needed e) u same)

module _ (S : SchemaParts) (ys : List Element) (a g : ℕ) (H : Halting S ys a g) where
  abbrev T : SchemaParts
  T = on_row S ys

  module _ (fs : List Fact) (fresh : fact_of fs a ≡ Nothing) where
    abbrev L : Halts S.row ys a g fs
    L = H.halts fs fresh

    source_alike : (s : ℕ) → (s ≡ a → ⊥) → settled (own_in ys fs s) (fact_of fs s) ≡ settled (own_in S.row fs s) (fact_of fs s)
    source_alike s n = settled_alike _ _ (fact_of fs s) (elim (L.seen s n) [
      | inl k ↦ inl k
      | inr k ↦ inr (k.1, k.2)
    ])

    free_alike : (es : List Edge) → NoSource a es → (id : ℕ) → free_in ys es fs id ≡ free_in S.row es fs id
    free_alike [] n id = refl
    free_alike (e ∷ es) n id = ap₂ (λ b c. (not (eqb e.target id) || b) && c) (source_alike e.source n.0) (free_alike es n.1 id)

    state_alike : (id : ℕ) → own_in ys fs id ≡ own_in S.row fs id → state_in ys S.edges fs id ≡ state_in S.row S.edges fs id
    state_alike id h = ap₂ (λ o r. with_signal o (fact_of fs id) r) h (free_alike S.edges H.apart id)

    allowed_on : (e : Entry) → (entry_id e ≡ a → ⊥) → own_in ys fs (entry_id e) ≡ own_in S.row fs (entry_id e) → Allowed S fs e → Allowed T fs e
    allowed_on e n h b = record { fits = H.fits e n ∙ b.fits; state = state_alike (entry_id e) h ∙ b.state }

    allowed_back : (e : Entry) → (entry_id e ≡ a → ⊥) → own_in ys fs (entry_id e) ≡ own_in S.row fs (entry_id e) → Allowed T fs e → Allowed S fs e
    allowed_back e n h b = record { fits = sym (H.fits e n) ∙ b.fits; state = sym (state_alike (entry_id e) h) ∙ b.state }

  next_fresh : (fs : List Fact) (e : Entry) → fact_of fs a ≡ Nothing → (entry_id e ≡ a → ⊥) → fact_of (set fs (entry_id e) (fact_set e)) a ≡ Nothing
  next_fresh fs e z n = other_fact fs e a n ∙ z

  -- as long as nothing that is halted has begun, what ran runs
  accepted : (fs gs : List Fact) (es : List Entry) → length fs ≡ 64 → Sound S.row fs → fact_of fs a ≡ Nothing → NoEntry a es
      → Runs S fs es gs → Clear S g gs → Runs T fs es gs
  accepted fs _ [] n s z q ends c = ends
  accepted fs gs (e ∷ es) n s z q (steps b r) c =
      steps (allowed_on fs z e q.0 (own_same c) b)
      (accepted (set fs (entry_id e) (fact_set e)) gs es (length-set fs (entry_id e) (fact_set e) ∙ n)
      (step_sound S H.checked fs e n s b) (next_fresh fs e z q.0) q.1 r c)
    where
      own_same : Clear S g gs → own_in ys fs (entry_id e) ≡ own_in S.row fs (entry_id e)
      own_same (inl h) =
          let w = ran S H.checked fs gs (e ∷ es) n s (steps b r) in
          (H.halts fs z).idle (was_not_true _ _ (w.leqs g) h) (entry_id e) q.0
      own_same (inr h) = elim ((H.halts fs z).seen (entry_id e) q.0) [
        | inl k ↦ k
        | inr k ↦ absurd (true≢false (sym (begun_busy S H.checked fs gs e es n s (steps b r)) ∙ h (entry_id e) (step_of S H.checked fs e b).low k.0))
      ]

  -- once a node that is halted has begun, nothing runs that ran
  rejected : (fs gs hs : List Fact) (es : List Entry) → length fs ≡ 64 → Sound S.row fs → fact_of fs a ≡ Nothing → NoEntry a es
      → Runs S fs es gs → Runs T fs es hs → is_false (signal_in S.row gs g) ≡ false
      → (id : ℕ) → is_follower S.row g id ≡ true → has_fact (fact_of gs id) ≡ true → has_fact (fact_of fs id) ≡ false → ⊥
  rejected fs _ hs [] n s z q ends y live id fol has not_yet = true≢false (sym has ∙ not_yet)
  rejected fs gs hs (e ∷ es) n s z q (steps b r) (steps d y) live id fol has not_yet =
      let later = rejected (set fs (entry_id e) (fact_set e)) gs hs es (length-set fs (entry_id e) (fact_set e) ∙ n)
      (step_sound S H.checked fs e n s b) (next_fresh fs e z q.0) q.1 r y live id fol has in
      ⊎_elim here (λ k. there k later) (cases_eq id (entry_id e))
    where
      here : id ≡ entry_id e → ⊥
      here k =
          let w = ran S H.checked fs gs (e ∷ es) n s (steps b r) in
          let dead : own_in ys fs id ≡ option.Some None = (H.halts fs z).stopped (λ i v h e. s i v (own_stands S.row _ i v e) h) (was_not_false _ _ (w.leqs g) live) id fol in
          halted e (own_in ys fs (entry_id e)) (fact_of fs (entry_id e)) _
          (subst (λ i. own_in ys fs i ≡ option.Some None) k dead) (subst (λ i. has_fact (fact_of fs i) ≡ false) k not_yet) d.state

      there : (id ≡ entry_id e → ⊥) → (has_fact (fact_of (set fs (entry_id e) (fact_set e)) id) ≡ false → ⊥) → ⊥
      there k rec = rec (ap has_fact (other_fact fs e id (λ h. k (sym h))) ∙ not_yet)

  -- what runs on the new row ran on the old one
  returned : (fs hs : List Fact) (es : List Entry) → length fs ≡ 64 → Sound ys fs → fact_of fs a ≡ Nothing → NoEntry a es
      → Runs T fs es hs → Runs S fs es hs
  returned fs _ [] n s z q ends = ends
  returned fs hs (e ∷ es) n s z q (steps b r) =
      steps (allowed_back fs z e q.0 own_same b)
      (returned (set fs (entry_id e) (fact_set e)) hs es (length-set fs (entry_id e) (fact_set e) ∙ n)
      (step_sound T H.again fs e n s b) (next_fresh fs e z q.0) q.1 r)
    where
      own_same : own_in ys fs (entry_id e) ≡ own_in S.row fs (entry_id e)
      own_same = elim ((H.halts fs z).seen (entry_id e) q.0) [
        | inl k ↦ k
        | inr k ↦ (let y : own_in ys fs (entry_id e) ≡ option.Some True = step_own T H.again fs e s b in absurd cc)
      ]

  -- the same from no facts on
  module _ (es : List Entry) (other : NoEntry a es) where
    long : length no_facts ≡ 64
    long = length-replicate {A = Fact} 64 Nothing

    pub runs_on : (gs : List Fact) → Runs S no_facts es gs → Clear S g gs → Runs T no_facts es gs
    runs_on gs r c = accepted no_facts gs es long (no_facts_sound S.row) (none_yet a) other r c

    pub runs_back : (hs : List Fact) → Runs T no_facts es hs → Runs S no_facts es hs
    runs_back hs r = returned no_facts hs es long (no_facts_sound ys) (none_yet a) other r

    -- what runs on both has none of the halted followers begun, unless the gap is false
    pub runs_not : (gs hs : List Fact) → Runs S no_facts es gs → Runs T no_facts es hs → is_false (signal_in S.row gs g) ≡ false
        → (id : ℕ) → is_follower S.row g id ≡ true → has_fact (fact_of gs id) ≡ true → ⊥
    runs_not gs hs r y live id fol has = rejected no_facts gs hs es long (no_facts_sound S.row) (none_yet a) other r y live id fol has (ap has_fact (none_yet id))
