-- What a sync edge more asks of a step. Assumes nothing.
use Rattle.std.proofs.Common.{◌≡◌, ℕ, Bool, true, false, not, ◌&&◌, ◌||◌, eqb, ◌⊎◌, List, [], ◌∷◌, ◌++◌, Option, sym, refl, ap, ◌∙◌, inl, inr, eq-eqb}
use Rattle.std.specs.declared.option.Option.TheVariants as option
use Rattle.std.proofs.lemmas.Bool.{false≢true}
use Rattle.std.proofs.Math.Bool.{and-true, and_assoc}
use Rattle.model.specs.declared.Edge.{Edge}
use Rattle.model.specs.declared.Entry.{Entry}
use Rattle.model.specs.declared.Entry.TheVariants.{Start, End, Choose, Leave}
use Rattle.model.specs.declared.Fact.{Fact}
use Rattle.model.specs.declared.Fact.TheVariants.{Nothing, Begun, Ended, Decided, Left}
use Rattle.model.specs.declared.Signal.{Signal}
use Rattle.model.specs.declared.Signal.TheVariants.{True, False, None}
use Rattle.model.specs.declared.State.TheVariants.{NotActivated, Activated}
use Rattle.model.specs.Entries.{entry_id, needed}
use Rattle.model.specs.Signals.{fact_of}
use Rattle.model.specs.States.{state_of}
use Rattle.schema.specs.Checks.{SchemaParts}
use Rattle.marking.specs.States.{own_in, settled_in, free_in, with_signal, state_in}
use Rattle.runs.specs.Steps.{Allowed}
use Rattle.agreement.specs.Growth.{has_fact}
use Rattle.changes.specs.declared.Change.TheVariants.{AddEdge}
use Rattle.draft_rules.specs.Stages.{changed}

-- no step needs a node that waits
never_waits : {P : Type 0} (x : Entry) → NotActivated ≡ needed x → P
never_waits (Start i) h = absurd cc
never_waits (End i) h = absurd cc
never_waits (Choose i b) h = absurd cc
never_waits (Leave i) h = absurd cc

state_less : (x : Entry) (g : Signal) (f : Fact) (r s : Bool) → state_of g f (r && s) ≡ needed x → state_of g f r ≡ needed x
state_less x False f r s h = h
state_less x None f r s h = h
state_less x True Nothing true true h = h
state_less x True Nothing true false h = never_waits x h
state_less x True Nothing false s h = h
state_less x True Begun r s h = h
state_less x True Ended r s h = h
state_less x True (Decided b) r s h = h
state_less x True Left r s h = h

state_kept : (g : Signal) (f : Fact) (r s : Bool) → (has_fact f ≡ true) ⊎ (s ≡ true) → state_of g f (r && s) ≡ state_of g f r
state_kept g f r s (inr e) = ap (λ b. state_of g f (r && b)) e ∙ ap (state_of g f) (and-true r)
state_kept False f r s (inl e) = refl
state_kept None f r s (inl e) = refl
state_kept True Nothing r s (inl e) = absurd (false≢true e)
state_kept True Begun r s (inl e) = refl
state_kept True Ended r s (inl e) = refl
state_kept True (Decided b) r s (inl e) = refl
state_kept True Left r s (inl e) = refl

state_held : (g : Signal) (f : Fact) (r s : Bool) → state_of g f (r && s) ≡ Activated → s ≡ true
state_held False f r s h = absurd cc
state_held None Nothing r s h = absurd cc
state_held None Begun r s h = absurd cc
state_held None Ended r s h = absurd cc
state_held None (Decided b) r s h = absurd cc
state_held None Left r s h = absurd cc
state_held True Nothing true true h = refl
state_held True Nothing true false h = absurd cc
state_held True Nothing false s h = absurd cc
state_held True Begun r s h = absurd cc
state_held True Ended r s h = absurd cc
state_held True (Decided b) r s h = absurd cc
state_held True Left r s h = absurd cc

module _ (S : SchemaParts) (e : Edge) where
  -- what the edge asks of a node
  abbrev pub Held : List Fact → ℕ → Bool
  Held fs id = not (eqb e.target id) || settled_in S.row fs e.source

  free_more : (fs : List Fact) (ds : List Edge) (id : ℕ) → free_in S.row (ds ++ e ∷ []) fs id ≡ (free_in S.row ds fs id && Held fs id)
  free_more fs [] id = and-true (Held fs id)
  free_more fs (d ∷ ds) id =
      let own_wait = not (eqb d.target id) || settled_in S.row fs d.source in
      ap (λ b. own_wait && b) (free_more fs ds id) ∙ sym (and_assoc own_wait (free_in S.row ds fs id) (Held fs id))

  state_more : (fs : List Fact) (id : ℕ)
      → state_in S.row (S.edges ++ e ∷ []) fs id ≡ with_signal (own_in S.row fs id) (fact_of fs id) (free_in S.row S.edges fs id && Held fs id)
  state_more fs id = ap (with_signal (own_in S.row fs id) (fact_of fs id)) (free_more fs S.edges id)

  module _ (fs : List Fact) (x : Entry) where
    by_own : (o : Option Signal) (f : Fact) (r s : Bool) → with_signal o f (r && s) ≡ option.Some (needed x) → with_signal o f r ≡ option.Some (needed x)
    by_own option.None f r s h = h
    by_own (option.Some g) f r s h = ap option.Some (state_less x g f r s (let k : state_of g f (r && s) ≡ needed x = cc in k))

    -- the edge forbids steps only
    pub allowed_less : Allowed (changed (AddEdge e) S) fs x → Allowed S fs x
    allowed_less a = record {
      fits = a.fits;
      state = by_own (own_in S.row fs (entry_id x)) (fact_of fs (entry_id x)) (free_in S.row S.edges fs (entry_id x)) (Held fs (entry_id x))
          (sym (state_more fs (entry_id x)) ∙ a.state);
    }

    kept : (o : Option Signal) (f : Fact) (r s : Bool) → (has_fact f ≡ true) ⊎ (s ≡ true) → with_signal o f (r && s) ≡ with_signal o f r
    kept option.None f r s h = refl
    kept (option.Some g) f r s h = ap option.Some (state_kept g f r s h)

    -- none of a node that was begun, or whose source is settled
    pub allowed_more : (has_fact (fact_of fs (entry_id x)) ≡ true) ⊎ (Held fs (entry_id x) ≡ true) → Allowed S fs x → Allowed (changed (AddEdge e) S) fs x
    allowed_more h a = record {
      fits = a.fits;
      state = state_more fs (entry_id x)
          ∙ kept (own_in S.row fs (entry_id x)) (fact_of fs (entry_id x)) (free_in S.row S.edges fs (entry_id x)) (Held fs (entry_id x)) h
          ∙ a.state;
    }

  held_start : (o : Option Signal) (f : Fact) (r s : Bool) → with_signal o f (r && s) ≡ option.Some Activated → s ≡ true
  held_start option.None f r s h = absurd cc
  held_start (option.Some g) f r s h = state_held g f r s (let k : state_of g f (r && s) ≡ Activated = cc in k)

  -- where the edge allows its target's start, its source is settled
  pub start_settled : (fs : List Fact) → Allowed (changed (AddEdge e) S) fs (Start e.target) → settled_in S.row fs e.source ≡ true
  start_settled fs a =
      sym (ap (λ b. not b || settled_in S.row fs e.source) (eq-eqb e.target e.target refl))
      ∙ held_start (own_in S.row fs e.target) (fact_of fs e.target) (free_in S.row S.edges fs e.target) (Held fs e.target)
      (sym (state_more fs e.target) ∙ a.state)
