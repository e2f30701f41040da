-- The state of a node, from what its own place tells. Assumes nothing.
use Rattle.std.proofs.Common.{◌≡◌, ℕ, Bool, true, false, ◌||◌, List, get_or, sym, refl, ap, ◌∙◌}
use Rattle.std.specs.declared.option.Option.TheVariants as option
use Rattle.model.specs.declared.Element.{Element}
use Rattle.model.specs.declared.Element.TheVariants.{AndSplit}
use Rattle.model.specs.declared.Edge.{Edge}
use Rattle.model.specs.declared.Fact.{Fact}
use Rattle.model.specs.declared.Fact.TheVariants.{Nothing, Begun, Ended, Decided, Left}
use Rattle.model.specs.declared.Signal.{Signal}
use Rattle.model.specs.declared.Signal.TheVariants.{True, False, None}
use Rattle.model.specs.Rows.{Bears, Unique, Low}
use Rattle.model.specs.Signals.{fact_of, is_false, is_done}
use Rattle.model.specs.States.{state_of}
use Rattle.layout.specs.Gaps.{gap_of}
use Rattle.layout.specs.Nodes.{Finds}
use Rattle.marking.specs.Machine.{signals, start}
use Rattle.marking.specs.States.{settled, settled_in, free_in, with_signal, state_in}
use Rattle.marking.specs.Nearby.{signal_in, dead, telling}
use Rattle.marking.proofs.Owns.{own_at, own_none}
use Rattle.marking.proofs.Around.{stands_before}

-- the state hangs on no more of the signal
pub state_told : (g : Signal) (f : Fact) (r : Bool) → state_of (telling g f) f r ≡ state_of g f r
state_told g Nothing r = refl
state_told True Begun r = refl
state_told True Ended r = refl
state_told True (Decided b) r = refl
state_told True Left r = refl
state_told False Begun r = refl
state_told False Ended r = refl
state_told False (Decided b) r = refl
state_told False Left r = refl
state_told None Begun r = refl
state_told None Ended r = refl
state_told None (Decided b) r = refl
state_told None Left r = refl

or_true : (b : Bool) → b || true ≡ true
or_true true = refl
or_true false = refl

or_false : (b : Bool) → b || false ≡ b
or_false true = refl
or_false false = refl

module _ (xs : List Element) (fs : List Fact) (id : ℕ) where
  pub node_before : (p : ℕ) → Finds xs id (option.Some p) → gap_of (get_or xs p AndSplit) p ≡ p
  node_before p f = stands_before (λ x. Bears x id) (λ b. b) (get_or xs p AndSplit) p f.1

  module _ (p : ℕ) (one : Unique xs) (found : Finds xs id (option.Some p)) where
    settled_at : settled_in xs fs id ≡ dead xs fs p || is_done (fact_of fs id)
    settled_at =
        ap (λ o. settled o (fact_of fs id)) (own_at (signals fs start xs) id xs p one found)
        ∙ ap (λ k. is_false (signal_in xs fs k) || is_done (fact_of fs id)) (sym (node_before p found))

    pub settled_done : is_done (fact_of fs id) ≡ true → settled_in xs fs id ≡ true
    settled_done done = settled_at ∙ ap (λ b. dead xs fs p || b) done ∙ or_true (dead xs fs p)

    pub settled_dead : is_done (fact_of fs id) ≡ false → settled_in xs fs id ≡ dead xs fs p
    settled_dead done = settled_at ∙ ap (λ b. dead xs fs p || b) done ∙ or_false (dead xs fs p)

  pub settled_none : Low xs → Finds xs id option.None → settled_in xs fs id ≡ false
  settled_none low f = ap (λ o. settled o (fact_of fs id)) (own_none (signals fs start xs) id xs low f)

  pub state_at : (es : List Edge) (p : ℕ) → Unique xs → Finds xs id (option.Some p)
      → state_in xs es fs id ≡ option.Some (state_of (signal_in xs fs p) (fact_of fs id) (free_in xs es fs id))
  state_at es p one f = ap (λ o. with_signal o (fact_of fs id) (free_in xs es fs id)) (own_at (signals fs start xs) id xs p one f)

  pub state_none : (es : List Edge) → Low xs → Finds xs id option.None → state_in xs es fs id ≡ option.None
  state_none es low f = ap (λ o. with_signal o (fact_of fs id) (free_in xs es fs id)) (own_none (signals fs start xs) id xs low f)
