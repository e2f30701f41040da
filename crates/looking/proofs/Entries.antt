-- Entries of a run are of nodes of its row, and a run does not ask for the version. Assumes nothing.
use Rattle.std.proofs.Common.{◌≡◌, ℕ, List, [], ◌∷◌, set, Option, refl, subst}
use Rattle.std.specs.declared.option.Option.TheVariants as option
use Rattle.model.specs.declared.Entry.{Entry}
use Rattle.model.specs.declared.Fact.{Fact}
use Rattle.model.specs.declared.Signal.{Signal}
use Rattle.model.specs.Entries.{entry_id, needed, fact_set}
use Rattle.model.specs.Rows.{Among}
use Rattle.model.specs.Signals.{fact_of}
use Rattle.schema.specs.Checks.{SchemaParts}
use Rattle.marking.specs.Machine.{signals, start}
use Rattle.marking.specs.States.{own_in, free_in, with_signal}
use Rattle.runs.specs.Steps.{Allowed, Runs, ends, steps}
use Rattle.agreement.proofs.Progress.{own_among}
use Rattle.draft_rules.specs.Stages.{renewed}
use Rattle.conditions.specs.Kinds.{NoEntry}

-- The node of a step that is allowed is in the row.
step_among : (S : SchemaParts) (fs : List Fact) (e : Entry) → Allowed S fs e → Among S.row (entry_id e)
step_among S fs e a = go (own_in S.row fs (entry_id e)) refl a.state
  where
    go : (o : Option Signal) → own_in S.row fs (entry_id e) ≡ o
        → with_signal o (fact_of fs (entry_id e)) (free_in S.row S.edges fs (entry_id e)) ≡ option.Some (needed e) → Among S.row (entry_id e)
    go option.None is h = absurd cc
    go (option.Some g) is h = own_among S.row (signals fs start S.row) 0 (entry_id e) g is

pub no_entry : (S : SchemaParts) (a : ℕ) → (Among S.row a → ⊥) → (fs gs : List Fact) (es : List Entry) → Runs S fs es gs → NoEntry a es
no_entry S a n fs gs [] ends = tt
no_entry S a n fs gs (e ∷ es) (steps s r) =
    ((λ h. n (subst (Among S.row) h (step_among S fs e s))), no_entry S a n (set fs (entry_id e) (fact_set e)) gs es r)

module _ (n : ℕ) (S : SchemaParts) where
  pub on_renewed : (fs gs : List Fact) (es : List Entry) → Runs S fs es gs → Runs (renewed n S) fs es gs
  on_renewed fs _ [] ends = ends
  on_renewed fs gs (e ∷ es) (steps a r) = steps (record { fits = a.fits; state = a.state }) (on_renewed (set fs (entry_id e) (fact_set e)) gs es r)

  pub from_renewed : (fs gs : List Fact) (es : List Entry) → Runs (renewed n S) fs es gs → Runs S fs es gs
  from_renewed fs _ [] ends = ends
  from_renewed fs gs (e ∷ es) (steps a r) = steps (record { fits = a.fits; state = a.state }) (from_renewed (set fs (entry_id e) (fact_set e)) gs es r)
