-- A run is one on every schema with the same row and fewer sync edges. Assumes nothing.
use Rattle.std.proofs.Common.{◌≡◌, ℕ, Bool, true, cond, false, not, ◌||◌, eqb, List, [], ◌∷◌, filter, Option, set, refl, ap, ◌∙◌}
use Rattle.std.specs.declared.option.Option.TheVariants as option
use Rattle.std.proofs.lemmas.Bool.{and_parts, and_from}
use Rattle.model.specs.declared.Edge.{Edge}
use Rattle.model.specs.declared.Element.{Element}
use Rattle.model.specs.declared.Entry.{Entry}
use Rattle.model.specs.declared.Entry.TheVariants.{Start, End, Choose, Leave}
use Rattle.model.specs.declared.Fact.{Fact}
use Rattle.model.specs.declared.Fact.TheVariants.{Nothing, Begun, Ended, Decided, Left}
use Rattle.model.specs.declared.Signal.{Signal}
use Rattle.model.specs.declared.Signal.TheVariants.{True, False, None}
use Rattle.model.specs.declared.State.TheVariants.{NotActivated}
use Rattle.model.specs.Entries.{entry_id, needed, fact_set}
use Rattle.model.specs.Signals.{fact_of}
use Rattle.model.specs.States.{state_of}
use Rattle.schema.specs.Checks.{SchemaParts}
use Rattle.marking.specs.States.{own, own_in, free, free_in, settled, with_signal}
use Rattle.runs.specs.Steps.{Allowed, Runs, ends, steps}

-- no step needs a node that is not activated
pub not_needed : {P : Type 0} (e : Entry) → NotActivated ≡ needed e → P
not_needed (Start i) h = absurd cc
not_needed (End i) h = absurd cc
not_needed (Choose i b) h = absurd cc
not_needed (Leave i) h = absurd cc

-- where a step may be done, more settled sources do not hinder it
state_freer : (e : Entry) (g : Signal) (f : Fact) (r q : Bool) → (r ≡ true → q ≡ true) → state_of g f r ≡ needed e → state_of g f q ≡ needed e
state_freer e True Nothing true q k h = ap (state_of True Nothing) (k refl) ∙ h
state_freer e True Nothing false q k h = not_needed e h
state_freer e True Begun r q k h = h
state_freer e True Ended r q k h = h
state_freer e True (Decided b) r q k h = h
state_freer e True Left r q k h = h
state_freer e False f r q k h = h
state_freer e None f r q k h = h

freer : (e : Entry) (o : Option Signal) (f : Fact) (r q : Bool) → (r ≡ true → q ≡ true)
    → with_signal o f r ≡ option.Some (needed e) → with_signal o f q ≡ option.Some (needed e)
freer e option.None f r q k h = h
freer e (option.Some g) f r q k h = let same : state_of g f r ≡ needed e = cc in ap option.Some (state_freer e g f r q k same)

-- with fewer edges, fewer sources have to be settled
free_fewer : (p : Edge → Bool) (xs : List Element) (us : List Signal) (fs : List Fact) (es : List Edge) (id : ℕ)
    → free xs us fs es id ≡ true → free xs us fs (filter p es) id ≡ true
free_fewer p xs us fs [] id h = refl
free_fewer p xs us fs (e ∷ es) id h =
    let c = and_parts (not (eqb e.target id) || settled (own xs us 0 e.source) (fact_of fs e.source)) (free xs us fs es id) h in
    go (p e) c.0 (free_fewer p xs us fs es id c.1)
  where
    go : (b : Bool) → (not (eqb e.target id) || settled (own xs us 0 e.source) (fact_of fs e.source)) ≡ true → free xs us fs (filter p es) id ≡ true
        → free xs us fs (cond b (e ∷ filter p es) (filter p es)) id ≡ true
    go true k rec = and_from _ _ k rec
    go false k rec = rec

-- the edges of which p holds
module _ (S : SchemaParts) (p : Edge → Bool) where
  abbrev Fewer : SchemaParts
  Fewer = record { version = S.version; row = S.row; edges = filter p S.edges }

  fewer_allowed : (fs : List Fact) (e : Entry) → Allowed S fs e → Allowed Fewer fs e
  fewer_allowed fs e a = record {
    fits = a.fits;
    state = freer e (own_in S.row fs (entry_id e)) (fact_of fs (entry_id e)) (free_in S.row S.edges fs (entry_id e)) _
        (free_fewer p S.row _ fs S.edges (entry_id e)) a.state;
  }

  pub fewer_runs : (fs gs : List Fact) (es : List Entry) → Runs S fs es gs → Runs Fewer fs es gs
  fewer_runs fs _ [] ends = ends
  fewer_runs fs gs (e ∷ es) (steps a r) = steps (fewer_allowed fs e a) (fewer_runs (set fs (entry_id e) (fact_set e)) gs es r)
