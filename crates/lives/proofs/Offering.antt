-- Who is offered may be started, and the other way round. Assumes nothing.
use Rattle.std.proofs.Common.{◌≡◌, ℕ, true, List, Some, None, Option, sym, refl, ap, subst, Decides}
use Rattle.std.proofs.lemmas.Bool.{and_parts, and_from}
use Rattle.model.specs.declared.Entry.TheVariants.{Start}
use Rattle.model.specs.declared.Fact.{Fact}
use Rattle.model.specs.declared.State.{State}
use Rattle.model.specs.declared.State.TheVariants.{NotActivated, Activated, Running, Completed, Skipped}
use Rattle.model.specs.Nodes.{Holds}
use Rattle.model.specs.Trees.{Seq, activity, flatten}
use Rattle.schema.specs.Checks.{SchemaParts, Admitted}
use Rattle.schema.proofs.Checked.{checked_fine, checked_nested}
use Rattle.marking.specs.States.{state_in}
use Rattle.runs.specs.Steps.{fits_in, Allowed}
use Rattle.runs.proofs.NodesFit.{fits_node}
use Rattle.changes.specs.Effects.{has_activity}
use Rattle.changes.proofs.Activities.{told}
use Rattle.lives.specs.Offers.{is_activated, offers}
use Rattle.lives.specs.Laws.{OffersMayBeStarted}

activated : (o : Option State) → is_activated o ≡ true → o ≡ Some Activated
activated None h = absurd cc
activated (Some NotActivated) h = absurd cc
activated (Some Activated) h = refl
activated (Some Running) h = absurd cc
activated (Some Completed) h = absurd cc
activated (Some Skipped) h = absurd cc

module _ (S : SchemaParts) (fs : List Fact) (id : ℕ) (ok : Admitted S) (t : Seq) (is : S.row ≡ flatten t) where
  -- the step's node is the activity
  node : Decides (fits_in S.row (Start id)) (Holds t (activity id))
  node = let fine = checked_fine S.row S.edges ok.passed in fits_node S.row ok.few fine.0 fine.1 t is (Start id)

  forth : offers S fs id ≡ true → Allowed S fs (Start id)
  forth h =
      let p = and_parts (has_activity S.row id) _ h in
      record {
        fits = node.1 ((told t id).0 (subst (λ xs. has_activity xs id ≡ true) is p.0));
        state = activated (state_in S.row S.edges fs id) p.1;
      }

  back : Allowed S fs (Start id) → offers S fs id ≡ true
  back a =
      and_from (has_activity S.row id) _ (subst (λ xs. has_activity xs id ≡ true) (sym is) ((told t id).1 (node.0 a.fits)))
      (ap is_activated a.state)

pub may_be_started : OffersMayBeStarted
may_be_started S fs id ok =
    let whole = checked_nested S.row S.edges ok.passed in
    (forth S fs id ok whole.0 whole.2, back S fs id ok whole.0 whole.2)
