-- A history runs with a sync edge more exactly if it runs without, and the edge's source is settled where its target is
-- started. Assumes nothing.
use Rattle.std.proofs.Common.{◌≡◌, ℕ, Bool, true, false, cond, not, ◌⊎◌, List, [], ◌∷◌, length, Some, None, Option, sym, refl, ap, ◌∙◌, subst, inl, inr, ⊎_elim, arith, length-set, eq-eqb, ne_eqb}
use Rattle.std.proofs.lemmas.List.{get_or-set_other}
use Rattle.std.proofs.lemmas.Bool.{cases_eq, or_left, or_right, true≢false}
use Rattle.model.specs.declared.Edge.{Edge}
use Rattle.model.specs.declared.Entry.{Entry}
use Rattle.model.specs.declared.Entry.TheVariants as entry
use Rattle.model.specs.declared.Fact.{Fact}
use Rattle.model.specs.declared.Fact.TheVariants.{Nothing, Begun, Ended, Decided, Left}
use Rattle.model.specs.Entries.{entry_id, fact_set}
use Rattle.model.specs.Signals.{fact_of}
use Rattle.schema.specs.Checks.{SchemaParts}
use Rattle.marking.specs.States.{settled_in}
use Rattle.runs.specs.Steps.{Allowed, Runs, ends, steps}
use Rattle.agreement.specs.Laws.{Checked}
use Rattle.agreement.specs.Growth.{has_fact}
use Rattle.agreement.proofs.Progress.{rank, rank_needed, step_of}
use Rattle.history.specs.declared.EntryKind.TheVariants.{Start}
use Rattle.history.specs.Entries.{is_of}
use Rattle.changes.specs.declared.Change.TheVariants.{AddEdge}
use Rattle.draft_rules.specs.Stages.{changed}
use Rattle.new_edges.proofs.Activities.{Standing, entries_of}
use Rattle.new_edges.proofs.EdgedSteps.{Held, allowed_less, allowed_more, start_settled}
use Rattle.new_edges.proofs.Starts.{with_entry, at_start, is_start, fact_now, fact_kept, fact_stays}

-- what a finish needs is a fact
ranked_has_fact : (f : Fact) → rank f ≡ 1 → has_fact f ≡ true
ranked_has_fact Nothing h = absurd (omega arith)
ranked_has_fact Begun h = refl
ranked_has_fact Ended h = refl
ranked_has_fact (Decided b) h = refl
ranked_has_fact Left h = refl

module _ (S : SchemaParts) (c : Checked S) (e : Edge) (target : Standing S e.target) where
  -- the first entry of an activity is its start
  starts_first : (fs : List Fact) (x : Entry) → Allowed S fs x → entry_id x ≡ e.target → has_fact (fact_of fs e.target) ≡ false → is_of Start e.target x ≡ true
  starts_first fs x a is none = go (entries_of S e.target x target a.fits is)
    where
      go : (x ≡ entry.Start e.target) ⊎ (x ≡ entry.End e.target) → is_of Start e.target x ≡ true
      go (inl h) = ap (is_of Start e.target) h ∙ eq-eqb e.target e.target refl
      go (inr h) =
          let one : rank (fact_of fs e.target) ≡ 1 = sym (ap (λ j. rank (fact_of fs j)) is) ∙ (step_of S c fs x a).before ∙ ap rank_needed h in
          absurd (true≢false (sym (ranked_has_fact (fact_of fs e.target) one) ∙ none))

  -- it was not started, or its source was settled then
  abbrev pub Waited : Option (List Fact) → Bool
  Waited None = true
  Waited (Some fs) = settled_in S.row fs e.source

  -- a run with the edge is one without
  pub run_less : (fs gs : List Fact) (es : List Entry) → Runs (changed (AddEdge e) S) fs es gs → Runs S fs es gs
  run_less fs gs [] ends = ends
  run_less fs gs (x ∷ es) (steps a r) = steps (allowed_less S e fs x a) (run_less _ gs es r)

  -- and in it the target's start found the source settled
  pub run_waited : (fs gs : List Fact) (es : List Entry) → Runs (changed (AddEdge e) S) fs es gs → Waited (at_start e.target fs es) ≡ true
  run_waited fs gs [] ends = refl
  run_waited fs gs (x ∷ es) (steps a r) = go (is_of Start e.target x) refl (run_waited _ gs es r)
    where
      go : (v : Bool) → is_of Start e.target x ≡ v → Waited (at_start e.target (with_entry fs x) es) ≡ true
          → Waited (cond v (Some fs) (at_start e.target (with_entry fs x) es)) ≡ true
      go true h rec = start_settled S e fs (subst (Allowed (changed (AddEdge e) S) fs) (is_start e.target x h) a)
      go false h rec = rec

  -- a run without the edge is one with it, if the target has a fact or will wait
  pub run_more : (fs gs : List Fact) (es : List Entry) → length fs ≡ 64 → Runs S fs es gs
      → (has_fact (fact_of fs e.target) ≡ true) ⊎ (Waited (at_start e.target fs es) ≡ true) → Runs (changed (AddEdge e) S) fs es gs
  run_more fs _ [] long ends w = ends
  run_more fs gs (x ∷ es) long (steps a r) w =
      go (is_of Start e.target x) refl w (run_more (with_entry fs x) gs es (length-set fs (entry_id x) (fact_set x) ∙ long) r)
    where
      unasked : (entry_id x ≡ e.target → ⊥) → Held S e fs (entry_id x) ≡ true
      unasked q = or_left _ _ (ap not (ne_eqb e.target (entry_id x) (λ k. q (sym k))))

      go : (v : Bool) → is_of Start e.target x ≡ v
          → (has_fact (fact_of fs e.target) ≡ true) ⊎ (Waited (cond v (Some fs) (at_start e.target (with_entry fs x) es)) ≡ true)
          → ((has_fact (fact_of (with_entry fs x) e.target) ≡ true) ⊎ (Waited (at_start e.target (with_entry fs x) es) ≡ true)
          → Runs (changed (AddEdge e) S) (with_entry fs x) es gs) → Runs (changed (AddEdge e) S) fs (x ∷ es) gs
      go v h (inl f) rec =
          steps (⊎_elim (λ q. allowed_more S e fs x (inl (ap (λ j. has_fact (fact_of fs j)) q ∙ f)) a) (λ q. allowed_more S e fs x (inr (unasked q)) a) (cases_eq (entry_id x) e.target))
          (rec (inl (fact_kept S c fs x e.target long a f)))
      go true h (inr f) rec =
          let is = ap entry_id (is_start e.target x h) in
          steps (allowed_more S e fs x (inr (or_right _ _ f)) a) (rec (inl (fact_now S c fs x e.target long a is)))
      go false h (inr f) rec = steps (⊎_elim same other (cases_eq (entry_id x) e.target)) (rec (inr f))
        where
          other : (entry_id x ≡ e.target → ⊥) → Allowed (changed (AddEdge e) S) fs x
          other q = allowed_more S e fs x (inr (unasked q)) a

          same : entry_id x ≡ e.target → Allowed (changed (AddEdge e) S) fs x
          same q = by_fact (has_fact (fact_of fs e.target)) refl
            where
              by_fact : (b : Bool) → has_fact (fact_of fs e.target) ≡ b → Allowed (changed (AddEdge e) S) fs x
              by_fact true k = allowed_more S e fs x (inl (ap (λ j. has_fact (fact_of fs j)) q ∙ k)) a
              by_fact false k = absurd (true≢false (sym (starts_first fs x a q k) ∙ h))

  -- a node that is not started has no fact
  pub unstarted : (fs gs : List Fact) (es : List Entry) → length fs ≡ 64 → Runs S fs es gs → at_start e.target fs es ≡ None
      → has_fact (fact_of fs e.target) ≡ false → has_fact (fact_of gs e.target) ≡ false
  unstarted fs gs [] long ends at none = none
  unstarted fs gs (x ∷ es) long (steps a r) at none =
      go (is_of Start e.target x) refl at (unstarted (with_entry fs x) gs es (length-set fs (entry_id x) (fact_set x) ∙ long) r)
    where
      go : (v : Bool) → is_of Start e.target x ≡ v → cond v (Some fs) (at_start e.target (with_entry fs x) es) ≡ None
          → (at_start e.target (with_entry fs x) es ≡ None → has_fact (fact_of (with_entry fs x) e.target) ≡ false
          → has_fact (fact_of gs e.target) ≡ false) → has_fact (fact_of gs e.target) ≡ false
      go true h at rec = absurd cc
      go false h at rec =
          rec at
          (⊎_elim (λ q. absurd (true≢false (sym (starts_first fs x a (sym q) none) ∙ h)))
          (λ q. ap has_fact (get_or-set_other fs (entry_id x) e.target (fact_set x) Nothing q) ∙ none)
          (cases_eq e.target (entry_id x)))

-- the run up to a start, and on from there
pub record Started (S : SchemaParts) (b : ℕ) (fs hs gs : List Fact) : Type 0 where
  pub front : List Entry
  pub up : Runs S fs front hs
  pub rest : List Entry
  pub on : Runs S hs rest gs
  pub begun : has_fact (fact_of gs b) ≡ true

pub started : (S : SchemaParts) (c : Checked S) (b : ℕ) (fs hs gs : List Fact) (es : List Entry) → length fs ≡ 64 → Runs S fs es gs → at_start b fs es ≡ Some hs → Started S b fs hs gs
started S c b fs hs gs [] long ends at = absurd cc
started S c b fs hs gs (x ∷ es) long (steps a r) at =
    go (is_of Start b x) refl at (started S c b (with_entry fs x) hs gs es (length-set fs (entry_id x) (fact_set x) ∙ long) r)
  where
    go : (v : Bool) → is_of Start b x ≡ v → cond v (Some fs) (at_start b (with_entry fs x) es) ≡ Some hs
        → (at_start b (with_entry fs x) es ≡ Some hs → Started S b (with_entry fs x) hs gs) → Started S b fs hs gs
    go true h at rec =
        let same : fs ≡ hs = cc in
        subst (λ ks. Started S b fs ks gs) same (record {
          front = [];
          up = ends;
          rest = x ∷ es;
          on = steps a r;
          begun = fact_stays S c (with_entry fs x) gs es b (length-set fs (entry_id x) (fact_set x) ∙ long) r
              (fact_now S c fs x b long a (ap entry_id (is_start b x h)));
        })
    go false h at rec =
        let s = rec at in
        record { front = x ∷ s.front; up = steps a s.up; rest = s.rest; on = s.on; begun = s.begun }
