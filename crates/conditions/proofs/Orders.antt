-- Whether what a new edge asks for happened in its order. Assumes nothing.
use Rattle.std.proofs.Common.{◌≡◌, ℕ, Bool, true, false, not, cond, eqb, ◌⊎◌, List, [], ◌∷◌, ◌++◌, Some, None, Decides, Option, refl, ap, ap₂, ◌∙◌, subst, inl, inr, ⊎_elim}
use Rattle.std.proofs.lemmas.Bool.{ltb-true, lt-ltb, eqb-false, ne_eqb, not-true}
use Rattle.std.proofs.lemmas.Bool.Decides.{Decides-and, Decides-or, Decides-not, not_from_Decides}
use Rattle.std.specs.Option.{option_or}
use Rattle.model.specs.declared.Edge.{Edge}
use Rattle.model.specs.declared.Element.{Element}
use Rattle.model.specs.declared.Entry.{Entry}
use Rattle.model.specs.declared.Fact.{Fact}
use Rattle.model.specs.declared.Fact.TheVariants.{Nothing, Begun, Ended, Decided, Left}
use Rattle.model.specs.declared.State.{State}
use Rattle.model.specs.declared.State.TheVariants.{NotActivated, Activated, Running, Completed, Skipped}
use Rattle.model.specs.Signals.{fact_of, decided}
use Rattle.schema.specs.Checks.{SchemaParts}
use Rattle.schema.specs.Tables.{place_in}
use Rattle.marking.specs.States.{state_in}
use Rattle.history.specs.declared.EntryKind.{EntryKind}
use Rattle.history.specs.declared.EntryKind.TheVariants.{Start, End, Choose}
use Rattle.history.specs.Entries.{last_place, before}
use Rattle.agreement.specs.FalseGaps.{is_other, otherwise}
use Rattle.conditions.specs.Deciders.{decisions_at, decided_against}
use Rattle.conditions.specs.Conditions.{is_busy, is_completed, is_skipped, decided_before, decisions_around_node, decider, in_order}
use Rattle.conditions.specs.Meaning.{Before, Against, NoneAgainst, Outermost, FellAgainst, DecidedBefore, InOrder}

pub decides_busy : (o : Option State) → Decides (is_busy o) ((o ≡ Some Running) ⊎ (o ≡ Some Completed))
decides_busy o = (there o, ⊎_elim (ap is_busy) (ap is_busy))
  where
    there : (o : Option State) → is_busy o ≡ true → (o ≡ Some Running) ⊎ (o ≡ Some Completed)
    there None e = absurd cc
    there (Some NotActivated) e = absurd cc
    there (Some Activated) e = absurd cc
    there (Some Running) e = inl refl
    there (Some Completed) e = inr refl
    there (Some Skipped) e = absurd cc

decides_completed : (o : Option State) → Decides (is_completed o) (o ≡ Some Completed)
decides_completed o = (there o, ap is_completed)
  where
    there : (o : Option State) → is_completed o ≡ true → o ≡ Some Completed
    there None e = absurd cc
    there (Some NotActivated) e = absurd cc
    there (Some Activated) e = absurd cc
    there (Some Running) e = absurd cc
    there (Some Completed) e = refl
    there (Some Skipped) e = absurd cc

decides_skipped : (o : Option State) → Decides (is_skipped o) (o ≡ Some Skipped)
decides_skipped o = (there o, ap is_skipped)
  where
    there : (o : Option State) → is_skipped o ≡ true → o ≡ Some Skipped
    there None e = absurd cc
    there (Some NotActivated) e = absurd cc
    there (Some Activated) e = absurd cc
    there (Some Running) e = absurd cc
    there (Some Completed) e = absurd cc
    there (Some Skipped) e = refl

decides_before : (k : EntryKind) (a : ℕ) (l : EntryKind) (b : ℕ) (es : List Entry) → Decides (before (last_place k a es) (last_place l b es)) (Before k a l b es)
decides_before k a l b es = (there (last_place k a es) (last_place l b es) refl refl, back)
  where
    there : (p q : Option ℕ) → last_place k a es ≡ p → last_place l b es ≡ q → before p q ≡ true → Before k a l b es
    there None q first second e = absurd cc
    there (Some m) None first second e = absurd cc
    there (Some m) (Some n) first second e = record { first = m; second = n; first_at = first; second_at = second; ordered = ltb-true m n e }

    back : Before k a l b es → before (last_place k a es) (last_place l b es) ≡ true
    back h = ap₂ before h.first_at h.second_at ∙ lt-ltb h.first h.second h.ordered

module _ (fs : List Fact) where
  decides_against : (d : ℕ × ℕ) → Decides (otherwise fs d) (Against fs d)
  decides_against d = (there (fact_of fs d.0) refl, λ h. ap (λ f. is_other (decided f) d.1) h.1 ∙ ap not (ne_eqb h.0 d.1 h.2))
    where
      there : (f : Fact) → fact_of fs d.0 ≡ f → is_other (decided f) d.1 ≡ true → Against fs d
      there Nothing is e = absurd cc
      there Begun is e = absurd cc
      there Ended is e = absurd cc
      there (Decided j) is e = (j, is, eqb-false j d.1 (not-true (eqb j d.1) e))
      there Left is e = absurd cc

  none_told : (ds : List (ℕ × ℕ)) → decided_against fs ds ≡ None → NoneAgainst fs ds
  none_told [] e = tt
  none_told (d ∷ ds) e = go (decided_against fs ds) refl (otherwise fs d) refl e (none_told ds)
    where
      go : (o : Option ℕ) → decided_against fs ds ≡ o → (b : Bool) → otherwise fs d ≡ b → option_or o (cond b (Some d.0) None) ≡ None
          → (decided_against fs ds ≡ None → NoneAgainst fs ds) → NoneAgainst fs (d ∷ ds)
      go (Some i) is b other e rest = absurd cc
      go None is true other e rest = absurd cc
      go None is false other e rest = (not_from_Decides _ (decides_against d) other, rest is)

  none_back : (ds : List (ℕ × ℕ)) → NoneAgainst fs ds → decided_against fs ds ≡ None
  none_back [] h = refl
  none_back (d ∷ ds) h =
      ap₂ (λ o b. option_or o (cond b (Some d.0) None)) (none_back ds h.1) (no (otherwise fs d) refl)
    where
      no : (b : Bool) → otherwise fs d ≡ b → otherwise fs d ≡ false
      no true e = absurd (h.0 ((decides_against d).0 e))
      no false e = e

  outermost_told : (ds : List (ℕ × ℕ)) (i : ℕ) → decided_against fs ds ≡ Some i → Outermost fs ds i
  outermost_told [] i e = absurd cc
  outermost_told (d ∷ ds) i e = go (decided_against fs ds) refl (otherwise fs d) refl e (λ is. outermost_told ds i is)
    where
      go : (o : Option ℕ) → decided_against fs ds ≡ o → (b : Bool) → otherwise fs d ≡ b → option_or o (cond b (Some d.0) None) ≡ Some i
          → (decided_against fs ds ≡ Some i → Outermost fs ds i) → Outermost fs (d ∷ ds) i
      go (Some j) is b other e rest =
          let r = rest (is ∙ e) in
          record { inner = d ∷ r.inner; branch = r.branch; outer = r.outer; parted = ap (λ cs. d ∷ cs) r.parted; against = r.against; last = r.last }
      go None is true other e rest =
          let same : d.0 ≡ i = cc in
          record {
            inner = [];
            branch = d.1;
            outer = ds;
            parted = ap (λ n. (n, d.1) ∷ ds) same;
            against = subst (λ n. Against fs (n, d.1)) same ((decides_against d).0 other);
            last = none_told ds is;
          }
      go None is false other e rest = absurd cc

  parted_back : (inner : List (ℕ × ℕ)) (i b : ℕ) (outer : List (ℕ × ℕ)) → Against fs (i, b) → NoneAgainst fs outer
      → decided_against fs (inner ++ (i, b) ∷ outer) ≡ Some i
  parted_back [] i b outer against last = ap₂ (λ o c. option_or o (cond c (Some i) None)) (none_back outer last) ((decides_against (i, b)).1 against)
  parted_back (d ∷ inner) i b outer against last = ap (λ o. option_or o (cond (otherwise fs d) (Some d.0) None)) (parted_back inner i b outer against last)

  outermost_back : (ds : List (ℕ × ℕ)) (i : ℕ) → Outermost fs ds i → decided_against fs ds ≡ Some i
  outermost_back ds i r = ap (decided_against fs) r.parted ∙ parted_back r.inner i r.branch r.outer r.against r.last

  module _ (xs : List Element) (a : ℕ) where
    decider_told : (i : ℕ) → decider xs fs a ≡ Some i → FellAgainst xs fs a i
    decider_told i e = go (place_in xs a) refl e
      where
        go : (o : Option ℕ) → place_in xs a ≡ o → decided_against fs (decisions_around_node xs o) ≡ Some i → FellAgainst xs fs a i
        go None is e = absurd cc
        go (Some p) is e = record { place = p; found = is; outermost = outermost_told (decisions_at xs p) i e }

    decider_back : (i : ℕ) → FellAgainst xs fs a i → decider xs fs a ≡ Some i
    decider_back i r = ap (λ o. decided_against fs (decisions_around_node xs o)) r.found ∙ outermost_back (decisions_at xs r.place) i r.outermost

    decides_decided : (es : List Entry) (b : ℕ) → Decides (decided_before es b (decider xs fs a)) (DecidedBefore xs fs es a b)
    decides_decided es b = (there (decider xs fs a) refl, λ r. ap (decided_before es b) (decider_back r.decision r.fell) ∙ (decides_before Choose r.decision Start b es).1 r.made)
      where
        there : (o : Option ℕ) → decider xs fs a ≡ o → decided_before es b o ≡ true → DecidedBefore xs fs es a b
        there None is e = absurd cc
        there (Some i) is e = record { decision = i; fell = decider_told i is; made = (decides_before Choose i Start b es).0 e }

pub decides_order : (S : SchemaParts) (fs : List Fact) (es : List Entry) (e : Edge) → Decides (in_order S fs es e) (InOrder S fs es e)
decides_order S fs es e =
    Decides-or _ _ (Decides-not _ (decides_busy (state_in S.row S.edges fs e.target)))
    (Decides-or _ _
    (Decides-and _ _ (decides_completed (state_in S.row S.edges fs e.source)) (decides_before End e.source Start e.target es))
    (Decides-and _ _ (decides_skipped (state_in S.row S.edges fs e.source)) (decides_decided fs S.row e.source es e.target)))
