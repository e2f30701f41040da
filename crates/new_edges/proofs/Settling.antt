-- What settles an activity along a run: its finish, or the one decision that falls against it. Assumes nothing.
use Rattle.std.proofs.Common.{◌≡◌, ℕ, ◌+◌, ◌<◌, ◌≤◌, Bool, true, false, cond, ◌||◌, ltb, ◌⊎◌, List, [], ◌∷◌, length, get_or, Some, Option, sym, refl, ap, ◌∙◌, subst, inl, inr, ⊎_elim, arith, length-set}
use Rattle.std.specs.declared.option.Option.TheVariants as option
use Rattle.std.proofs.lemmas.List.{get_or-set_other}
use Rattle.std.proofs.lemmas.Bool.{cases_eq, false≢true, true≢false}
use Rattle.model.specs.declared.Element.TheVariants.{Activity, AndSplit, Bar}
use Rattle.model.specs.declared.Entry.{Entry}
use Rattle.model.specs.declared.Fact.{Fact}
use Rattle.model.specs.declared.Fact.TheVariants.{Nothing, Begun, Ended, Decided, Left}
use Rattle.model.specs.declared.Signal.TheVariants.{None}
use Rattle.model.specs.Entries.{entry_id, fact_set}
use Rattle.model.specs.Signals.{fact_of, is_done, is_false, decided, tree_signals}
use Rattle.model.specs.Trees.{flatten}
use Rattle.schema.specs.Checks.{SchemaParts, Admitted}
use Rattle.schema.proofs.Checked.{checked_nested}
use Rattle.marking.specs.Machine.{signals, start}
use Rattle.marking.specs.States.{settled, settled_in}
use Rattle.marking.proofs.TreeSignals.{on_tree}
use Rattle.runs.specs.Steps.{Runs, ends, steps}
use Rattle.agreement.specs.Laws.{no_facts}
use Rattle.agreement.specs.Growth.{Grown}
use Rattle.agreement.specs.FalseGaps.{is_other, otherwise, against, decisions_around}
use Rattle.agreement.proofs.GrowRuns.{ran_first}
use Rattle.agreement.proofs.Deciders.{Sure, Rights, on_gaps}
use Rattle.std.specs.Option.{option_or}
use Rattle.history.specs.declared.EntryKind.TheVariants.{End, Choose}
use Rattle.conditions.specs.Deciders.{decisions_at, decided_against}
use Rattle.new_edges.proofs.Climbs.{told}
use Rattle.new_edges.proofs.Activities.{Standing, entries_of}
use Rattle.new_edges.proofs.Starts.{with_entry, shows, now}

-- a decision that fell otherwise did so for good
pub otherwise_grown : (f g : Fact) (b : ℕ) → Grown f g → is_other (decided f) b ≡ true → is_other (decided g) b ≡ true
otherwise_grown Nothing g b h e = absurd (false≢true e)
otherwise_grown Begun g b h e = absurd (false≢true e)
otherwise_grown Ended g b h e = absurd (false≢true e)
otherwise_grown (Decided d) g b h e = ap (λ f. is_other (decided f) b) h ∙ e
otherwise_grown Left g b h e = absurd (false≢true e)

-- and was made
otherwise_shows : (f : Fact) (b : ℕ) → is_other (decided f) b ≡ true → shows Choose f ≡ true
otherwise_shows Nothing b e = absurd (false≢true e)
otherwise_shows Begun b e = absurd (false≢true e)
otherwise_shows Ended b e = absurd (false≢true e)
otherwise_shows (Decided d) b e = refl
otherwise_shows Left b e = absurd (false≢true e)

-- none of these decided otherwise
none_against : (gs : List Fact) (ds : List (ℕ × ℕ)) → against gs ds ≡ 0 → decided_against gs ds ≡ option.None
none_against gs [] e = refl
none_against gs (d ∷ ds) e = go (otherwise gs d) refl e (none_against gs ds)
  where
    go : (v : Bool) → otherwise gs d ≡ v → cond v (1 + against gs ds) (against gs ds) ≡ 0 → (against gs ds ≡ 0 → decided_against gs ds ≡ option.None)
        → option_or (decided_against gs ds) (cond (otherwise gs d) (Some d.0) option.None) ≡ option.None
    go true h e rec = absurd (omega arith)
    go false h e rec = ap (λ o. option_or o (cond (otherwise gs d) (Some d.0) option.None)) (rec e) ∙ ap (λ v. cond v (Some d.0) option.None) h

-- what decided otherwise earlier is the one that did so later
pub the_decider : (fs gs : List Fact) (ds : List (ℕ × ℕ)) → ((i : ℕ) → Grown (fact_of fs i) (fact_of gs i)) → 0 < against fs ds → against gs ds ≤ 1
    → (i : ℕ) × (decided_against gs ds ≡ Some i) × (shows Choose (fact_of fs i) ≡ true)
the_decider fs gs [] grown some one = absurd (omega arith)
the_decider fs gs (d ∷ ds) grown some one =
    go (otherwise fs d) (otherwise gs d) refl refl some one (the_decider fs gs ds grown)
  where
    go : (u v : Bool) → otherwise fs d ≡ u → otherwise gs d ≡ v → 0 < cond u (1 + against fs ds) (against fs ds) → cond v (1 + against gs ds) (against gs ds) ≤ 1
        → (0 < against fs ds → against gs ds ≤ 1 → (i : ℕ) × (decided_against gs ds ≡ Some i) × (shows Choose (fact_of fs i) ≡ true))
        → (i : ℕ) × (option_or (decided_against gs ds) (cond (otherwise gs d) (Some d.0) option.None) ≡ Some i) × (shows Choose (fact_of fs i) ≡ true)
    go true false h k some one rec = absurd (true≢false (sym (otherwise_grown (fact_of fs d.0) (fact_of gs d.0) d.1 (grown d.0) h) ∙ k))
    go true true h k some one rec = (
      d.0,
      ap (λ o. option_or o (cond (otherwise gs d) (Some d.0) option.None)) (none_against gs ds (omega arith)) ∙ ap (λ v. cond v (Some d.0) option.None) k,
      otherwise_shows (fact_of fs d.0) d.1 h,
    )
    go false v h k some one rec =
        let r = rec some (less v one) in (r.0, ap (λ o. option_or o (cond (otherwise gs d) (Some d.0) option.None)) r.1, r.2)
      where
        less : (v : Bool) → cond v (1 + against gs ds) (against gs ds) ≤ 1 → against gs ds ≤ 1
        less true l = omega arith
        less false l = l

-- a decision that fell otherwise later, and was made earlier, fell so earlier
pub decided_earlier : (fs gs : List Fact) (ds : List (ℕ × ℕ)) (i : ℕ) → decided_against gs ds ≡ Some i → fact_of fs i ≡ fact_of gs i → 0 < against fs ds
decided_earlier fs gs [] i e same = absurd cc
decided_earlier fs gs (d ∷ ds) i e same = go (decided_against gs ds) (otherwise gs d) refl refl e (λ k. decided_earlier fs gs ds i k same)
  where
    more : (v : Bool) → 0 < against fs ds → 0 < cond v (1 + against fs ds) (against fs ds)
    more true l = omega arith
    more false l = l

    go : (o : Option ℕ) (v : Bool) → decided_against gs ds ≡ o → otherwise gs d ≡ v → option_or o (cond v (Some d.0) option.None) ≡ Some i
        → (decided_against gs ds ≡ Some i → 0 < against fs ds) → 0 < cond (otherwise fs d) (1 + against fs ds) (against fs ds)
    go (Some j) v h k e rec = more (otherwise fs d) (rec (h ∙ e))
    go option.None true h k e rec =
        let is : d.0 ≡ i = cc in
        let w : otherwise fs d ≡ true = ap (λ f. is_other (decided f) d.1) (ap (fact_of fs) is ∙ same ∙ ap (fact_of gs) (sym is)) ∙ k in
        subst (λ b. 0 < cond b (1 + against fs ds) (against fs ds)) (sym w) (omega arith)
    go option.None false h k e rec = absurd cc

-- an activity's fact is set by its start or its finish
abbrev pub Plain : Fact → Type 0
Plain f = (f ≡ Nothing) ⊎ ((f ≡ Begun) ⊎ (f ≡ Ended))

pub plain_done : (f : Fact) → Plain f → is_done f ≡ shows End f
plain_done Nothing p = refl
plain_done Begun p = refl
plain_done Ended p = refl
plain_done (Decided b) (inl e) = absurd cc
plain_done (Decided b) (inr (inl e)) = absurd cc
plain_done (Decided b) (inr (inr e)) = absurd cc
plain_done Left (inl e) = absurd cc
plain_done Left (inr (inl e)) = absurd cc
plain_done Left (inr (inr e)) = absurd cc

module _ (S : SchemaParts) (c : Admitted S) (a : ℕ) (at : Standing S a) where
  pub stays_plain : (fs gs : List Fact) (es : List Entry) → length fs ≡ 64 → Runs S fs es gs → Plain (fact_of fs a) → Plain (fact_of gs a)
  stays_plain fs gs [] long ends p = p
  stays_plain fs gs (x ∷ es) long (steps l r) p =
      stays_plain (with_entry fs x) gs es (length-set fs (entry_id x) (fact_set x) ∙ long) r (⊎_elim own other (cases_eq a (entry_id x)))
    where
      own : a ≡ entry_id x → Plain (fact_of (with_entry fs x) a)
      own q =
          let here : fact_of (with_entry fs x) a ≡ fact_set x = ap (fact_of (with_entry fs x)) q ∙ now S c.passed fs x long l in
          ⊎_elim (λ s. inr (inl (here ∙ ap fact_set s))) (λ s. inr (inr (here ∙ ap fact_set s))) (entries_of S a x at l.fits (sym q))

      other : (a ≡ entry_id x → ⊥) → Plain (fact_of (with_entry fs x) a)
      other q = subst Plain (sym (get_or-set_other fs (entry_id x) a (fact_set x) Nothing q)) p

  -- the decisions around it
  abbrev pub Around : List (ℕ × ℕ)
  Around = decisions_at S.row at.place

  -- after a run it is Skipped exactly if one of these decided otherwise
  pub fallen : (gs : List Fact) (es : List Entry) → Runs S no_facts es gs
      → (is_false (get_or (signals gs start S.row) at.place None) ≡ ltb 0 (against gs Around)) × (against gs Around ≤ 1)
  fallen gs es r =
      let n = checked_nested S.row S.edges c.passed in
      let u : signals gs start S.row ≡ tree_signals gs n.0 = on_tree gs S.row _ refl n.0 n.2 in
      let F : Sure gs (flatten n.0) (tree_signals gs n.0) =
      subst (λ us. Sure gs (flatten n.0) us) u (subst (λ xs. Sure gs xs (signals gs start S.row)) n.2 (ran_first S c.passed gs es r).sound) in
      let all : Rights gs (signals gs start S.row) (decisions_around n.0) = subst (λ us. Rights gs us (decisions_around n.0)) (sym u) (on_gaps gs n.0 F) in
      let no_bar : get_or S.row at.place AndSplit ≡ Bar → ⊥ = λ e. let z : Activity a ≡ Bar = sym (at.here AndSplit) ∙ e in cc in
      subst (λ ds. (is_false (get_or (signals gs start S.row) at.place None) ≡ ltb 0 (against gs ds)) × (against gs ds ≤ 1))
      (sym (told S n.0 at.place c n.2 at.less no_bar)) (all at.place)

  -- so it is settled if one of these did, or if it is done
  pub settled_by : (gs : List Fact) (es : List Entry) → Runs S no_facts es gs → settled_in S.row gs a ≡ (ltb 0 (against gs Around) || is_done (fact_of gs a))
  settled_by gs es r = ap (λ o. settled o (fact_of gs a)) (at.own gs) ∙ ap (λ b. b || is_done (fact_of gs a)) (fallen gs es r).0
