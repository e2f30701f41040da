-- The hindrance of a change is the right answer and the only one. Assumes nothing.
use Rattle.std.proofs.Common.{◌≡◌, ℕ, ◌<◌, ◌≤◌, Bool, true, false, cond, ltb, ◌&&◌, List, drop, Some, None, Decides, Option, get_or, sym, refl, ap, ap₂, ◌∙◌, subst, inl, inr, ⊎_elim, arith}
use Rattle.std.proofs.lemmas.Bool.{and_parts, false≢true, lt-ltb, cases_order}
use Rattle.std.proofs.lemmas.Bool.Decides.{not_from_Decides, nat_tests}
use Rattle.ids.specs.Sets.{has}
use Rattle.model.specs.declared.Entry.{Entry}
use Rattle.model.specs.declared.Fact.{Fact}
use Rattle.model.specs.declared.Signal.{Signal}
use Rattle.model.specs.declared.Signal.TheVariants as signal
use Rattle.model.specs.Signals.{fact_of, is_false}
use Rattle.model.specs.Trees.{Seq, flatten}
use Rattle.schema.specs.Checks.{SchemaParts, Admitted}
use Rattle.schema.proofs.Checked.{checked_fine}
use Rattle.marking.specs.Machine.{signals, start}
use Rattle.marking.specs.States.{with_signal, free_in, state_in}
use Rattle.marking.proofs.Owns.{own_none}
use Rattle.marking.proofs.TreeSignals.{on_tree}
use Rattle.followers.specs.Backwards.{followers}
use Rattle.followers.specs.Followers.{follower}
use Rattle.followers.proofs.TreeFollowers.{followers_at}
use Rattle.changes.specs.declared.Change.{Change}
use Rattle.changes.specs.declared.Change.TheVariants.{DropEdge, Delete, Insert, InsertBeside, AddEdge}
use Rattle.marking.specs.Nearby.{signal_in}
use Rattle.conditions.specs.Conditions.{is_busy, least, is_follower, busy_follower, hindered_at, in_order, hindrance}
use Rattle.conditions.specs.Meaning.{Busy, BusyFollower, FalseGap, FreeGap, HinderedBy, Judged, HindrancesAreTold}
use Rattle.conditions.proofs.LeastIds.{LeastOf, least_tells}
use Rattle.conditions.proofs.Orders.{decides_busy, decides_order}

is_false_tells : (g : Signal) → is_false g ≡ true → g ≡ signal.False
is_false_tells signal.True e = absurd cc
is_false_tells signal.False e = refl
is_false_tells signal.None e = absurd cc

at_most : (i k : ℕ) → (k < i → ⊥) → i ≤ k
at_most i k never = ⊎_elim (λ (e : i ≡ k). omega arith) (⊎_elim (λ (l : i < k). omega arith) (λ (l : k < i). absurd (never l))) (cases_order i k)

module _ (S : SchemaParts) (fs : List Fact) (ok : Admitted S) where
  -- What is Running or Completed is a node of the row, so its id is at most 63.
  busy_low : (u : ℕ) → Busy S fs u → u < 64
  busy_low u h = go (ltb u 64) refl
    where
      none : 64 ≤ u → state_in S.row S.edges fs u ≡ None
      none past =
          ap (λ g. with_signal g (fact_of fs u) (free_in S.row S.edges fs u))
          (own_none (signals fs start S.row) u S.row (checked_fine S.row S.edges ok.passed).1 (λ l. absurd (omega arith)))

      go : (b : Bool) → ltb u 64 ≡ b → u < 64
      go true e = grind (arith, nat_tests)
      go false e = let past : 64 ≤ u = grind (arith, nat_tests) in let no = none past in absurd (false≢true (ap is_busy (sym no) ∙ (decides_busy (state_in S.row S.edges fs u)).1 h))

  module _ (t : Seq) (is : S.row ≡ flatten t) (g : ℕ) where
    decides_follower : (u : ℕ) → Decides (busy_follower S fs g u) (BusyFollower S fs t g u)
    decides_follower u = (there, back)
      where
        told : has (followers (drop g S.row)) u ≡ (ltb u 64 && follower t g u)
        told = followers_at S.row g (followers (drop g S.row)) refl t ok.few is u

        there : busy_follower S fs g u ≡ true → BusyFollower S fs t g u
        there e = let h = and_parts (is_follower S.row g u) (is_busy (state_in S.row S.edges fs u)) e in ((and_parts (ltb u 64) (follower t g u) (sym told ∙ h.0)).1, (decides_busy (state_in S.row S.edges fs u)).0 h.1)

        back : BusyFollower S fs t g u → busy_follower S fs g u ≡ true
        back h =
            ap₂ (λ a b. a && b) (told ∙ ap₂ (λ a b. a && b) (lt-ltb u 64 (busy_low u h.1)) h.0) ((decides_busy (state_in S.row S.edges fs u)).1 h.1)

    decides_false : Decides (is_false (signal_in S.row fs g)) (FalseGap fs t g)
    decides_false =
        let same = ap (λ gs. get_or gs g signal.None) (on_tree fs S.row (signals fs start S.row) refl t is) in
        (λ e. sym same ∙ is_false_tells (signal_in S.row fs g) e, λ h. ap is_false (same ∙ h))

    -- What a gap answers.
    abbrev GapTold : Option ℕ → Type 0
    GapTold None = FreeGap S fs t g
    GapTold (Some id) = HinderedBy S fs t g id

    by_least : (FalseGap fs t g → ⊥) → (o : Option ℕ) → LeastOf (busy_follower S fs g) 0 64 o → GapTold o
    by_least alive None h =
        inr (λ u b. false≢true (sym (h u (omega arith) (busy_low u b.1)) ∙ (decides_follower u).1 b))
    by_least alive (Some id) h = record {
      alive = alive;
      busy = (decides_follower id).0 h.0;
      least = λ u b. at_most id u (λ l. false≢true (sym (h.1 u (omega arith) l) ∙ (decides_follower u).1 b));
    }

    gap_told : GapTold (hindered_at S fs g)
    gap_told = go (is_false (signal_in S.row fs g)) refl
      where
        go : (b : Bool) → is_false (signal_in S.row fs g) ≡ b → GapTold (cond b None (least (busy_follower S fs g)))
        go true e = inl (decides_false.0 e)
        go false e = by_least (not_from_Decides _ decides_false e) (least (busy_follower S fs g)) (least_tells (busy_follower S fs g))

    gap_once : (r s : Option ℕ) → GapTold r → GapTold s → r ≡ s
    gap_once None None a b = refl
    gap_once None (Some j) (inl dead) b = absurd (b.alive dead)
    gap_once None (Some j) (inr free) b = absurd (free j b.busy)
    gap_once (Some i) None a (inl dead) = absurd (a.alive dead)
    gap_once (Some i) None a (inr free) = absurd (free i a.busy)
    gap_once (Some i) (Some j) a b = ap Some (let l = a.least j b.busy in let m = b.least i a.busy in omega arith)

  module _ (es : List Entry) (t : Seq) (is : S.row ≡ flatten t) where
    rightly : (c : Change) → Judged S fs es t c (hindrance S fs es c)
    rightly (DropEdge e) = tt
    rightly (Delete a) = go (is_busy (state_in S.row S.edges fs a)) refl
      where
        go : (b : Bool) → is_busy (state_in S.row S.edges fs a) ≡ b → Judged S fs es t (Delete a) (cond b (Some a) None)
        go true e = ((decides_busy _).0 e, refl)
        go false e = not_from_Decides _ (decides_busy (state_in S.row S.edges fs a)) e
    rightly (Insert a g) = by_gap a g (hindered_at S fs g) (gap_told t is g)
      where
        by_gap : (a g : ℕ) (o : Option ℕ) → GapTold t is g o → Judged S fs es t (Insert a g) o
        by_gap a g None h = h
        by_gap a g (Some id) h = h
    rightly (InsertBeside a b c) = by_gap (hindered_at S fs c) (gap_told t is c)
      where
        by_gap : (o : Option ℕ) → GapTold t is c o → Judged S fs es t (InsertBeside a b c) o
        by_gap None h = h
        by_gap (Some id) h = h
    rightly (AddEdge e) = go (in_order S fs es e) refl
      where
        go : (b : Bool) → in_order S fs es e ≡ b → Judged S fs es t (AddEdge e) (cond b None (Some e.target))
        go true h = (decides_order S fs es e).0 h
        go false h = (not_from_Decides _ (decides_order S fs es e) h, refl)

    once : (c : Change) (r s : Option ℕ) → Judged S fs es t c r → Judged S fs es t c s → r ≡ s
    once (DropEdge e) None None a b = refl
    once (DropEdge e) None (Some j) a b = absurd b
    once (DropEdge e) (Some i) s a b = absurd a
    once (Delete i) None None a b = refl
    once (Delete i) None (Some j) a b = absurd (a b.0)
    once (Delete i) (Some j) None a b = absurd (b a.0)
    once (Delete i) (Some j) (Some k) a b = ap Some (a.1 ∙ sym b.1)
    once (Insert i g) None None a b = refl
    once (Insert i g) None (Some j) a b = gap_once t is g None (Some j) a b
    once (Insert i g) (Some j) None a b = gap_once t is g (Some j) None a b
    once (Insert i g) (Some j) (Some k) a b = gap_once t is g (Some j) (Some k) a b
    once (InsertBeside i b c) None None h k = refl
    once (InsertBeside i b c) None (Some n) h k = gap_once t is c None (Some n) h k
    once (InsertBeside i b c) (Some m) None h k = gap_once t is c (Some m) None h k
    once (InsertBeside i b c) (Some m) (Some n) h k = gap_once t is c (Some m) (Some n) h k
    once (AddEdge e) None None a b = refl
    once (AddEdge e) None (Some j) a b = absurd (b.0 a)
    once (AddEdge e) (Some j) None a b = absurd (a.0 b)
    once (AddEdge e) (Some j) (Some k) a b = ap Some (a.1 ∙ sym b.1)

pub told : HindrancesAreTold
told S fs es t c ok is r =
    (λ e. subst (Judged S fs es t c) (sym e) (rightly S fs ok es t is c), λ h. once S fs ok es t is c r (hindrance S fs es c) h (rightly S fs ok es t is c))
