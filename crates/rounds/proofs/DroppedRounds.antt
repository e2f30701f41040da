-- The entries of a loop's body can be dropped from a run that leaves its test undone. Assumes nothing.
use Rattle.std.proofs.Common.{◌≡◌, ℕ, ◌<◌, Bool, true, false, cond, not, ◌&&◌, ◌||◌, eqb, List, [], ◌∷◌, length, set, Decides, sym, refl, ap, ◌∙◌, subst, ap₂, inl, inr, ⊎_elim, arith, length-set}
use Rattle.std.proofs.lemmas.List.{get_or-set_same, length-replicate}
use Rattle.std.proofs.lemmas.Bool.{cond-false, eqb-true, true≢false}
use Rattle.model.specs.declared.Edge.{Edge}
use Rattle.model.specs.declared.Entry.{Entry}
use Rattle.model.specs.declared.Entry.TheVariants.{Start, End, Choose, Leave}
use Rattle.model.specs.declared.Fact.{Fact}
use Rattle.model.specs.declared.Fact.TheVariants.{Nothing, Begun, Ended, Decided, Left}
use Rattle.model.specs.Entries.{entry_id, fact_set}
use Rattle.model.specs.Rows.{Unique}
use Rattle.model.specs.Trees.{Seq, loop, flatten}
use Rattle.model.specs.Nodes.{Holds}
use Rattle.model.specs.Relations.{In}
use Rattle.model.specs.Signals.{fact_of, tree_signals}
use Rattle.facts.specs.Facts.{reset}
use Rattle.facts.proofs.Resets.{reset_of, reset_nothing, reset_set, set_reset}
use Rattle.edges.proofs.TreeOrder.{Once}
use Rattle.edges.proofs.RowIds as rows
use Rattle.schema.specs.Checks.{SchemaParts, Admitted}
use Rattle.schema.specs.Reading.{among}
use Rattle.schema.proofs.Checked.{checked_fine, checked_nested}
use Rattle.marking.specs.Machine.{signals, start}
use Rattle.marking.specs.States.{own, settled, free, with_signal, state_in}
use Rattle.marking.proofs.TreeSignals.{on_tree}
use Rattle.runs.specs.Steps.{Allowed, Runs, ends, steps}
use Rattle.runs.proofs.NodesFit.{fits_node}
use Rattle.agreement.specs.Laws.{no_facts}
use Rattle.agreement.specs.Growth.{Grown}
use Rattle.agreement.proofs.Progress.{rank, step_of}
use Rattle.agreement.proofs.GrowRuns.{Sound, no_facts_sound, step_sound, ran}
use Rattle.rounds.specs.Rounds.{in_round, outside}
use Rattle.rounds.proofs.HeldItems.{held_once}
use Rattle.rounds.proofs.SteadySignals.{Undone, Alike, own_alike, tree_alike}
use Rattle.rounds.proofs.LoopEdges.{from_outside, AllJoined, checked_joined}
use Rattle.rounds.proofs.RoundRows.{body_found}
use Rattle.schema.proofs.Wrongs.{decides_among}

-- nothing grows to nothing only
from_nothing : (f : Fact) → Grown f Nothing → f ≡ Nothing
from_nothing Nothing h = refl
from_nothing Begun (inl e) = absurd cc
from_nothing Begun (inr e) = absurd cc
from_nothing Ended h = absurd cc
from_nothing (Decided b) h = absurd cc
from_nothing Left h = absurd cc

sets_something : (e : Entry) → fact_set e ≡ Nothing → ⊥
sets_something (Start i) h = cc
sets_something (End i) h = cc
sets_something (Choose i b) h = cc
sets_something (Leave i) h = cc

unranked : (f : Fact) → rank f ≡ 0 → f ≡ Nothing
unranked Nothing h = refl
unranked Begun h = absurd (omega arith)
unranked Ended h = absurd (omega arith)
unranked (Decided b) h = absurd (omega arith)
unranked Left h = absurd (omega arith)

-- the body of a loop of the tree, decided by P
module _ (S : SchemaParts) (c : Admitted S) (t : Seq) (is : S.row ≡ flatten t) (u : Seq) (i : ℕ) (at : Holds t (loop u i)) (P : ℕ → Bool) (decides : (id : ℕ) → Decides (P id) (In u id)) where
  once : Once t
  once = rows.once_tree t (subst Unique is (checked_fine S.row S.edges c.passed).0)

  kept_out : (id : ℕ) → P id ≡ false → In u id → ⊥
  kept_out id e h = true≢false (sym ((decides id).1 h) ∙ e)

  not_in : (id : ℕ) → (In u id → ⊥) → P id ≡ false
  not_in id n = go (P id) refl
    where
      go : (b : Bool) → P id ≡ b → b ≡ false
      go true e = absurd (n ((decides id).0 e))
      go false e = refl

  module _ (fs : List Fact) (undone : fact_of fs i ≡ Nothing) where
    abbrev gs : List Fact
    gs = reset P fs

    same_fact : (id : ℕ) → (In u id → ⊥) → fact_of fs id ≡ fact_of gs id
    same_fact id n = sym (reset_of P fs id ∙ cond-false (P id) Nothing (fact_of fs id) (not_in id n))

    same_own : (id : ℕ) → (In u id → ⊥) → (id ≡ i → ⊥) → own S.row (signals fs start S.row) 0 id ≡ own S.row (signals gs start S.row) 0 id
    same_own id n m =
        let a : signals fs start S.row ≡ tree_signals fs t = on_tree fs S.row _ refl t is in
        let b : signals gs start S.row ≡ tree_signals gs t = on_tree gs S.row _ refl t is in
        let off : Undone fs gs id u i = record {
          body = n;
          test = m;
          first = undone;
          second = sym (same_fact i (held_once (loop u i) t once at).1) ∙ undone;
        } in
        ap (λ us. own S.row us 0 id) a
        ∙ own_alike fs gs id S.row (tree_signals fs t) (tree_signals gs t)
        (subst (λ xs. Alike fs gs id xs (tree_signals fs t) (tree_signals gs t)) (sym is) (tree_alike fs gs id u i same_fact off t once at))
        ∙ sym (ap (λ us. own S.row us 0 id) b)

    same_free : (es : List Edge) → AllJoined t es → (id : ℕ) → (In u id → ⊥)
        → free S.row (signals fs start S.row) fs es id ≡ free S.row (signals gs start S.row) gs es id
    same_free [] j id n = refl
    same_free (e ∷ es) j id n = ap₂ (λ x y. x && y) (go (eqb e.target id) refl) (same_free es j.1 id n)
      where
        go : (b : Bool) → eqb e.target id ≡ b
            → (not b || settled (own S.row (signals fs start S.row) 0 e.source) (fact_of fs e.source))
            ≡ (not b || settled (own S.row (signals gs start S.row) 0 e.source) (fact_of gs e.source))
        go true k =
            let r = from_outside e.source e.target u i t once at j.0 (subst (λ v. In u v → ⊥) (sym (eqb-true e.target id k)) n) in
            ap₂ settled (same_own e.source r.0 r.1) (same_fact e.source r.0)
        go false k = refl

    same_state : (id : ℕ) → (In u id → ⊥) → (id ≡ i → ⊥) → state_in S.row S.edges fs id ≡ state_in S.row S.edges gs id
    same_state id n m =
        ap (λ o. with_signal o (fact_of fs id) (free S.row (signals fs start S.row) fs S.edges id)) (same_own id n m)
        ∙ ap₂ (with_signal (own S.row (signals gs start S.row) 0 id)) (same_fact id n) (same_free S.edges (checked_joined S c t is) id n)

    still_allowed : (e : Entry) → (In u (entry_id e) → ⊥) → (entry_id e ≡ i → ⊥) → Allowed S fs e → Allowed S gs e
    still_allowed e n m a = record { fits = a.fits; state = sym (same_state (entry_id e) n m) ∙ a.state }

  -- entry by entry
  dropped : (fs gs : List Fact) (es : List Entry) → length fs ≡ 64 → Sound S.row fs → Runs S fs es gs → fact_of gs i ≡ Nothing → Runs S (reset P fs) (outside P es) (reset P gs)
  dropped fs _ [] n s ends q = ends
  dropped fs gs (e ∷ es) n s (steps a r) q =
      go (P (entry_id e)) refl (dropped (set fs (entry_id e) (fact_set e)) gs es (length-set fs (entry_id e) (fact_set e) ∙ n) (step_sound S c.passed fs e n s a) r q)
    where
      low : entry_id e < length fs
      low = subst (λ k. entry_id e < k) (sym n) (step_of S c.passed fs e a).low

      undone : fact_of fs i ≡ Nothing
      undone = from_nothing (fact_of fs i) (subst (Grown (fact_of fs i)) q ((ran S c.passed fs gs (e ∷ es) n s (steps a r)).grown i))

      still_undone : fact_of (set fs (entry_id e) (fact_set e)) i ≡ Nothing
      still_undone =
          from_nothing _ (subst (Grown (fact_of (set fs (entry_id e) (fact_set e)) i)) q
          ((ran S c.passed (set fs (entry_id e) (fact_set e)) gs es (length-set fs (entry_id e) (fact_set e) ∙ n) (step_sound S c.passed fs e n s a) r).grown i))

      other : entry_id e ≡ i → ⊥
      other h =
          sets_something e (sym (get_or-set_same fs (entry_id e) (fact_set e) Nothing low) ∙ ap (fact_of (set fs (entry_id e) (fact_set e))) h ∙ still_undone)

      go : (b : Bool) → P (entry_id e) ≡ b → Runs S (reset P (set fs (entry_id e) (fact_set e))) (outside P es) (reset P gs)
          → Runs S (reset P fs) (cond b (outside P es) (e ∷ outside P es)) (reset P gs)
      go true k rec = subst (λ hs. Runs S hs (outside P es) (reset P gs)) (reset_set P fs (entry_id e) (fact_set e) k) rec
      go false k rec =
          steps (still_allowed fs undone e (kept_out (entry_id e) k) other a)
          (subst (λ hs. Runs S hs (outside P es) (reset P gs)) (set_reset P fs (entry_id e) (fact_set e) low k) rec)

  pub dropped_first : (gs : List Fact) (es : List Entry) → Runs S no_facts es gs → fact_of gs i ≡ Nothing → Runs S no_facts (outside P es) (reset P gs)
  dropped_first gs es r q =
      subst (λ hs. Runs S hs (outside P es) (reset P gs)) (reset_nothing P 64)
      (dropped no_facts gs es (length-replicate {A = Fact} 64 Nothing) (no_facts_sound S.row) r q)

decides_in : (u : Seq) (id : ℕ) → Decides (among (flatten u) id) (In u id)
decides_in u id =
    let d = decides_among (flatten u) id in
    (λ e. ⊎_elim (λ h. h) (λ z. absurd z) (rows.found id u [] (d.0 e)), λ h. d.1 (rows.among id u [] (inl h)))

pub finished_dropped : (S : SchemaParts) (gs : List Fact) (es : List Entry) (i : ℕ) → Admitted S → Runs S no_facts es gs → Allowed S gs (Leave i)
    → Runs S no_facts (outside (in_round S.row i) es) (reset (in_round S.row i) gs)
finished_dropped S gs es i c r a =
    let n = checked_nested S.row S.edges c.passed in
    let fine = checked_fine S.row S.edges c.passed in
    let l = (fits_node S.row c.few fine.0 fine.1 n.0 n.2 (Leave i)).0 a.fits in
    let is = body_found S n.0 l.0 i c n.2 l.1 in
    dropped_first S c n.0 n.2 l.0 i l.1 (in_round S.row i)
    (λ id. subst (λ xs. Decides (among xs id) (In l.0 id)) (sym is) (decides_in l.0 id))
    gs es r (unranked (fact_of gs i) (step_of S c.passed gs (Leave i) a).before)
