-- The facts at a node's start, and which entries stand before it. Assumes nothing.
use Rattle.std.proofs.Common.{◌≡◌, ℕ, suc, ◌<◌, ◌≤◌, Bool, true, false, cond, ◌&&◌, ◌||◌, eqb, ltb, List, [], ◌∷◌, length, set, Some, None, Option, sym, refl, ap, ◌∙◌, subst, ap₂, inl, inr, ⊎_elim, arith, length-set, lt-ltb, le-ltb, eq-eqb, ne_eqb, eqb-true}
use Rattle.std.proofs.Math.Bool.{and-true, or-false, or_assoc}
use Rattle.std.proofs.lemmas.List.{get_or-set_same, get_or-set_other}
use Rattle.std.proofs.lemmas.Bool.{cases_eq, cases_lt, and_parts, and_right, false≢true}
use Rattle.model.specs.declared.Entry.{Entry}
use Rattle.model.specs.declared.Entry.TheVariants as entry
use Rattle.model.specs.declared.Fact.{Fact}
use Rattle.model.specs.declared.Fact.TheVariants.{Nothing, Begun, Ended, Decided, Left}
use Rattle.model.specs.Entries.{entry_id, entry_kind, fact_set}
use Rattle.model.specs.Signals.{fact_of}
use Rattle.schema.specs.Checks.{SchemaParts}
use Rattle.runs.specs.Steps.{Allowed, Runs, ends, steps}
use Rattle.agreement.specs.Laws.{Checked, Occurs, EachOnce}
use Rattle.agreement.specs.Growth.{has_fact}
use Rattle.agreement.proofs.Progress.{rank, rank_needed, step_of}
use Rattle.history.specs.declared.EntryKind.{EntryKind}
use Rattle.history.specs.declared.EntryKind.TheVariants.{Start}
use Rattle.history.specs.Entries.{kind_byte, is_of, place_from, last_place, before}

-- the facts after one entry more
abbrev pub with_entry : List Fact → Entry → List Fact
with_entry fs x = set fs (entry_id x) (fact_set x)

-- the facts where node b is started, if it is
abbrev pub at_start : ℕ → List Fact → List Entry → Option (List Fact)
at_start b fs [] = None
at_start b fs (x ∷ xs) = cond (is_of Start b x) (Some fs) (at_start b (with_entry fs x) xs)

-- such an entry is that start
pub is_start : (b : ℕ) (x : Entry) → is_of Start b x ≡ true → x ≡ entry.Start b
is_start b (entry.Start i) h = ap entry.Start (eqb-true i b h)
is_start b (entry.End i) h = absurd (false≢true h)
is_start b (entry.Choose i n) h = absurd (false≢true h)
is_start b (entry.Leave i) h = absurd (false≢true h)

sets_fact : (x : Entry) → has_fact (fact_set x) ≡ true
sets_fact (entry.Start i) = refl
sets_fact (entry.End i) = refl
sets_fact (entry.Choose i b) = refl
sets_fact (entry.Leave i) = refl

-- the kind byte of the entry that set a fact
abbrev set_by : Fact → ℕ
set_by Nothing = 0
set_by Begun = 1
set_by Ended = 2
set_by (Decided b) = 3
set_by Left = 4

set_by_own : (x : Entry) → set_by (fact_set x) ≡ entry_kind x
set_by_own (entry.Start i) = refl
set_by_own (entry.End i) = refl
set_by_own (entry.Choose i b) = refl
set_by_own (entry.Leave i) = refl

-- the last entry of the node was of this kind
abbrev pub shows : EntryKind → Fact → Bool
shows k f = eqb (set_by f) (kind_byte k)

-- a step finds no more than a begun node
needed_low : (x : Entry) → rank_needed x ≤ 1
needed_low (entry.Start i) = omega arith
needed_low (entry.End i) = omega arith
needed_low (entry.Choose i b) = omega arith
needed_low (entry.Leave i) = omega arith

set_early : (f : Fact) → rank f ≤ 1 → set_by f ≤ 1
set_early Nothing h = omega arith
set_early Begun h = omega arith
set_early Ended h = absurd (omega arith)
set_early (Decided n) h = absurd (omega arith)
set_early Left h = absurd (omega arith)

-- what does not occur has no place
absent : (k : EntryKind) (i : ℕ) (x : Entry) (xs : List Entry) → is_of k i x ≡ true → (Occurs x xs → ⊥) → last_place k i xs ≡ None
absent k i x [] h none = refl
absent k i x (y ∷ ys) h none = go (is_of k i y) refl (absent k i x ys h (λ o. none (inr o)))
  where
    go : (b : Bool) → is_of k i y ≡ b → last_place k i ys ≡ None → last_place k i (y ∷ ys) ≡ None
    go true e rec =
        let p = and_parts _ _ h in
        let q = and_parts _ _ e in
        absurd (none (inl (eqb-true _ _ p.0 ∙ sym (eqb-true _ _ q.0), eqb-true _ _ p.1 ∙ sym (eqb-true _ _ q.1))))
    go false e rec = ap₂ place_from e rec

-- nothing stands before the first place
none_before : (o : Option ℕ) → before o (Some 0) ≡ false
none_before None = refl
none_before (Some p) = le-ltb p 0 (omega arith)

lt_suc : (m n : ℕ) → ltb (suc m) (suc n) ≡ ltb m n
lt_suc m n = ⊎_elim (λ h. lt-ltb (suc m) (suc n) (omega arith) ∙ sym (lt-ltb m n h)) (λ h. le-ltb (suc m) (suc n) (omega arith) ∙ sym (le-ltb m n h)) (cases_lt m n)

-- with an entry more in front, which has its kind and node for itself
one_on : (d : Bool) (o : Option ℕ) (n : ℕ) → (d ≡ true → o ≡ None) → before (place_from d o) (Some (suc n)) ≡ (d || before o (Some n))
one_on true None n h = lt-ltb 0 (suc n) (omega arith)
one_on true (Some m) n h = absurd (let e = h refl in cc)
one_on false None n h = refl
one_on false (Some m) n h = lt_suc m n

module _ (S : SchemaParts) (c : Checked S) where
  -- the fact that a step sets
  pub now : (fs : List Fact) (x : Entry) → length fs ≡ 64 → Allowed S fs x → fact_of (with_entry fs x) (entry_id x) ≡ fact_set x
  now fs x long a = get_or-set_same fs (entry_id x) (fact_set x) Nothing (subst (λ k. entry_id x < k) (sym long) (step_of S c fs x a).low)

  pub fact_now : (fs : List Fact) (x : Entry) (b : ℕ) → length fs ≡ 64 → Allowed S fs x → entry_id x ≡ b
      → has_fact (fact_of (with_entry fs x) b) ≡ true
  fact_now fs x b long a is = ap (λ j. has_fact (fact_of (with_entry fs x) j)) (sym is) ∙ ap has_fact (now fs x long a) ∙ sets_fact x

  -- a node that has a fact keeps one
  pub fact_kept : (fs : List Fact) (x : Entry) (b : ℕ) → length fs ≡ 64 → Allowed S fs x → has_fact (fact_of fs b) ≡ true
      → has_fact (fact_of (with_entry fs x) b) ≡ true
  fact_kept fs x b long a h =
      ⊎_elim (λ q. fact_now fs x b long a (sym q))
      (λ q. ap has_fact (get_or-set_other fs (entry_id x) b (fact_set x) Nothing q) ∙ h)
      (cases_eq b (entry_id x))

  pub fact_stays : (fs gs : List Fact) (es : List Entry) (b : ℕ) → length fs ≡ 64 → Runs S fs es gs → has_fact (fact_of fs b) ≡ true → has_fact (fact_of gs b) ≡ true
  fact_stays fs gs [] b long ends h = h
  fact_stays fs gs (x ∷ es) b long (steps a r) h =
      fact_stays _ gs es b (length-set fs (entry_id x) (fact_set x) ∙ long) r (fact_kept fs x b long a h)

  -- one step shows its kind at its node, and leaves the others
  step_shows : (k : EntryKind) (i : ℕ) (fs : List Fact) (x : Entry) → 2 ≤ kind_byte k → length fs ≡ 64 → Allowed S fs x
      → shows k (fact_of (with_entry fs x) i) ≡ (shows k (fact_of fs i) || is_of k i x)
  step_shows k i fs x late long a = ⊎_elim same other (cases_eq i (entry_id x))
    where
      same : i ≡ entry_id x → shows k (fact_of (with_entry fs x) i) ≡ (shows k (fact_of fs i) || is_of k i x)
      same q =
          let low = set_early (fact_of fs (entry_id x)) (subst (λ n. n ≤ 1) (sym (step_of S c fs x a).before) (needed_low x)) in
          let unshown : shows k (fact_of fs i) ≡ false = ap (λ j. shows k (fact_of fs j)) q ∙ ne_eqb (set_by (fact_of fs (entry_id x))) (kind_byte k) (λ e. omega arith) in
          let shown : shows k (fact_of (with_entry fs x) i) ≡ eqb (entry_kind x) (kind_byte k) =
          ap (λ j. shows k (fact_of (with_entry fs x) j)) q ∙ ap (shows k) (now fs x long a) ∙ ap (λ n. eqb n (kind_byte k)) (set_by_own x) in
          shown ∙ sym (ap (λ b. b || is_of k i x) unshown ∙ ap (λ b. eqb (entry_kind x) (kind_byte k) && b) (eq-eqb (entry_id x) i (sym q)) ∙ and-true (eqb (entry_kind x) (kind_byte k)))

      other : (i ≡ entry_id x → ⊥) → shows k (fact_of (with_entry fs x) i) ≡ (shows k (fact_of fs i) || is_of k i x)
      other q =
          ap (shows k) (get_or-set_other fs (entry_id x) i (fact_set x) Nothing q)
          ∙ sym (ap (λ b. shows k (fact_of fs i) || b) (and_right _ _ (ne_eqb (entry_id x) i (λ e. q (sym e)))) ∙ or-false (shows k (fact_of fs i)))

  -- at the start of b, node i shows a kind if it did at first, or if the last entry of this kind stands before the start
  module _ (k : EntryKind) (i b : ℕ) (late : 2 ≤ kind_byte k) where
    pub shows_at_start : (fs gs hs : List Fact) (es : List Entry) → length fs ≡ 64 → Runs S fs es gs → EachOnce es → at_start b fs es ≡ Some hs
        → (n : ℕ) × (last_place Start b es ≡ Some n) × (shows k (fact_of hs i) ≡ (shows k (fact_of fs i) || before (last_place k i es) (Some n)))
    shows_at_start fs gs hs [] long ends once at = absurd cc
    shows_at_start fs gs hs (x ∷ es) long (steps a r) once at =
        go (is_of Start b x) refl at (shows_at_start _ gs hs es (length-set fs (entry_id x) (fact_set x) ∙ long) r once.1) (step_shows k i fs x late long a)
      where
        first : ◌≡◌ {A = Option (List Fact)} (Some fs) (Some hs) → shows k (fact_of hs i) ≡ (shows k (fact_of fs i) || before (last_place k i (x ∷ es)) (Some 0))
        first at =
            let same : hs ≡ fs = cc in
            ap (λ ks. shows k (fact_of ks i)) same ∙ sym (or-false (shows k (fact_of fs i)))
            ∙ ap (λ v. shows k (fact_of fs i) || v) (sym (none_before (last_place k i (x ∷ es))))

        go : (v : Bool) → is_of Start b x ≡ v → cond v (Some fs) (at_start b (with_entry fs x) es) ≡ Some hs
            → (at_start b (with_entry fs x) es ≡ Some hs
            → (n : ℕ) × (last_place Start b es ≡ Some n) × (shows k (fact_of hs i) ≡ (shows k (fact_of (with_entry fs x) i) || before (last_place k i es) (Some n))))
            → shows k (fact_of (with_entry fs x) i) ≡ (shows k (fact_of fs i) || is_of k i x)
            → (n : ℕ) × (last_place Start b (x ∷ es) ≡ Some n) × (shows k (fact_of hs i) ≡ (shows k (fact_of fs i) || before (last_place k i (x ∷ es)) (Some n)))
        go true e at rec step = (0, ap₂ place_from e (absent Start b x es e once.0), first at)
        go false e at rec step =
            let m = rec at in (
              suc m.0,
              ap₂ place_from e m.1,
              m.2 ∙ ap (λ v. v || before (last_place k i es) (Some m.0)) step ∙ or_assoc (shows k (fact_of fs i)) (is_of k i x) _
                  ∙ ap (λ v. shows k (fact_of fs i) || v) (sym (one_on (is_of k i x) (last_place k i es) m.0 (λ d. absent k i x es d once.0))),
            )
