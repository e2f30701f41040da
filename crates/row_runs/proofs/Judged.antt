-- Looking is replaying, for each change that leaves the sync edges or takes some away. Assumes nothing.
use Rattle.std.proofs.Common.{◌≡◌, ℕ, ◌≤◌, Bool, true, false, cond, not, ◌&&◌, List, [], ◌∷◌, ◌++◌, length, insert, is_some, nat_lt, nat_le, Some, None, Option, sym, refl, ap, ap₂, ◌∙◌, subst, inl, inr, arith}
use Rattle.std.proofs.lemmas.List.{take_at, drop_at, length-append}
use Rattle.std.proofs.lemmas.Bool.{and_parts, not-true, ltb-true, leb-true, le-leb}
use Rattle.bounded.proofs.Answers.{none_there}
use Rattle.model.specs.declared.Element.{Element}
use Rattle.model.specs.declared.Element.TheVariants.{Activity}
use Rattle.model.specs.declared.Entry.{Entry}
use Rattle.model.specs.declared.Fact.{Fact}
use Rattle.model.specs.Rows.{Among, Unique}
use Rattle.model.specs.Trees.{activity, Nested}
use Rattle.blocks.specs.Blocks.{fault}
use Rattle.blocks.proofs.RowsOfTrees.{tells_ok}
use Rattle.edges.specs.Edges.{same}
use Rattle.layout.proofs.Items.{spelt}
use Rattle.schema.specs.Checks.{SchemaParts, Admitted}
use Rattle.schema.proofs.Checked.{checked_fine, checked_nested}
use Rattle.marking.specs.States.{state_in}
use Rattle.runs.specs.Steps.{Runs}
use Rattle.agreement.specs.Laws.{no_facts}
use Rattle.changes.specs.declared.Change.TheVariants.{Delete, Insert, InsertBeside}
use Rattle.changes.specs.Effects.{has_activity, touches, stretch, row_after}
use Rattle.changes.proofs.Activities.{told}
use Rattle.changes.proofs.Deletes.{left}
use Rattle.changes.proofs.Ids.{remain_or_new}
use Rattle.draft_rules.specs.Stages.{changed}
use Rattle.draft_rules.specs.Laws.{Admissible}
use Rattle.draft_rules.proofs.SchemasPassAgain.{pass_again}
use Rattle.halting.proofs.HaltedFollowers.{insert_halts, insert_beside_halts}
use Rattle.conditions.specs.Conditions.{is_busy, hindered_at}
use Rattle.conditions.specs.Kinds.{NoEntry}
use Rattle.row_runs.specs.Laws.{DroppingAnEdgeIsJudgedRightly, ADeleteIsJudgedRightly, AnInsertIsJudgedRightly, AnInsertBesideIsJudgedRightly}
use Rattle.row_runs.proofs.BusyNodes.{busy_fact, no_entry_of_idle, idle_without_entry}
use Rattle.row_runs.proofs.FewerEdges.{fewer_runs}
use Rattle.row_runs.proofs.HaltedRuns.{Halting, on_row, runs_on, runs_back, runs_not}
use Rattle.row_runs.proofs.Hindrances.{none_clear, clear_none}
use Rattle.row_runs.proofs.ChangedRows.{no_source, inserted_fits, wrapped_fits}

-- with fewer edges every run stays a run
pub dropped_rightly : DroppingAnEdgeIsJudgedRightly
dropped_rightly S e es c m = record {
  on = λ fs r h. fewer_runs S (λ f. not (same f e)) no_facts fs es r;
  only = λ fs r n. refl;
}

-- where a new activity halts a gap's followers, a hindrance is what it says
module _ (S : SchemaParts) (ys : List Element) (a g : ℕ) (H : Halting S ys a g) (es : List Entry) (other : NoEntry a es) where
  accepted : (fs : List Fact) → Runs S no_facts es fs → hindered_at S fs g ≡ None → Runs (on_row S ys) no_facts es fs
  accepted fs r h = runs_on S ys a g H es other fs r (none_clear S fs g h)

  unhindered : (fs gs : List Fact) → Runs S no_facts es fs → Runs (on_row S ys) no_facts es gs → hindered_at S fs g ≡ None
  unhindered fs gs r y = clear_none S fs g (λ live id fol busy. runs_not S ys a g H es other fs gs r y live id fol (busy_fact _ _ _ busy))

-- whole items
whole : (xs : List Element) → not (is_some (fault [] 0 xs)) ≡ true → Nested xs
whole xs h = tells_ok xs (none_there (fault [] 0 xs) (not-true _ h))

-- Activity a stood in the row xs at a gap of ys, and nothing else differs.
record Gone (a : ℕ) (xs ys : List Element) : Type 0 where
  before : List Element
  after : List Element
  was : xs ≡ before ++ Activity a ∷ after
  is : ys ≡ before ++ after

gone : (S : SchemaParts) (a : ℕ) → Admitted S → has_activity S.row a ≡ true → Gone a S.row (row_after (Delete a) S.row)
gone S a c h =
    let t = checked_nested S.row S.edges c.passed in
    let at = spelt t.0 (activity a) [] ((told t.0 a).0 (subst (λ xs. has_activity xs a ≡ true) t.2 h)) in
    let was : S.row ≡ at.before ++ Activity a ∷ at.after = t.2 ∙ at.parted in
    record {
      before = at.before;
      after = at.after;
      was = was;
      is = ap (row_after (Delete a)) was ∙ left a at.before at.after (subst Unique was (checked_fine S.row S.edges c.passed).0);
    }

module _ (a : ℕ) (xs ys : List Element) (d : Gone a xs ys) where
  put_back : row_after (Insert a (length d.before)) ys ≡ xs
  put_back =
      ap (λ l. insert l (length d.before) (Activity a)) d.is
      ∙ ap₂ (λ l m. l ++ Activity a ∷ m) (take_at d.before d.after (length d.before) refl) (drop_at d.before d.after (length d.before) refl)
      ∙ sym d.was

  within : length d.before ≤ length ys
  within = let l = ap length d.is ∙ length-append d.before d.after in omega (arith, l)

-- a deleted activity is gone
gone_from : (S : SchemaParts) (a : ℕ) → Admitted S → Admissible S (Delete a) → Among (row_after (Delete a) S.row) a → ⊥
gone_from S a c m h =
    elim ((remain_or_new (Delete a) S.row a ((checked_fine S.row S.edges c.passed).0, m.there)).0 h) [
      | inl k ↦ k.1 refl
      | inr k ↦ k
    ]

-- an insert halts followers, on a schema that passes the checks again
inserted_halting : (S : SchemaParts) (a g : ℕ) → Admitted S → Admissible S (Insert a g) → Halting S (row_after (Insert a g) S.row) a g
inserted_halting S a g c m = record {
  checked = c.passed;
  again = (pass_again S (Insert a g) c m).passed;
  halts = insert_halts S a g c m;
  apart = no_source S a c (m.unused a refl);
  fits = inserted_fits S a c g (pass_again S (Insert a g) c m) (leb-true g (length S.row) m.there);
}

pub inserted_rightly : AnInsertIsJudgedRightly
inserted_rightly S a g es c m other =
    let H = inserted_halting S a g c m in
    record {
      on = accepted S _ a g H es other;
      only = unhindered S _ a g H es other;
      back = runs_back S _ a g H es other;
    }

-- a delete is an insert read backwards
module _ (S : SchemaParts) (a : ℕ) (c : Admitted S) (m : Admissible S (Delete a)) where
  abbrev T : SchemaParts
  T = changed (Delete a) S

  taken_on : (es : List Entry) (fs : List Fact) → Runs S no_facts es fs → is_busy (state_in S.row S.edges fs a) ≡ false → Runs T no_facts es fs
  taken_on es fs r idle =
      let d = gone S a c m.there in
      let g = length d.before in
      let admitted : Admitted T = pass_again S (Delete a) c m in
      let back : row_after (Insert a g) T.row ≡ S.row = put_back a S.row T.row d in
      let fresh : Among T.row a → ⊥ = gone_from S a c m in
      let may : Admissible T (Insert a g) = record {
        low = m.low;
        there = le-leb g (length T.row) (within a S.row T.row d);
        unused = λ u h k. fresh (subst (Among T.row) h k);
        few = subst (λ xs. length xs ≤ 128) (sym back) c.few;
        few_edges = m.few_edges;
        kept = refl;
      } in
      let fewer : Runs (on_row T S.row) no_facts es fs = fewer_runs S (λ e. not (touches a e)) no_facts fs es r in
      runs_back T (row_after (Insert a g) T.row) a g (inserted_halting T a g admitted may) es (no_entry_of_idle S c.passed a fs es r idle) fs
      (subst (λ xs. Runs (on_row T xs) no_facts es fs) (sym back) fewer)

pub deleted_rightly : ADeleteIsJudgedRightly
deleted_rightly S a es c m = record {
  on = λ fs r h. taken_on S a c m es fs r (not_busy (is_busy (state_in S.row S.edges fs a)) h);
  only = λ fs r n. ap (λ b. cond b (Some a) None) (idle_without_entry S a fs es r (n a refl));
}
  where
    not_busy : (b : Bool) → cond b (Some a) None ≡ None → b ≡ false
    not_busy true h = absurd cc
    not_busy false h = refl

-- and so does an insert beside items
beside_halting : (S : SchemaParts) (a b p : ℕ) → Admitted S → Admissible S (InsertBeside a b p) → Halting S (row_after (InsertBeside a b p) S.row) a p
beside_halting S a b p c m =
    let t = and_parts (nat_lt b p && nat_le p (length S.row)) (not (is_some (fault [] 0 (stretch b p S.row)))) m.there in
    let o = and_parts (nat_lt b p) (nat_le p (length S.row)) t.0 in
    record {
      checked = c.passed;
      again = (pass_again S (InsertBeside a b p) c m).passed;
      halts = insert_beside_halts S a b p c m;
      apart = no_source S a c (m.unused a refl);
      fits = wrapped_fits S a c b p (pass_again S (InsertBeside a b p) c m) (ltb-true b p o.0) (leb-true p (length S.row) o.1) (whole _ t.1);
    }

pub beside_rightly : AnInsertBesideIsJudgedRightly
beside_rightly S a b p es c m other =
    let H = beside_halting S a b p c m in
    record {
      on = accepted S _ a p H es other;
      only = unhindered S _ a p H es other;
      back = runs_back S _ a p H es other;
    }
