-- An insert halts its gap's followers, and one beside items those behind them. Assumes nothing.
use Rattle.std.proofs.Common.{◌≡◌, ℕ, ◌+◌, ◌-◌, ◌<◌, ◌≤◌, true, not, ◌&&◌, ltb, leb, List, [], length, is_some, Option, Some, None, refl, ap, ◌∙◌, subst, arith}
use Rattle.std.proofs.lemmas.Bool.{and_parts, ltb-true, leb-true, not-true}
use Rattle.bounded.proofs.Answers.{none_there}
use Rattle.blocks.specs.Blocks.{fault}
use Rattle.blocks.proofs.RowsOfTrees.{tells_ok}
use Rattle.model.specs.declared.Element.{Element}
use Rattle.model.specs.declared.Fact.{Fact}
use Rattle.model.specs.declared.Fact.TheVariants.{Nothing}
use Rattle.model.specs.Signals.{fact_of, ends}
use Rattle.model.specs.Rows.{Unique}
use Rattle.model.specs.Trees.{Seq, cons, activity, flatten, Nested}
use Rattle.schema.specs.Checks.{SchemaParts, Admitted}
use Rattle.schema.proofs.Checked.{checked_fine, checked_nested}
use Rattle.changes.specs.declared.Change.{Change}
use Rattle.changes.specs.declared.Change.TheVariants.{Insert, InsertBeside}
use Rattle.changes.specs.Effects.{stretch, row_after}
use Rattle.changes.specs.Changed.{InFront, followed_by, beside, Gathered}
use Rattle.changes.specs.Laws.{Suits}
use Rattle.changes.proofs.Inserts.{filled}
use Rattle.changes.proofs.Wraps.{wrapped_up}
use Rattle.changes.proofs.Ids.{unique_again}
use Rattle.draft_rules.specs.Laws.{Admissible}
use Rattle.halting.specs.Halts.{Halts, AnInsertHaltsFollowers, AnInsertBesideHaltsFollowers}
use Rattle.halting.proofs.Places.{filled_in, number, size, spell_long, Swapped, swapped}
use Rattle.halting.proofs.GapsOfPlaces.{first_signal, signal_between, first_followers, followers_between}
use Rattle.halting.proofs.HaltedRows.{row_halts}
use Rattle.halting.proofs.NewActivities.{in_front, beside_items}

module _ (S : SchemaParts) (ok : Admitted S) where
  still_unique : (c : Change) → Admissible S c → Suits c S.row → Unique (row_after c S.row)
  still_unique c may suits = unique_again c S.row suits may.unused (checked_fine S.row S.edges ok.passed).0

  module _ (t : Seq) (is : S.row ≡ flatten t) (a : ℕ) (fs : List Fact) (fresh : fact_of fs a ≡ Nothing) where
    -- the judged gap is that of the place
    at_gap : (g : ℕ) (u : Seq) (ys : List Element) → Swapped (InFront a) g t u → ys ≡ flatten u → Unique ys → Halts S.row ys a g fs
    at_gap g u ys s e q =
        let h =
        row_halts fs a s.old (cons (activity a) s.old) s.old (λ v. v) (in_front fs a fresh s.old) 0 (first_signal fs s.old) (first_followers s.old)
        s.place S.row ys (is ∙ ap flatten s.was) (e ∙ ap flatten (s.is ∙ ap (filled_in s.place) s.changed)) ok.few (checked_fine S.row S.edges ok.passed).1
        (checked_fine S.row S.edges ok.passed).0 q in
        let n = s.at_gap in
        let k : number s.place + 0 ≡ g = omega arith in
        subst (λ m. Halts S.row ys a m fs) k h

    -- the judged gap is behind the items
    behind_items : (b c : ℕ) → b ≤ c → (u : Seq) (ys : List Element) → Swapped (Gathered a (c - b)) b t u → ys ≡ flatten u → Unique ys → Halts S.row ys a c fs
    behind_items b c order u ys s e q =
        let m = s.changed.0 in
        let r = s.changed.1 in
        let long : length (flatten m) ≡ c - b = s.changed.2 in
        let h = row_halts fs a (followed_by m r) (cons (beside m a) r) r (ends fs m) (beside_items fs a fresh m r) (size m) (signal_between fs m r) (followers_between m r)
        s.place S.row ys (is ∙ ap flatten (s.was ∙ ap (filled_in s.place) s.changed.3)) (e ∙ ap flatten (s.is ∙ ap (filled_in s.place) s.changed.4)) ok.few
        (checked_fine S.row S.edges ok.passed).1 (checked_fine S.row S.edges ok.passed).0 q in
        let n = s.at_gap in
        let l = spell_long m [] in
        let k : number s.place + size m ≡ c = omega arith in
        subst (λ z. Halts S.row ys a z fs) k h

pub insert_halts : AnInsertHaltsFollowers
insert_halts S a g ok may fs fresh =
    let n = checked_nested S.row S.edges ok.passed in
    let low : g ≤ length S.row = leb-true g (length S.row) may.there in
    let w = filled n.0 a g (subst (λ xs. g ≤ length xs) n.2 low) in
    at_gap S ok n.0 n.2 a fs fresh g w.0 (row_after (Insert a g) S.row) (swapped (InFront a) g n.0 w.0 w.1) (ap (row_after (Insert a g)) n.2 ∙ w.2)
    (still_unique S ok (Insert a g) may low)

pub insert_beside_halts : AnInsertBesideHaltsFollowers
insert_beside_halts S a b c ok may fs fresh =
    let n = checked_nested S.row S.edges ok.passed in
    let p = and_parts (ltb b c && leb c (length S.row)) _ may.there in
    let o = and_parts (ltb b c) (leb c (length S.row)) p.0 in
    let order : b < c = ltb-true b c o.0 in
    let low : c ≤ length S.row = leb-true c (length S.row) o.1 in
    let whole : Nested (stretch b c S.row) = tells_ok (stretch b c S.row) (none_there (fault [] 0 (stretch b c S.row)) (not-true _ p.1)) in
    let w = wrapped_up n.0 a b c order (subst (λ xs. c ≤ length xs) n.2 low) (subst (λ xs. Nested (stretch b c xs)) n.2 whole) in
    behind_items S ok n.0 n.2 a fs fresh b c (omega arith) w.0 (row_after (InsertBeside a b c) S.row) (swapped (Gathered a (c - b)) b n.0 w.0 w.1)
    (ap (row_after (InsertBeside a b c)) n.2 ∙ w.2)
    (still_unique S ok (InsertBeside a b c) may (order, low, whole))
