-- Where an activity of a checked schema stands, and which entries it has. Assumes nothing.
use Rattle.std.proofs.Common.{◌≡◌, ℕ, ◌<◌, true, ◌⊎◌, List, [], ◌∷◌, ◌++◌, length, get_or, Some, sym, refl, ap, ◌∙◌, subst, inl, inr}
use Rattle.std.proofs.lemmas.Bool.{false≢true}
use Rattle.model.specs.declared.Element.{Element}
use Rattle.model.specs.declared.Element.TheVariants.{Activity}
use Rattle.model.specs.declared.Entry.{Entry}
use Rattle.model.specs.declared.Entry.TheVariants.{Start, End, Choose, Leave}
use Rattle.model.specs.declared.Fact.{Fact}
use Rattle.model.specs.declared.Signal.TheVariants.{None}
use Rattle.model.specs.Entries.{entry_id}
use Rattle.layout.specs.Nodes.{Finds}
use Rattle.layout.proofs.Finds.{places_find}
use Rattle.layout.proofs.Items.{spelt}
use Rattle.model.specs.Trees.{activity}
use Rattle.schema.specs.Checks.{SchemaParts, Admitted}
use Rattle.schema.specs.Tables.{place_in}
use Rattle.schema.proofs.Checked.{checked_fine, checked_nested}
use Rattle.marking.specs.Machine.{signals, start}
use Rattle.marking.specs.States.{own_in}
use Rattle.marking.proofs.Owns.{own_at}
use Rattle.runs.specs.Steps.{fits_element, fits_at, fits_in}
use Rattle.runs.proofs.NodesFit.{at_place, in_row, placed}
use Rattle.changes.specs.Effects.{has_activity}
use Rattle.changes.proofs.Activities.{told}

pub record Standing (S : SchemaParts) (a : ℕ) : Type 0 where
  pub place : ℕ
  pub found : place_in S.row a ≡ Some place
  pub less : place < length S.row
  pub here : (d : Element) → get_or S.row place d ≡ Activity a
  pub own : (fs : List Fact) → own_in S.row fs a ≡ Some (get_or (signals fs start S.row) place None)

pub stands : (S : SchemaParts) (a : ℕ) → Admitted S → has_activity S.row a ≡ true → Standing S a
stands S a c h =
    let n = checked_nested S.row S.edges c.passed in
    let fine = checked_fine S.row S.edges c.passed in
    let s = spelt n.0 (activity a) [] ((told n.0 a).0 (ap (λ xs. has_activity xs a) (sym n.2) ∙ h)) in
    let parted : S.row ≡ s.before ++ (Activity a ∷ s.after) = n.2 ∙ s.parted in
    let found = placed S.row c.few fine.0 fine.1 n.0 n.2 s.before (Activity a) s.after a parted refl in
    record {
      place = length s.before;
      found = found;
      less = in_row S.row c.few fine.0 fine.1 n.0 n.2 s.before (Activity a) s.after parted;
      here = λ d. at_place S.row c.few fine.0 fine.1 n.0 n.2 s.before (Activity a) s.after d parted;
      own = λ fs. own_at (signals fs start S.row) a S.row (length s.before) fine.0 (subst (Finds S.row a) found (places_find S.row a));
    }

-- Its entries are its start and its finish.
pub entries_of : (S : SchemaParts) (a : ℕ) (x : Entry) → Standing S a → fits_in S.row x ≡ true → entry_id x ≡ a → (x ≡ Start a) ⊎ (x ≡ End a)
entries_of S a x s fits is = go x is (sym (ap (fits_at S.row x) (ap (place_in S.row) is ∙ s.found) ∙ ap (λ y. fits_element S.row s.place y x) (s.here (Activity 0))) ∙ fits)
  where
    go : (x : Entry) → entry_id x ≡ a → fits_element S.row s.place (Activity a) x ≡ true → (x ≡ Start a) ⊎ (x ≡ End a)
    go (Start i) e h = inl (ap Start e)
    go (End i) e h = inr (ap End e)
    go (Choose i b) e h = absurd (false≢true h)
    go (Leave i) e h = absurd (false≢true h)
