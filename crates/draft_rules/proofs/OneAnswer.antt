-- Each answer to a change is given exactly if its cause holds and no earlier one does. Assumes nothing.
use Rattle.std.proofs.Common.{◌≡◌, ℕ, ◌↔◌, Bool, true, false, not, List, Some, None, Option, Ok, Err, Result, Decides, sym, refl, ap, ◌∙◌, subst, arith}
use Rattle.std.proofs.lemmas.Bool.{not-true}
use Rattle.std.proofs.lemmas.Bool.Decides.{not_from_Decides}
use Rattle.std.proofs.lemmas.Option.{none-some}
use Rattle.model.specs.declared.Element.{Element}
use Rattle.schema.specs.Checks.{SchemaParts, Admitted}
use Rattle.plan_record.specs.declared.RawChange.{RawChange}
use Rattle.plan_record.specs.Changes.{change_of}
use Rattle.changes.specs.declared.Change.{Change}
use Rattle.changes.specs.declared.Change.TheVariants.{DropEdge, Delete, Insert, InsertBeside, AddEdge}
use Rattle.changes.specs.Spellings.{bytes_of, bytes_read}
use Rattle.draft_rules.specs.declared.ChangeRefusal.{ChangeRefusal}
use Rattle.draft_rules.specs.declared.ChangeRefusal.TheVariants as refused
use Rattle.draft_rules.specs.Stages.{changed_all}
use Rattle.draft_rules.specs.Rules.{formed, there, new_id, unused, fits, edge_kept, unless, refusal, by_refusal, by_bytes, change_judged}
use Rattle.draft_rules.specs.Causes.{Misformed, Formed, Found, Fresh, Fitting, ChangeRightly}
use Rattle.draft_rules.specs.Laws.{AdmittedChangesPassAgain, ChangesAreJudgedRightly}
use Rattle.draft_rules.proofs.CausesTold.{misformed_told, there_told, taken_told, over_told, kept_told}

-- four bytes are taken as a change exactly if they are its bytes
spelled : (k a b c : ℕ) (x : Change) → bytes_read k a b c ≡ Some x → change_of k a b c ≡ bytes_of x
spelled k a b c x e = grind arith

read_back : (x : Change) → bytes_read (bytes_of x).kind (bytes_of x).a (bytes_of x).b (bytes_of x).c ≡ Some x
read_back (DropEdge e) = refl
read_back (Delete a) = refl
read_back (Insert a g) = refl
read_back (InsertBeside a b c) = refl
read_back (AddEdge e) = refl

read_bytes : (raw : RawChange) (x : Change) → raw ≡ bytes_of x → bytes_read raw.kind raw.a raw.b raw.c ≡ Some x
read_bytes raw x is = ap (λ (r : RawChange). bytes_read r.kind r.a r.b r.c) is ∙ read_back x

one_spelled : (x y : Change) → bytes_of x ≡ bytes_of y → x ≡ y
one_spelled x y e = let s : ◌≡◌ {A = Option Change} (Some x) (Some y) = sym (read_back x) ∙ read_bytes (bytes_of x) y e in cc

-- what a test leaves of a refusal
passed : (b : Bool) (r : ChangeRefusal) (more : Option ChangeRefusal) → b ≡ true → unless b r more ≡ more
passed b r more e = ap (λ v. unless v r more) e

stopped : (b : Bool) (r : ChangeRefusal) (more : Option ChangeRefusal) → b ≡ false → unless b r more ≡ Some r
stopped b r more e = ap (λ v. unless v r more) e

-- what a test tells of its cause, and the cause of its test
cause_of_false : {P : Type 0} (b : Bool) → Decides (not b) P → b ≡ false → P
cause_of_false b d e = d.0 (ap not e)

no_cause_of_true : {P : Type 0} (b : Bool) → Decides (not b) P → b ≡ true → P → ⊥
no_cause_of_true b d e = not_from_Decides (not b) d (ap not e)

true_with_no_cause : {P : Type 0} (b : Bool) → Decides (not b) P → (P → ⊥) → b ≡ true
true_with_no_cause true d n = refl
true_with_no_cause false d n = absurd (n (d.0 refl))

false_with_cause : {P : Type 0} (b : Bool) → Decides (not b) P → P → b ≡ false
false_with_cause b d p = not-true b (d.1 p)

false_if_not : {P : Type 0} (b : Bool) → Decides b P → (P → ⊥) → b ≡ false
false_if_not true d n = absurd (n (d.0 refl))
false_if_not false d n = refl

module _ (base : List Element) (done : List Change) (S : SchemaParts) (ok : Admitted S) (raw : RawChange) where
  -- what is left to test of a change, from the last cause on
  abbrev from_edge : Change → Option ChangeRefusal
  from_edge c = unless (edge_kept S c) refused.Edge None

  abbrev from_full : Change → Option ChangeRefusal
  from_full c = unless (fits done S c) refused.Full (from_edge c)

  abbrev from_used : Change → Option ChangeRefusal
  from_used c = unless (unused base done (new_id c)) refused.Used (from_full c)

  abbrev from_missing : Change → Option ChangeRefusal
  from_missing c = unless (there S c) refused.Missing (from_used c)

  abbrev Right : Result Change ChangeRefusal → Type 0
  Right r = ChangeRightly base done S raw r

  -- the answer that is given is right
  right_edge : (c : Change) → Fitting base done S raw c → (b : Bool) → edge_kept S c ≡ b → Right (by_refusal c (unless b refused.Edge None))
  right_edge c f true e = (f, (kept_told S ok c).0 e)
  right_edge c f false e = (c, f, not_from_Decides _ (kept_told S ok c) e)

  right_full : (c : Change) → Fresh base done S raw c → (b : Bool) → fits done S c ≡ b → Right (by_refusal c (unless b refused.Full (from_edge c)))
  right_full c f true e = right_edge c (record { fresh = f; fits = no_cause_of_true _ (over_told done S c) e }) (edge_kept S c) refl
  right_full c f false e = (c, f, cause_of_false _ (over_told done S c) e)

  right_used : (c : Change) → Found done S raw c → (b : Bool) → unused base done (new_id c) ≡ b → Right (by_refusal c (unless b refused.Used (from_full c)))
  right_used c f true e = right_full c (record { found = f; fresh = no_cause_of_true _ (taken_told base done c) e }) (fits done S c) refl
  right_used c f false e = (c, f, cause_of_false _ (taken_told base done c) e)

  right_missing : (c : Change) → Formed done raw c → (b : Bool) → there S c ≡ b → Right (by_refusal c (unless b refused.Missing (from_used c)))
  right_missing c f true e = right_used c (record { formed = f; there = (there_told S c).0 e }) (unused base done (new_id c)) refl
  right_missing c f false e = (c, f, not_from_Decides _ (there_told S c) e)

  right_form : (c : Change) → raw ≡ bytes_of c → (b : Bool) → formed done c ≡ b → Right (by_refusal c (unless b refused.Form (from_missing c)))
  right_form c s true e = right_missing c (record { spelled = s; formed = no_cause_of_true _ (misformed_told done c) e }) (there S c) refl
  right_form c s false e = λ d other. subst (Misformed done) (one_spelled c d (sym s ∙ other)) (cause_of_false _ (misformed_told done c) e)

  right_bytes : (o : Option Change) → bytes_read raw.kind raw.a raw.b raw.c ≡ o → Right (by_bytes base done S o)
  right_bytes None e = λ d is. absurd (none-some d (sym e ∙ read_bytes raw d is))
  right_bytes (Some c) e = right_form c (spelled raw.kind raw.a raw.b raw.c c e) (formed done c) refl

  right : Right (change_judged base done S raw)
  right = right_bytes (bytes_read raw.kind raw.a raw.b raw.c) refl

  -- no other answer is right
  given : (c : Change) → raw ≡ bytes_of c → change_judged base done S raw ≡ by_refusal c (refusal base done S c)
  given c s = ap (by_bytes base done S) (read_bytes raw c s)

  given_formed : (c : Change) → Formed done raw c → change_judged base done S raw ≡ by_refusal c (from_missing c)
  given_formed c f = given c f.spelled ∙ ap (by_refusal c) (passed _ _ _ (true_with_no_cause _ (misformed_told done c) f.formed))

  given_found : (c : Change) → Found done S raw c → change_judged base done S raw ≡ by_refusal c (from_used c)
  given_found c f = given_formed c f.formed ∙ ap (by_refusal c) (passed _ _ _ ((there_told S c).1 f.there))

  given_fresh : (c : Change) → Fresh base done S raw c → change_judged base done S raw ≡ by_refusal c (from_full c)
  given_fresh c f = given_found c f.found ∙ ap (by_refusal c) (passed _ _ _ (true_with_no_cause _ (taken_told base done c) f.fresh))

  given_fitting : (c : Change) → Fitting base done S raw c → change_judged base done S raw ≡ by_refusal c (from_edge c)
  given_fitting c f = given_fresh c f.fresh ∙ ap (by_refusal c) (passed _ _ _ (true_with_no_cause _ (over_told done S c) f.fits))

  only : (r : Result Change ChangeRefusal) → Right r → change_judged base done S raw ≡ r
  only (Ok c) h = given_fitting c h.0 ∙ ap (by_refusal c) (passed _ _ _ ((kept_told S ok c).1 h.1))
  only (Err refused.Form) h = go (bytes_read raw.kind raw.a raw.b raw.c) refl
    where
      go : (o : Option Change) → bytes_read raw.kind raw.a raw.b raw.c ≡ o → by_bytes base done S o ≡ Err refused.Form
      go None e = refl
      go (Some c) e =
          ap (by_refusal c) (stopped _ _ _ (false_with_cause _ (misformed_told done c) (h c (spelled raw.kind raw.a raw.b raw.c c e))))
  only (Err refused.Missing) h = given_formed h.0 h.1 ∙ ap (by_refusal h.0) (stopped _ _ _ (false_if_not _ (there_told S h.0) h.2))
  only (Err refused.Used) h = given_found h.0 h.1 ∙ ap (by_refusal h.0) (stopped _ _ _ (false_with_cause _ (taken_told base done h.0) h.2))
  only (Err refused.Full) h = given_fresh h.0 h.1 ∙ ap (by_refusal h.0) (stopped _ _ _ (false_with_cause _ (over_told done S h.0) h.2))
  only (Err refused.Edge) h = given_fitting h.0 h.1 ∙ ap (by_refusal h.0) (stopped _ _ _ (false_if_not _ (kept_told S ok h.0) h.2))

  pub judged : (r : Result Change ChangeRefusal) → (r ≡ change_judged base done S raw) ↔ Right r
  judged r = (λ e. subst Right (sym e) right, λ h. sym (only r h))

-- so it is of every stage, if what is admitted passes the checks again
pub judged_rightly : AdmittedChangesPassAgain → ChangesAreJudgedRightly
judged_rightly again base done raw ok all r = judged base.row done (changed_all done base) (again base done ok all) raw r
