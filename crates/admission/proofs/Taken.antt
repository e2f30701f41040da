-- A draft takes a list of changes from some bytes exactly if the rules admit the list. Assumes nothing.
use Rattle.std.proofs.Common.{◌≡◌, true, List, [], ◌∷◌, ◌++◌, length, map, Some, None, Ok, Err, Result, refl, sym, ap, ◌∙◌, subst}
use Rattle.std.proofs.lemmas.List.{append_assoc, append-nil}
use Rattle.schema.specs.Checks.{SchemaParts}
use Rattle.plan_record.specs.declared.RawChange.{RawChange}
use Rattle.changes.specs.declared.Change.{Change}
use Rattle.changes.specs.declared.Change.TheVariants.{DropEdge, Delete, Insert, InsertBeside, AddEdge}
use Rattle.changes.specs.Spellings.{bytes_of, bytes_read}
use Rattle.draft_rules.specs.declared.ChangeRefusal.{ChangeRefusal}
use Rattle.draft_rules.specs.Stages.{changed_all}
use Rattle.draft_rules.specs.Rules.{refusal, by_refusal, by_bytes, all_admitted}
use Rattle.draft_rules.specs.Plans.{PlanParts, plan_of}
use Rattle.draft_rules.proofs.ListsPassAgain.{first_admitted}
use Rattle.drafts.specs.Plans.{begun, judged_for, told, lengthened, by_answer, all_added}
use Rattle.drafts.proofs.Judged.{admitted_unrefused, admitted_and_one}
use Rattle.drafts.proofs.StagesTold.{all_and_one}
use Rattle.admission.specs.Laws.{DraftsTakeWhatIsAdmitted}

-- The rules admit the changes of this plan.
abbrev PlanAdmitted : PlanParts → Type 0
PlanAdmitted p = all_admitted p.base.row [] p.base p.changes ≡ true

-- what is added to an admitted plan leaves an admitted one
added_admitted : (raws : List RawChange) (p q : PlanParts) → PlanAdmitted p → all_added p raws ≡ Ok q → PlanAdmitted q
added_admitted [] p q a e = let same : p ≡ q = cc in subst PlanAdmitted same a
added_admitted (raw ∷ raws) p q a e = go (judged_for p raw) refl (λ r. added_admitted raws r q) e
  where
    go : (v : Result Change ChangeRefusal) → judged_for p raw ≡ v → ((r : PlanParts) → PlanAdmitted r → all_added r raws ≡ Ok q → PlanAdmitted q)
        → by_answer (told (length p.changes) raw.a v) (all_added (lengthened p v) raws) ≡ Ok q → PlanAdmitted q
    go (Ok c) is more h = more (lengthened p (Ok c))
        (admitted_and_one p.base.row [] p.base p.changes c a (admitted_unrefused p.base.row p.changes (changed_all p.changes p.base) raw c is)) h
    go (Err r) is more h = absurd cc

-- the bytes of a change spell it
read_back : (c : Change) → bytes_read (bytes_of c).kind (bytes_of c).a (bytes_of c).b (bytes_of c).c ≡ Some c
read_back (DropEdge e) = refl
read_back (Delete a) = refl
read_back (Insert a g) = refl
read_back (InsertBeside a b c) = refl
read_back (AddEdge e) = refl

-- a change that is not refused is taken from its bytes
taken_from_bytes : (S : SchemaParts) (done : List Change) (c : Change) → refusal S.row done (changed_all done S) c ≡ None
    → judged_for (plan_of S done) (bytes_of c) ≡ Ok c
taken_from_bytes S done c e = ap (by_bytes S.row done (changed_all done S)) (read_back c) ∙ ap (by_refusal c) e

-- behind changes that a plan has, the bytes of all that the rules admit are taken
bytes_taken : (S : SchemaParts) (cs done : List Change) → all_admitted S.row done (changed_all done S) cs ≡ true
    → all_added (plan_of S done) (map bytes_of cs) ≡ Ok (plan_of S (done ++ cs))
bytes_taken S [] done a = ap (λ (ds : List Change). Ok (plan_of S ds)) (sym (append-nil done))
bytes_taken S (c ∷ cs) done a =
    let k = first_admitted S.row done (changed_all done S) c cs a in
    let rest = subst (λ (T : SchemaParts). all_admitted S.row (done ++ c ∷ []) T cs ≡ true) (sym (all_and_one done c S)) k.1 in
    ap
    (λ (v : Result Change ChangeRefusal). by_answer (told (length done) (bytes_of c).a v)
    (all_added (lengthened (plan_of S done) v) (map bytes_of cs)))
    (taken_from_bytes S done c k.0)
    ∙ (bytes_taken S cs (done ++ c ∷ []) rest ∙ ap (λ (ds : List Change). Ok (plan_of S ds)) (append_assoc done (c ∷ []) cs))

pub takes_what_is_admitted : DraftsTakeWhatIsAdmitted
takes_what_is_admitted S cs =
    (λ taken. added_admitted taken.0 (begun S) (plan_of S cs) refl taken.1, λ a. (map bytes_of cs, bytes_taken S cs [] a))
