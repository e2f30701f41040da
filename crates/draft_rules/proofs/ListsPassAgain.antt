-- A schema that passed the checks passes them again after every list of changes that a draft admits. Assumes nothing.
use Rattle.std.proofs.Common.{◌≡◌, ℕ, Bool, true, false, not, ◌||◌, ◌⊎◌, List, [], ◌∷◌, ◌++◌, is_some, Some, None, Option, sym, subst, inl, inr, refl}
use Rattle.std.proofs.lemmas.List.{append-nil, append_assoc}
use Rattle.std.proofs.lemmas.Bool.{and_parts, or_parts, or_left, or_right, or_cases, not-true, leb-true, eq-eqb, both_ways}
use Rattle.bounded.proofs.Answers.{none_there}
use Rattle.model.specs.declared.Element.{Element}
use Rattle.model.specs.Elements.{node_id}
use Rattle.model.specs.Rows.{Among, Unique}
use Rattle.ids.specs.Sets.{is_id}
use Rattle.schema.specs.Reading.{among}
use Rattle.schema.specs.Checks.{SchemaParts, Admitted}
use Rattle.schema.proofs.Wrongs.{decides_among}
use Rattle.schema.proofs.Checked.{checked_fine}
use Rattle.changes.specs.declared.Change.{Change}
use Rattle.changes.specs.declared.Change.TheVariants.{DropEdge, Delete, Insert, InsertBeside, AddEdge}
use Rattle.changes.specs.Effects.{row_after}
use Rattle.changes.specs.Kept.{Brings}
use Rattle.changes.proofs.Ids.{remain_or_new}
use Rattle.draft_rules.specs.declared.ChangeRefusal.{ChangeRefusal}
use Rattle.draft_rules.specs.declared.ChangeRefusal.TheVariants as refused
use Rattle.draft_rules.specs.Stages.{changed, changed_all}
use Rattle.draft_rules.specs.Rules.{there, formed, new_id, put_in, unused, fits, edge_kept, unless, refusal, all_admitted}
use Rattle.draft_rules.specs.Laws.{Admissible, AdmittedChangesPassAgain}
use Rattle.draft_rules.proofs.SchemasPassAgain.{suits, pass_again}

-- Each node of the row was in the base's row, or was put in since.
abbrev pub NodesFrom : List Element → List Change → List Element → Type 0
NodesFrom base done xs = (u : ℕ) → Among xs u → (among base u ≡ true) ⊎ (put_in done u ≡ true)

pub nodes_at_first : (base : List Element) → NodesFrom base [] base
nodes_at_first base u a = inl ((decides_among base u).1 a)

-- what was put in stays so
put_in_more : (done : List Change) (c : Change) (u : ℕ) → put_in done u ≡ true → put_in (done ++ c ∷ []) u ≡ true
put_in_more [] c u e = absurd cc
put_in_more (d ∷ done) c u e = elim (or_cases (is_id (new_id d) u) (put_in done u) e) [
  | inl h ↦ or_left (is_id (new_id d) u) (put_in (done ++ c ∷ []) u) h
  | inr h ↦ or_right (is_id (new_id d) u) (put_in (done ++ c ∷ []) u) (put_in_more done c u h)
]

put_in_last : (done : List Change) (c : Change) (u : ℕ) → is_id (new_id c) u ≡ true → put_in (done ++ c ∷ []) u ≡ true
put_in_last [] c u e = or_left (is_id (new_id c) u) false e
put_in_last (d ∷ done) c u e = or_right (is_id (new_id d) u) (put_in (done ++ c ∷ []) u) (put_in_last done c u e)

brings_new : (c : Change) (u : ℕ) → Brings c u → is_id (new_id c) u ≡ true
brings_new (DropEdge e) u b = elim b [ ]
brings_new (Delete a) u b = elim b [ ]
brings_new (Insert a g) u b = eq-eqb u a b
brings_new (InsertBeside a b c) u k = eq-eqb u a k
brings_new (AddEdge e) u b = elim b [ ]

-- and so it is after a change
pub nodes_after_change : (base : List Element) (done : List Change) (S : SchemaParts) (c : Change) → Unique S.row → there S c ≡ true
    → NodesFrom base done S.row → NodesFrom base (done ++ c ∷ []) (row_after c S.row)
nodes_after_change base done S c once is from u a = elim ((remain_or_new c S.row u (suits S c once is)).0 a) [
  | inl k ↦ elim (from u k.0) [
    | inl h ↦ inl h
    | inr h ↦ inr (put_in_more done c u h)
  ]
  | inr k ↦ inr (put_in_last done c u (brings_new c u k))
]

-- What is not refused passed every test.
passed_first : (b : Bool) (r : ChangeRefusal) (more : Option ChangeRefusal) → unless b r more ≡ None → (b ≡ true) × (more ≡ None)
passed_first true r more e = (refl, e)
passed_first false r more e = absurd cc

pub record NotRefused (base : List Element) (done : List Change) (S : SchemaParts) (c : Change) : Type 0 where
  pub formed : formed done c ≡ true
  pub there : there S c ≡ true
  pub unused : unused base done (new_id c) ≡ true
  pub fits : fits done S c ≡ true
  pub kept : edge_kept S c ≡ true

pub not_refused : (base : List Element) (done : List Change) (S : SchemaParts) (c : Change) → refusal base done S c ≡ None → NotRefused base done S c
not_refused base done S c e =
    let a = passed_first (formed done c) refused.Form _ e in
    let b = passed_first (there S c) refused.Missing _ a.1 in
    let d = passed_first (unused base done (new_id c)) refused.Used _ b.1 in
    let f = passed_first (fits done S c) refused.Full _ d.1 in
    let g = passed_first (edge_kept S c) refused.Edge _ f.1 in
    record { formed = a.0; there = b.0; unused = d.0; fits = f.0; kept = g.0 }

-- an unused id is not in the row
unused_new : (base : List Element) (done : List Change) (xs : List Element) (c : Change) → NodesFrom base done xs → unused base done (new_id c) ≡ true
    → (a : ℕ) → Brings c a → Among xs a → ⊥
unused_new base done xs c from e a b k = away c e b
  where
    neither : (i : ℕ) → a ≡ i → not (among base i || put_in done i) ≡ true → ⊥
    neither i q h =
        let r = or_parts (among base i) (put_in done i) (not-true _ h) in
        elim (from i (subst (Among xs) q k)) [
          | inl m ↦ both_ways (among base i) r.0 m
          | inr m ↦ both_ways (put_in done i) r.1 m
        ]

    away : (c : Change) → unused base done (new_id c) ≡ true → Brings c a → ⊥
    away (DropEdge e) h b = b
    away (Delete i) h b = b
    away (Insert i g) h b = neither i b h
    away (InsertBeside i g j) h b = neither i b h
    away (AddEdge e) h b = b

-- a change that is not refused is admissible
pub admissible : (base : List Element) (done : List Change) (S : SchemaParts) (c : Change) → NodesFrom base done S.row
    → refusal base done S c ≡ None → Admissible S c
admissible base done S c from e =
    let n = not_refused base done S c e in
    let f = and_parts _ _ (and_parts _ _ n.fits).1 in
    record {
      low = (and_parts _ _ n.formed).0;
      there = n.there;
      unused = unused_new base done S.row c from n.unused;
      few = leb-true _ _ f.0;
      few_edges = leb-true _ _ f.1;
      kept = n.kept;
    }

-- what the test of a list says of its first change and of the rest
pub first_admitted : (base : List Element) (done : List Change) (S : SchemaParts) (c : Change) (cs : List Change) → all_admitted base done S (c ∷ cs) ≡ true
    → (refusal base done S c ≡ None) × (all_admitted base (done ++ c ∷ []) (changed c S) cs ≡ true)
first_admitted base done S c cs e =
    let k = and_parts _ _ e in (none_there (refusal base done S c) (not-true _ k.0), k.1)

-- One admitted change more.
pub record Stage (base : List Element) (done : List Change) (S : SchemaParts) : Type 0 where
  pub passed : Admitted S
  pub nodes : NodesFrom base done S.row

pub next_stage : (base : List Element) (done : List Change) (S : SchemaParts) (c : Change) → refusal base done S c ≡ None
    → Stage base done S → Stage base (done ++ c ∷ []) (changed c S)
next_stage base done S c e s = record {
  passed = pass_again S c s.passed (admissible base done S c s.nodes e);
  nodes = nodes_after_change base done S c (checked_fine S.row S.edges s.passed.passed).0 (not_refused base done S c e).there s.nodes;
}

pub last_stage : (base : List Element) (cs done : List Change) (S : SchemaParts) → Stage base done S → all_admitted base done S cs ≡ true
    → Stage base (done ++ cs) (changed_all cs S)
last_stage base [] done S s e = subst (λ ds. Stage base ds S) (sym (append-nil done)) s
last_stage base (c ∷ cs) done S s e =
    let k = first_admitted base done S c cs e in
    subst (λ ds. Stage base ds (changed_all cs (changed c S))) (append_assoc done (c ∷ []) cs)
    (last_stage base cs (done ++ c ∷ []) (changed c S) (next_stage base done S c k.0 s) k.1)

-- after all the changes that a draft of S admits
pub stage_after : (S : SchemaParts) (cs : List Change) → Admitted S → all_admitted S.row [] S cs ≡ true → Stage S.row cs (changed_all cs S)
stage_after S cs passed e = last_stage S.row cs [] S (record { passed = passed; nodes = nodes_at_first S.row }) e

pub all_pass_again : AdmittedChangesPassAgain
all_pass_again S cs passed e = (stage_after S cs passed e).passed
