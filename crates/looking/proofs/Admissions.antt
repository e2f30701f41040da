-- What a draft admits comes in order, and no entry of the case is of what it puts in. Assumes nothing.
use Rattle.std.proofs.Common.{◌≡◌, ℕ, Bool, true, false, not, ◌||◌, List, [], ◌∷◌, ◌++◌, sym, refl, ◌∙◌, subst}
use Rattle.std.proofs.lemmas.Bool.{and_parts, not-true, true≢false, false≢true}
use Rattle.std.proofs.lemmas.Bool.Decides.{Decides-or}
use Rattle.std.specs.Prelude.{Decides}
use Rattle.ids.specs.Sets.{is_id}
use Rattle.model.specs.declared.Element.{Element}
use Rattle.model.specs.declared.Entry.{Entry}
use Rattle.model.specs.Elements.{node_id}
use Rattle.model.specs.Rows.{Among}
use Rattle.schema.specs.Checks.{SchemaParts, Admitted}
use Rattle.schema.specs.Reading.{among}
use Rattle.schema.proofs.Checked.{checked_fine}
use Rattle.schema.proofs.Wrongs.{decides_among}
use Rattle.changes.specs.declared.Change.{Change}
use Rattle.changes.specs.declared.Change.TheVariants.{DropEdge, Delete, Insert, InsertBeside, AddEdge}
use Rattle.changes.specs.Kept.{Brings}
use Rattle.draft_rules.specs.Stages.{changed}
use Rattle.draft_rules.specs.Rules.{adds, any_adds, low_ids, formed, new_id, put_in, unused, all_admitted}
use Rattle.draft_rules.proofs.SchemasPassAgain.{pass_again}
use Rattle.draft_rules.proofs.ListsPassAgain.{NodesFrom, not_refused, first_admitted, admissible, nodes_after_change}
use Rattle.conditions.specs.Kinds.{NoEntry}
use Rattle.looking.proofs.Lists.{AllAdd, InOrder, AllAdmissible}

not_among : (xs : List Element) (u : ℕ) → among xs u ≡ false → Among xs u → ⊥
not_among xs u e h = true≢false (sym ((decides_among xs u).1 h) ∙ e)

any_last : (done : List Change) (c : Change) → any_adds done ≡ true → any_adds (done ++ c ∷ []) ≡ true
any_last [] c h = absurd (false≢true h)
any_last (d ∷ done) c h = go (adds d) h (any_last done c)
  where
    go : (b : Bool) → (b || any_adds done) ≡ true → (any_adds done ≡ true → any_adds (done ++ c ∷ []) ≡ true) → (b || any_adds (done ++ c ∷ [])) ≡ true
    go true h more = refl
    go false h more = more h

any_new : (done : List Change) (c : Change) → adds c ≡ true → any_adds (done ++ c ∷ []) ≡ true
any_new [] c h = rw h refl
any_new (d ∷ done) c h = go (adds d) (any_new done c h)
  where
    go : (b : Bool) → any_adds (done ++ c ∷ []) ≡ true → (b || any_adds (done ++ c ∷ [])) ≡ true
    go true h = refl
    go false h = h

adds_too : (done : List Change) (c : Change) → formed done c ≡ true → any_adds done ≡ true → adds c ≡ true
adds_too done c f a = go (adds c) refl (and_parts (low_ids c) _ f).1
  where
    go : (b : Bool) → adds c ≡ b → (b || not (any_adds done)) ≡ true → b ≡ true
    go true e h = refl
    go false e h = absurd (true≢false (sym a ∙ not-true (any_adds done) h))

-- Behind what puts something in, all does.
all_add : (base : List Element) (done : List Change) (S : SchemaParts) (cs : List Change) → all_admitted base done S cs ≡ true → any_adds done ≡ true → AllAdd cs
all_add base done S [] h a = tt
all_add base done S (c ∷ cs) h a =
    let k = first_admitted base done S c cs h in
    (adds_too done c (not_refused base done S c k.0).formed a, all_add base (done ++ c ∷ []) (changed c S) cs k.1 (any_last done c a))

pub in_order : (base : List Element) (done : List Change) (S : SchemaParts) (cs : List Change) → all_admitted base done S cs ≡ true → InOrder cs
in_order base done S [] h = tt
in_order base done S (c ∷ cs) h =
    let k = first_admitted base done S c cs h in
    ((λ z. all_add base (done ++ c ∷ []) (changed c S) cs k.1 (any_new done c z)), in_order base (done ++ c ∷ []) (changed c S) cs k.1)

not_there : (base : List Element) (done : List Change) (i a : ℕ) → a ≡ i → (among base i || put_in done i) ≡ false → Among base a → ⊥
not_there base done i a e q = go (among base i) refl q
  where
    go : (b : Bool) → among base i ≡ b → (b || put_in done i) ≡ false → Among base a → ⊥
    go true is k = absurd (true≢false k)
    go false is k = λ m. not_among base i is (subst (Among base) e m)

-- A new id is not in the row that the draft began with.
fresh_in_base : (base : List Element) (done : List Change) (c : Change) → unused base done (new_id c) ≡ true → (a : ℕ) → Brings c a → Among base a → ⊥
fresh_in_base base done (DropEdge e) h a b = absurd b
fresh_in_base base done (Delete i) h a b = absurd b
fresh_in_base base done (Insert i g) h a b = not_there base done i a b (not-true _ h)
fresh_in_base base done (InsertBeside i b c) h a m = not_there base done i a m (not-true _ h)
fresh_in_base base done (AddEdge e) h a b = absurd b

module _ (es : List Entry) (base : List Element) (none_new : (a : ℕ) → (Among base a → ⊥) → NoEntry a es) where
  pub all_admissible : (done : List Change) (S : SchemaParts) (cs : List Change) → Admitted S → NodesFrom base done S.row → all_admitted base done S cs ≡ true → AllAdmissible es S cs
  all_admissible done S [] k n h = tt
  all_admissible done S (c ∷ cs) k n h =
      let p = first_admitted base done S c cs h in
      let q = admissible base done S c n p.0 in (
        q,
        (λ a b. none_new a (fresh_in_base base done c (not_refused base done S c p.0).unused a b)),
        all_admissible (done ++ c ∷ []) (changed c S) cs (pass_again S c k q)
            (nodes_after_change base done S c (checked_fine S.row S.edges k.passed).0 q.there n) p.1,
      )
