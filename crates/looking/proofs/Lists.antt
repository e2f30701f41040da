-- Whole lists of changes are judged rightly, since each kind of change is. Assumes nothing.
use Rattle.std.proofs.Common.{◌≡◌, ℕ, ◌+◌, Bool, true, false, List, [], ◌∷◌, Some, None, Option, sym, refl, ap, ◌∙◌}
use Rattle.std.proofs.lemmas.Bool.{true≢false}
use Rattle.model.specs.declared.Entry.{Entry}
use Rattle.model.specs.declared.Fact.{Fact}
use Rattle.model.specs.Rows.{Among}
use Rattle.schema.specs.Checks.{SchemaParts, Admitted}
use Rattle.runs.specs.Steps.{Runs}
use Rattle.agreement.specs.Laws.{no_facts}
use Rattle.changes.specs.declared.Change.{Change}
use Rattle.changes.specs.declared.Change.TheVariants.{DropEdge, Delete, Insert, InsertBeside, AddEdge}
use Rattle.changes.specs.Kept.{Brings}
use Rattle.draft_rules.specs.Stages.{changed, changed_all}
use Rattle.draft_rules.specs.Rules.{adds}
use Rattle.draft_rules.specs.Laws.{Admissible}
use Rattle.conditions.specs.Conditions.{hindrance, or_next, failing}
use Rattle.conditions.specs.Kinds.{NoEntry, Adds, Takes}
use Rattle.draft_rules.proofs.SchemasPassAgain.{pass_again}
use Rattle.row_runs.proofs.Judged.{dropped_rightly, deleted_rightly, inserted_rightly, beside_rightly}
use Rattle.new_edges.proofs.Judging.{judged}
use Rattle.looking.proofs.Nodes.{gone, fewer}
use Rattle.looking.proofs.Entries.{no_entry}

-- Each change is accepted on the schema that those before it left.
abbrev pub AllHold : SchemaParts → List Fact → List Entry → List Change → Type 0
AllHold S fs es [] = Unit {0}
AllHold S fs es (c ∷ cs) = (hindrance S fs es c ≡ None) × AllHold (changed c S) fs es cs

pub all_hold : (S : SchemaParts) (fs : List Fact) (es : List Entry) (p : ℕ) (cs : List Change) → failing S fs es p cs ≡ None → AllHold S fs es cs
all_hold S fs es p [] h = tt
all_hold S fs es p (c ∷ cs) h = go (hindrance S fs es c) refl h (all_hold (changed c S) fs es (p + 1) cs)
  where
    go : (o : Option ℕ) → hindrance S fs es c ≡ o → or_next p o (failing (changed c S) fs es (p + 1) cs) ≡ None
        → (failing (changed c S) fs es (p + 1) cs ≡ None → AllHold (changed c S) fs es cs) → AllHold S fs es (c ∷ cs)
    go None is k more = (is, more k)
    go (Some i) is k more = absurd cc

pub none_fails : (S : SchemaParts) (fs : List Fact) (es : List Entry) (p : ℕ) (cs : List Change) → AllHold S fs es cs → failing S fs es p cs ≡ None
none_fails S fs es p [] h = refl
none_fails S fs es p (c ∷ cs) h = ap (λ o. or_next p o (failing (changed c S) fs es (p + 1) cs)) h.0 ∙ none_fails (changed c S) fs es (p + 1) cs h.1

-- All of them put something in.
abbrev pub AllAdd : List Change → Type 0
AllAdd [] = Unit {0}
AllAdd (c ∷ cs) = (adds c ≡ true) × AllAdd cs

-- What takes something out comes first.
abbrev pub InOrder : List Change → Type 0
InOrder [] = Unit {0}
InOrder (c ∷ cs) = (adds c ≡ true → AllAdd cs) × InOrder cs

module _ (es : List Entry) where
  -- Each may be made where it stands, and no entry is of a new node.
  abbrev pub AllAdmissible : SchemaParts → List Change → Type 0
  AllAdmissible S [] = Unit {0}
  AllAdmissible S (c ∷ cs) = Admissible S c × ((a : ℕ) → Brings c a → NoEntry a es) × AllAdmissible (changed c S) cs

  adding : (S : SchemaParts) → Admitted S → (c : Change) → adds c ≡ true → Admissible S c → ((a : ℕ) → Brings c a → NoEntry a es) → Adds S c es
  adding S k (DropEdge e) z h n = absurd (true≢false (sym z))
  adding S k (Delete a) z h n = absurd (true≢false (sym z))
  adding S k (Insert a g) z h n = inserted_rightly S a g es k h (n a refl)
  adding S k (InsertBeside a b c) z h n = beside_rightly S a b c es k h (n a refl)
  adding S k (AddEdge e) z h n = judged S e es k h

  taking : (S : SchemaParts) → Admitted S → (c : Change) → adds c ≡ false → Admissible S c → Takes S c es
  taking S k (DropEdge e) z h = dropped_rightly S e es k h
  taking S k (Delete a) z h = deleted_rightly S a es k h
  taking S k (Insert a g) z h = absurd (true≢false z)
  taking S k (InsertBeside a b c) z h = absurd (true≢false z)
  taking S k (AddEdge e) z h = absurd (true≢false z)

  -- One accepted change keeps the run.
  one_on : (S : SchemaParts) → Admitted S → (c : Change) → Admissible S c → ((a : ℕ) → Brings c a → NoEntry a es)
      → (fs : List Fact) → Runs S no_facts es fs → hindrance S fs es c ≡ None → Runs (changed c S) no_facts es fs
  one_on S k c h n fs r q = go (adds c) refl
    where
      go : (b : Bool) → adds c ≡ b → Runs (changed c S) no_facts es fs
      go true z = (adding S k c z h n).on fs r q
      go false z = (taking S k c z h).on fs r q

  pub all_on : (cs : List Change) (S : SchemaParts) → Admitted S → AllAdmissible S cs → (fs : List Fact)
      → Runs S no_facts es fs → AllHold S fs es cs → Runs (changed_all cs S) no_facts es fs
  all_on [] S k h fs r q = r
  all_on (c ∷ cs) S k h fs r q =
      all_on cs (changed c S) (pass_again S c k h.0) h.2 fs (one_on S k c h.0 h.1 fs r q.0) q.1

  -- What runs behind changes that put in ran before them.
  adds_back : (cs : List Change) (S : SchemaParts) → Admitted S → AllAdd cs → AllAdmissible S cs → (gs : List Fact)
      → Runs (changed_all cs S) no_facts es gs → Runs S no_facts es gs
  adds_back [] S k z h gs r = r
  adds_back (c ∷ cs) S k z h gs r =
      (adding S k c z.0 h.0 h.1).back gs (adds_back cs (changed c S) (pass_again S c k h.0) z.1 h.2 gs r)

  adds_only : (cs : List Change) (S : SchemaParts) → Admitted S → AllAdd cs → AllAdmissible S cs → (fs gs : List Fact)
      → Runs S no_facts es fs → Runs (changed_all cs S) no_facts es gs → AllHold S fs es cs
  adds_only [] S k z h fs gs r w = tt
  adds_only (c ∷ cs) S k z h fs gs r w =
      let j = pass_again S c k h.0 in
      let one = adding S k c z.0 h.0 h.1 in
      let q = one.only fs gs r (adds_back cs (changed c S) j z.1 h.2 gs w) in
      (q, adds_only cs (changed c S) j z.1 h.2 fs gs (one.on fs r q) w)

  -- The schema between what takes out and what puts in: the entries run on it too.
  record Between (S : SchemaParts) (gs : List Fact) : Type 0 where
    schema : SchemaParts
    ran : Runs schema no_facts es gs
    nodes : (u : ℕ) → Among schema.row u → Among S.row u

  between : (cs : List Change) (S : SchemaParts) → Admitted S → InOrder cs → AllAdmissible S cs → (gs : List Fact)
      → Runs (changed_all cs S) no_facts es gs → Between S gs
  between [] S k o h gs w = record { schema = S; ran = w; nodes = λ u m. m }
  between (c ∷ cs) S k o h gs w = go (adds c) refl (between cs (changed c S) (pass_again S c k h.0) o.1 h.2 gs w)
    where
      go : (b : Bool) → adds c ≡ b → Between (changed c S) gs → Between S gs
      go true z B = record { schema = S; ran = adds_back (c ∷ cs) S k (z, o.0 z) h gs w; nodes = λ u m. m }
      go false z B = record { schema = B.schema; ran = B.ran; nodes = λ u m. fewer S c u k h.0 z (B.nodes u m) }

  pub all_only : (cs : List Change) (S : SchemaParts) → Admitted S → InOrder cs → AllAdmissible S cs → (fs gs : List Fact)
      → Runs S no_facts es fs → Runs (changed_all cs S) no_facts es gs → AllHold S fs es cs
  all_only [] S k o h fs gs r w = tt
  all_only (c ∷ cs) S k o h fs gs r w = go (adds c) refl (λ m. all_only cs (changed c S) (pass_again S c k h.0) o.1 h.2 fs gs m w)
    where
      go : (b : Bool) → adds c ≡ b → (Runs (changed c S) no_facts es fs → AllHold (changed c S) fs es cs) → AllHold S fs es (c ∷ cs)
      go true z more = adds_only (c ∷ cs) S k (z, o.0 z) h fs gs r w
      go false z more =
          let B = between cs (changed c S) (pass_again S c k h.0) o.1 h.2 gs w in
          let one = taking S k c z h.0 in
          let q = one.only fs r (λ a t. no_entry B.schema a (λ m. gone S c a k h.0 t (B.nodes a m)) no_facts gs es B.ran) in
          (q, more (one.on fs r q))
