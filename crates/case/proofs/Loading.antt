-- What a load comes to, by what its line writes. Assumes nothing.
use Rattle.std.proofs.Common.{◌≡◌, ℕ, List, Option, Result, sym, ap, ◌∙◌, subst}
use Rattle.lives.specs.declared.CallRefusal.{CallRefusal}
use Rattle.schema.specs.Checks.{Admitted}
use Rattle.case_record.specs.CaseRecords.{RawCase, case_in}
use Rattle.lives.specs.Views.{CaseView}
use Rattle.lives.specs.Calls.{by_record, load_outcome}
use Rattle.lives.specs.Lives.{Life, loads, loaded_history}

pub record Loaded (cost : ℕ) (line : List ℕ) (v w : CaseView) (r : Result (Unit {0}) CallRefusal) : Type 0 where
  pub answer : r ≡ (load_outcome line v).answer
  pub after : w ≡ (load_outcome line v).after
  pub life : Life cost (loaded_history line v) w

pub loaded : (cost : ℕ) (line : List ℕ) (v w : CaseView) (r : Result (Unit {0}) CallRefusal) (o : Option RawCase) → Admitted v.progress.schema
    → case_in line ≡ o → r ≡ (by_record v o).answer → w ≡ (by_record v o).after → Loaded cost line v w r
loaded cost line v w r o k is a b =
    let after : w ≡ (load_outcome line v).after = b ∙ sym (ap (λ x. (by_record v x).after) is) in
    record {
      answer = a ∙ sym (ap (λ x. (by_record v x).answer) is);
      after = after;
      life = subst (Life cost (loaded_history line v)) (sym after) (loads v line k);
    }
