-- The worked examples hold: each is computed. Assumes nothing.
use Rattle.std.proofs.Common.{◌≡◌, ℕ, ◌≤◌, List, [], ◌∷◌, Ok, refl, ap, Result, arith}
use Rattle.ids.specs.Sets.{has, only, union, intersection, difference}
use Rattle.conditions.specs.Conditions.{least}
use Rattle.model.specs.declared.Entry.{Entry}
use Rattle.model.specs.declared.Entry.TheVariants.{Start, End}
use Rattle.schema.specs.Checks.{Admitted}
use Rattle.agreement.specs.Laws.{no_facts, facts_after}
use Rattle.history.specs.Stores.{fresh}
use Rattle.lives.specs.declared.CallRefusal.{CallRefusal}
use Rattle.lives.specs.Views.{CaseView}
use Rattle.lives.specs.Calls.{Held, held, opened_on, by_entries, entries_taken}
use Rattle.verdicts.specs.Verdicts.{verdict_line}
use Rattle.judging.specs.Judgements.{Judged, by_load}
use Rattle.worked.specs.Examples.{ExamplesHold, beside, either, either_beside, plan}
use Rattle.worked.proofs.Loads.{all_bytes, stored, all_taken}

-- the three schemas pass the checks
beside_checked : Admitted beside
unfolding has only union intersection difference
beside_checked = record { few = omega arith; few_edges = omega arith; passed = refl }

either_checked : Admitted either
unfolding has only union intersection difference
either_checked = record { few = omega arith; few_edges = omega arith; passed = refl }

either_beside_checked : Admitted either_beside
unfolding has only union intersection difference
either_beside_checked = record { few = omega arith; few_edges = omega arith; passed = refl }

-- the entries of the two cases of the batch
abbrev of_7 : List Entry
of_7 = Start 1 ∷ End 1 ∷ Start 2 ∷ Start 3 ∷ []

abbrev of_8 : List Entry
of_8 = Start 1 ∷ End 1 ∷ Start 2 ∷ End 2 ∷ Start 3 ∷ []

-- a case of the batch, judged from what its entries gave
abbrev by_held : ℕ → CaseView → Result Held CallRefusal → Judged
by_held n v o = by_load plan (by_entries n (opened_on v.number beside v.store) o)

-- their entries are taken, whatever was held before
module _ (v : CaseView) (room : 5 ≤ v.store.capacity) where
  taken_7 : entries_taken beside 0 (all_bytes of_7) (held no_facts (fresh v.store.capacity)) ≡ Ok (held (facts_after no_facts of_7) (stored of_7 (fresh v.store.capacity)))
  unfolding has only union intersection difference
  taken_7 = all_taken beside of_7 0 no_facts (fresh v.store.capacity) (refl, (refl, (refl, (refl, tt)))) (omega arith)

  taken_8 : entries_taken beside 0 (all_bytes of_8) (held no_facts (fresh v.store.capacity)) ≡ Ok (held (facts_after no_facts of_8) (stored of_8 (fresh v.store.capacity)))
  unfolding has only union intersection difference
  taken_8 = all_taken beside of_8 0 no_facts (fresh v.store.capacity) (refl, (refl, (refl, (refl, (refl, tt))))) (omega arith)

pub examples : ExamplesHold
unfolding has only union intersection difference least
examples = record {
  batch = refl;
  plan_released = record { checked = beside_checked; admitted = refl };
  told_of_7 = λ v room. ap (λ o. verdict_line (by_held 7 v o).verdict) (taken_7 v room);
  left_of_7 = λ v room. ap (λ o. (by_held 7 v o).after.progress.schema) (taken_7 v room);
  told_of_8 = λ v room. ap (λ o. verdict_line (by_held 8 v o).verdict) (taken_8 v room);
  left_of_8 = λ v room. ap (λ o. (by_held 8 v o).after.progress.schema) (taken_8 v room);
  case_7_loaded = refl;
  not_before_the_block = record { released = record { checked = beside_checked; admitted = refl }; answer = refl };
  behind_2 = record { released = record { checked = beside_checked; admitted = refl }; answer = refl };
  behind_2_it_waits = refl;
  ran_past_7 = refl;
  behind_6 = record { released = record { checked = either_checked; admitted = refl }; answer = refl };
  behind_6_it_is_skipped = refl;
  not_behind_7 = record { released = record { checked = either_checked; admitted = refl }; answer = refl };
  ran_chosen_after = refl;
  started_too_early = record { released = record { checked = either_beside_checked; admitted = refl }; answer = refl };
  ran_chosen_before = refl;
  started_in_time = record { released = record { checked = either_beside_checked; admitted = refl }; answer = refl };
}
