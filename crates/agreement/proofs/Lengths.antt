-- A run is no longer than its facts can rise. Assumes nothing.
use Rattle.std.proofs.Common.{◌≡◌, ℕ, zero, suc, ◌+◌, ◌*◌, ◌<◌, ◌≤◌, List, [], ◌∷◌, length, get_or, set, sym, ◌∙◌, subst, arith, length-set}
use Rattle.model.specs.declared.Entry.{Entry}
use Rattle.model.specs.declared.Fact.{Fact}
use Rattle.model.specs.declared.Fact.TheVariants.{Nothing, Begun, Ended, Decided, Left}
use Rattle.model.specs.Entries.{entry_id, fact_set}
use Rattle.schema.specs.Checks.{SchemaParts}
use Rattle.runs.specs.Steps.{Runs, ends, steps}
use Rattle.agreement.specs.Laws.{Checked}
use Rattle.agreement.proofs.Progress.{rank, raised, step_of}

abbrev total : List Fact → ℕ
total [] = 0
total (f ∷ fs) = rank f + total fs

rank_top : (f : Fact) → rank f ≤ 2
rank_top Nothing = omega arith
rank_top Begun = omega arith
rank_top Ended = omega arith
rank_top (Decided b) = omega arith
rank_top Left = omega arith

total_top : (fs : List Fact) → total fs ≤ 2 * length fs
total_top [] = omega arith
total_top (f ∷ fs) = omega (arith, rank_top f, total_top fs)

total_set : (fs : List Fact) (i : ℕ) (f : Fact) → i < length fs → total (set fs i f) + rank (get_or fs i Nothing) ≡ total fs + rank f
total_set [] i f h = absurd (omega arith)
total_set (x ∷ fs) zero f h = omega arith
total_set (x ∷ fs) (suc i) f h = omega (arith, total_set fs i f (omega arith))

module _ (S : SchemaParts) (c : Checked S) where
  rises : (fs gs : List Fact) (es : List Entry) → length fs ≡ 64 → Runs S fs es gs → (total fs + length es ≤ total gs) × (length gs ≡ 64)
  rises fs gs [] n ends = (omega arith, n)
  rises fs gs (e ∷ es) n (steps a r) =
      let s = step_of S c fs e a in
      let low = s.low in
      let was = s.before in
      let h = rises (set fs (entry_id e) (fact_set e)) gs es (length-set fs (entry_id e) (fact_set e) ∙ n) r in
      let t = total_set fs (entry_id e) (fact_set e) (subst (λ k. entry_id e < k) (sym n) low) in
      let up = raised e in
      let more = h.0 in
      (omega arith, h.1)

  pub short : (fs gs : List Fact) (es : List Entry) → length fs ≡ 64 → Runs S fs es gs → length es ≤ 128
  short fs gs es n r =
      let h = rises fs gs es n r in
      let most = total_top gs in
      let some = h.0 in
      let long = h.1 in
      omega arith
