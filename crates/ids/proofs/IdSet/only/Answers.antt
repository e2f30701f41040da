use Rattle.std.proofs.Common.{◌≡◌, ℕ, Bool, true, false, ◌&&◌, eqb, sym, refl, ap, ◌∙◌}
use Rattle.std.proofs.lemmas.Bool.{le-ltb, lt-ltb, cond-true, cond-false}
use Rattle.std.proofs.lemmas.Nat.{one_shl}
use Rattle.ids.specs.declared.IdSet.{IdSet}
use Rattle.ids.specs.Sets.{has, only}
use Rattle.ids.proofs.Laws.{has_only, has_only_past}
use Rattle.ids.proofs.IdSet.only.Goals as goal

and_true : (b : Bool) → b ≡ (b && true)
and_true true = refl
and_true false = refl

and_false : (b : Bool) → false ≡ (b && false)
and_false true = refl
and_false false = refl

abbrev set : ℕ → IdSet
set n = record { bits = n }

pub returns-then-id-lt64 : goal.returns-then-id-lt64
unfolding only
returns-then-id-lt64 c =
    let low = c.if-id-lt64.true in
    let e = ap set (one_shl _ 64 low ∙ sym (cond-true _ _ _ (lt-ltb _ _ low))) in
    record {
      value = e;
      members = λ i. ap (λ s. has s i) e ∙ has_only c.args.id i low ∙ and_true (eqb i c.args.id) ∙ ap (λ b. eqb i c.args.id && b) (sym (lt-ltb _ _ low));
    }

pub returns-else-id-lt64 : goal.returns-else-id-lt64
unfolding only
returns-else-id-lt64 c =
    let high = c.if-id-lt64.false in
    let e = ap set (sym (cond-false _ _ _ (le-ltb _ _ high))) in
    record {
      value = e;
      members = λ i. ap (λ s. has s i) e ∙ has_only_past c.args.id i high ∙ and_false (eqb i c.args.id) ∙ ap (λ b. eqb i c.args.id && b) (sym (le-ltb _ _ high));
    }
