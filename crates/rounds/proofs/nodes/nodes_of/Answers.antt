use Rattle.std.proofs.Common.{◌≡◌, ℕ, ◌&&◌, ltb, Option, subst, rules, arith}
use Rattle.std.proofs.lemmas.Fn.{fold_over, slice_gives, fronts}
use Rattle.ids.specs.Sets.{has}
use Rattle.schema.specs.Reading.{among}
use Rattle.rounds.proofs.RoundSets.{nodes_push}
use Rattle.rounds.proofs.nodes.nodes_of.Goals as goal

pub returns : goal.returns
returns c = subst (λ xs. (id : ℕ) → has c.fold.result id ≡ (ltb id 64 && among xs id)) c.iter.ensures.rest
    (fold_over fronts (λ x. x.now) _ (λ ys ids. (id : ℕ) → has ids id ≡ (ltb id 64 && among ys id)) _ (λ ys s x t f' before k. let more = λ (o : Option ℕ). nodes_push ys x.now s t o before in search rules)
    _ _ _ _ (slice_gives c.iter.result) (λ id. grind (arith, c.empty.ensures.members id)) c.fold.ensures.ran)
