use Rattle.std.proofs.Common.{◌≡◌, List, Ok, Result, set, sym, refl, ◌∙◌, ap₂, rules}
use mathlib.Core.Path.{fun_ext}
use Rattle.ids.specs.Sets.{has}
use Rattle.model.specs.declared.Entry.TheVariants.{Leave}
use Rattle.model.specs.declared.Fact.{Fact}
use Rattle.model.specs.declared.Fact.TheVariants.{Left}
use Rattle.runs.specs.Steps.{step_in}
use Rattle.history.specs.Stores.{StoreView, purge_answer}
use Rattle.rounds.specs.Rounds.{in_round}
use Rattle.lives.specs.declared.CallRefusal.{CallRefusal}
use Rattle.lives.specs.Calls.{Held, held}
use Rattle.entering.specs.Courses.{schema_of, held_in}
use Rattle.entering.proofs.Repeating.{repeated_accepted, repeated_leaves}
use Rattle.entering.proofs.course.Course.repeat.Goals as goal

pub returns : goal.returns
returns g c =
    let cost = g.S.Cost.PurgeCost.PLACES in
    let i = c.args.test in
    let S = schema_of c.args.self.now in
    let h = held_in g.S.Store.view c.args.self.now in
    let ids = c.round_of-round.result in
    let free = (g.S.Store.view c.purge.new.self).free in
    let accept : Ok tt ≡ purge_answer cost h.store = search rules in
    let left : step_in S h.facts (Leave i) ≡ Ok (set h.facts i Left) = search rules in
    let round : has ids ≡ in_round S.row i = fun_ext c.round_of-round.ensures in
    record {
      after = record {
        schema = refl;
        change =
            repeated_accepted S cost i free h ids round accept _ left
            ∙ sym (ap₂ {C = Result Held CallRefusal} (λ (fs : List Fact) (s : StoreView). Ok (held fs s)) c.forget.ensures c.purge.ensures.after);
      };
      bounds = λ _. repeated_leaves S cost i free h ids round accept c.purge.ensures.bounds;
      same = λ r e. absurd cc;
    }
