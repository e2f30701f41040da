use Rattle.std.proofs.Common.{◌≡◌, refl, rules}
use Rattle.std.specs.declared.option.Option.TheVariants.{None}
use Rattle.model.specs.Signals.{fact_of, decided}
use Rattle.schema.specs.Schemas.{parts}
use Rattle.marking.specs.States.{state_in}
use Rattle.marking.proofs.Arrays.{from_fn_same}
use Rattle.marking.proofs.TreeSignals.{on_tree}
use Rattle.marking.proofs.marking.Marking.of.Goals as goal

pub returns : goal.returns
returns c =
    let s = parts c.args.schema.now in
    let fs = c.args.facts.now in
    record {
      value = record {
        states = λ id h. from_fn_same _ (λ i y. y ≡ state_in s.row s.edges fs i) _ (λ i y f' k. search rules) _ 64 c.from_fn.ensures.items id None h;
        branches = λ id h. from_fn_same _ (λ i y. y ≡ decided (fact_of fs i)) _ (λ i y f' k. search rules) _ 64 c.from_fn-2.ensures.items id None h;
        finished = cc;
      };
      tree = on_tree _ _ _ refl;
    }
