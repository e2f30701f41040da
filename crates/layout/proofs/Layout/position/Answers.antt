use Rattle.std.proofs.Common.{◌≡◌, sym, subst, arith}
use Rattle.std.proofs.lemmas.Grind.{common_steps}
use Rattle.layout.specs.Pass.{position_at}
use Rattle.layout.specs.Gaps.{Positioned}
use Rattle.layout.proofs.Laid.{position_stands}
use Rattle.layout.proofs.Layout.position.Goals as goal

pub returns : goal.returns
returns c =
    let l = c.args.self.now in
    let p = c.args.place in
    let v : c.copied.result ≡ position_at l p = grind (arith, common_steps) in
    record {
      value = v;
      tree = λ xs h t e. subst (Positioned xs p) (sym v) (position_stands xs l h p t e);
    }
