use Rattle.std.proofs.Common.{◌≡◌, sym, ap, ◌∙◌}
use Rattle.lives.specs.Views.{CaseView}
use Rattle.case.specs.CaseViews.{view_of}
use Rattle.judging.specs.Batches.{batch_of}
use Rattle.judging.specs.Judgements.{judged}
use Rattle.judging.proofs.Movables.{told_move, judged_life}
use Rattle.judging.proofs.batch.Batch.judge.Goals as goal

pub returns-in-Ready-clause-moves : goal.returns-in-Ready-clause-moves
returns-in-Ready-clause-moves g c p is =
    let v : CaseView = view_of g.S.Store.view g.W.Worklist.offered c.args.case.now in
    let told : c.take.result ≡ (judged (batch_of c.args.self.now) c.args.line.now v).verdict =
    c.take.ensures.verdict ∙ ap (λ b. (judged (batch_of b) c.args.line.now v).verdict) (sym c.in-Ready.is) in
    told_move c.args.self.now p c.args.line.now v is c.take.result told

pub returns-in-Ready-clause-life : goal.returns-in-Ready-clause-life
returns-in-Ready-clause-life g c p is =
    let v : CaseView = view_of g.S.Store.view g.W.Worklist.offered c.args.case.now in
    let w : CaseView = view_of g.S.Store.view g.W.Worklist.offered c.take.new.case in
    let after : w ≡ (judged (batch_of c.args.self.now) c.args.line.now v).after =
    c.take.ensures.after ∙ ap (λ b. (judged (batch_of b) c.args.line.now v).after) (sym c.in-Ready.is) in
    judged_life c.args.self.now p c.args.line.now v is g.S.Cost.PurgeCost.PLACES w after
