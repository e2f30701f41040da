use Rattle.std.proofs.Common.{◌≡◌, ap, ◌∙◌}
use Rattle.lives.specs.Views.{CaseView}
use Rattle.case.specs.CaseViews.{view_of}
use Rattle.judging.specs.Batches.{batch_of}
use Rattle.judging.specs.Judgements.{judged}
use Rattle.judging.proofs.HeldLines.{case_held}
use Rattle.judging.proofs.Movables.{told_move}
use Rattle.judging.proofs.batch.Batch.judge_buffered.Goals as goal

pub returns-clause-moves : goal.returns-clause-moves
returns-clause-moves g c cs p held is =
    let v : CaseView = view_of g.S.Store.view g.W.Worklist.offered c.args.case.now in
    let told : c.judge.result ≡ (judged (batch_of c.args.self.now) cs v).verdict =
    c.judge.ensures.verdict ∙ ap (λ l. (judged (batch_of c.args.self.now) l v).verdict) c.characters.ensures
    ∙ ap (λ j. j.verdict) (case_held cs c.args.line.now (batch_of c.args.self.now) v held) in
    told_move c.args.self.now p cs v is c.judge.result told
