use Rattle.std.proofs.Common.{arith}
use Rattle.draft_rules.specs.Stages.{changed_all}
use Rattle.drafts.specs.Views.{base_of}
use Rattle.drafts.proofs.Judged.{unrefused_within}
use Rattle.drafts.proofs.PlanFacts.{one_stage_a_change}
use Rattle.drafts.proofs.draft.Draft.take.Goals as goal

pub lengthen-requires-clause-room : goal.lengthen-requires-clause-room
lengthen-requires-clause-room c =
    let d = c.args.self.now in
    let p = d.plan in
    let within = unrefused_within p.first.row p.changes (changed_all p.changes (base_of p)) c.args.change c.requires in
    omega (arith, one_stage_a_change p, within.turn, d.room)
