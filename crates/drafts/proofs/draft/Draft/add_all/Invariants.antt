use Rattle.std.proofs.Common.{◌≡◌, map, drop}
use Rattle.plan_record.specs.Changes.{change_from}
use Rattle.drafts.specs.DraftViews.{drafted}
use Rattle.drafts.specs.Plans.{all_added}
use Rattle.drafts.proofs.draft.Draft.add_all.Given as goal

abbrev pub invariant-loop-piece : goal.invariant-loop-piece
invariant-loop-piece l =
    all_added (drafted l.initial.self) (map change_from l.pieces) ≡ all_added (drafted l.self) (map change_from (drop l.piece-index l.pieces))
