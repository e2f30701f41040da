-- What a draft takes is exactly what the rules for changes admit. Assumes nothing.
use Rattle.std.specs.Prelude.{◌≡◌, ◌↔◌, true, List, [], Ok}
use Rattle.schema.specs.Checks.{SchemaParts}
use Rattle.plan_record.specs.declared.RawChange.{RawChange}
use Rattle.changes.specs.declared.Change.{Change}
use Rattle.draft_rules.specs.Rules.{all_admitted}
use Rattle.draft_rules.specs.Plans.{plan_of}
use Rattle.drafts.specs.Plans.{begun, all_added}

-- Every list of changes that the rules admit is what a draft of the schema takes from some bytes, and a draft takes no other.
abbrev pub DraftsTakeWhatIsAdmitted : Type 0
DraftsTakeWhatIsAdmitted =
    (S : SchemaParts) (cs : List Change)
    → ((raws : List RawChange) × (all_added (begun S) raws ≡ Ok (plan_of S cs))) ↔ (all_admitted S.row [] S cs ≡ true)
