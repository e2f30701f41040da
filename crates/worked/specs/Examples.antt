-- Worked examples of schemas, cases and plans. Assumes nothing.
--   ExamplesHold   their list
use Rattle.std.specs.Prelude.{◌≡◌, ℕ, ◌≤◌, List, [], ◌∷◌, Some, Ok, codes}
use Rattle.model.specs.declared.Element.TheVariants.{Activity, AndSplit, Bar, AndJoin, XorSplit, XorJoin}
use Rattle.model.specs.declared.Entry.{Entry}
use Rattle.model.specs.declared.Entry.TheVariants.{Start, End, Choose}
use Rattle.model.specs.declared.State.TheVariants.{NotActivated, Skipped}
use Rattle.schema.specs.Checks.{SchemaParts}
use Rattle.changes.specs.declared.Change.TheVariants.{Insert, AddEdge}
use Rattle.changes.specs.Spellings.{edge}
use Rattle.draft_rules.specs.Plans.{PlanParts, plan_of, Released, released_of}
use Rattle.history.specs.Stores.{fresh}
use Rattle.lives.specs.Views.{CaseView}
use Rattle.lives.specs.Calls.{opened_on, load_outcome}
use Rattle.judging.specs.Judgements.{batch_read}
use Rattle.worked.specs.Cases.{schema_of, case_after, Ran, Moves, Stays, state_after, told, left}

-- Activity 1, then 2 beside 3, then 4.
abbrev pub beside : SchemaParts
beside = schema_of (Activity 1 ∷ AndSplit ∷ Activity 2 ∷ Bar ∷ Activity 3 ∷ AndJoin ∷ Activity 4 ∷ [])

-- Decision 5 of 6 or 7, then 8.
abbrev pub either : SchemaParts
either = schema_of (XorSplit 5 ∷ Activity 6 ∷ Bar ∷ Activity 7 ∷ XorJoin ∷ Activity 8 ∷ [])

-- Decision 10 of 11 or 12, beside 13.
abbrev pub either_beside : SchemaParts
either_beside =
    schema_of (AndSplit ∷ XorSplit 10 ∷ Activity 11 ∷ Bar ∷ Activity 12 ∷ XorJoin ∷ Bar ∷ Activity 13 ∷ AndJoin ∷ [])

-- A batch: the line of the first of these schemas, that of a plan, and those of two cases.
abbrev pub schema_line : List ℕ
schema_line = codes "01000107010102FF010203FF010304FF010400"

abbrev pub plan_line : List ℕ
plan_line = codes "0201050203FF"

abbrev pub line_of_7 : List ℕ
line_of_7 = codes "030000000700040101FF0201FF0102FF0103FF"

abbrev pub line_of_8 : List ℕ
line_of_8 = codes "030000000800050101FF0201FF0102FF0202FF0103FF"

-- The plan is that 3 waits for 2.
abbrev pub plan : PlanParts
plan = plan_of beside (AddEdge (edge 2 3) ∷ [])

-- Case 7, loaded over a store of 128 places.
abbrev pub case_7 : CaseView
case_7 = (load_outcome line_of_7 (opened_on 0 beside (fresh 128))).after

-- 7 was chosen and finished, and 8 started.
abbrev pub past_7 : List Entry
past_7 = Choose 5 1 ∷ Start 7 ∷ End 7 ∷ Start 8 ∷ []

-- 12 was chosen, and so 11 Skipped, after 13 was started, or before.
abbrev pub chosen_after : List Entry
chosen_after = Start 13 ∷ Choose 10 1 ∷ []

abbrev pub chosen_before : List Entry
chosen_before = Choose 10 1 ∷ Start 13 ∷ []

pub record ExamplesHold : Type 0 where
  -- The first two lines of the batch are those of the schema and of the plan, which a draft releases.
  pub batch : batch_read schema_line plan_line ≡ Ok plan
  pub plan_released : Released plan
  -- Whatever was held before, if the store has places enough: case 7, in which 3 was started beside 2, is refused with 35,
  -- for change 0 and node 3, and stays; case 8, in which 2 was finished first, is moved.
  pub told_of_7 : (v : CaseView) → 5 ≤ v.store.capacity → told schema_line plan_line line_of_7 v ≡ codes "04000000072306000003"
  pub left_of_7 : (v : CaseView) → 5 ≤ v.store.capacity → left schema_line plan_line line_of_7 v ≡ beside
  pub told_of_8 : (v : CaseView) → 5 ≤ v.store.capacity → told schema_line plan_line line_of_8 v ≡ codes "04000000080000FFFFFF"
  pub left_of_8 : (v : CaseView) → 5 ≤ v.store.capacity → left schema_line plan_line line_of_8 v ≡ released_of plan
  -- In case 7 nothing may come before the block of 2 and 3, which are begun; behind 2 activity 9 may come, and waits.
  pub case_7_loaded : case_7.store.list ≡ Start 1 ∷ End 1 ∷ Start 2 ∷ Start 3 ∷ []
  pub not_before_the_block : Stays (Insert 9 1) case_7 2
  pub behind_2 : Moves (Insert 9 3) case_7
  pub behind_2_it_waits : state_after (Insert 9 3) case_7 9 ≡ Some NotActivated
  -- Past 7 activity 9 may come behind 6, which was not chosen, and is Skipped; it may not come behind 7, since 8 is begun.
  pub ran_past_7 : Ran either past_7
  pub behind_6 : Moves (Insert 9 2) (case_after either past_7)
  pub behind_6_it_is_skipped : state_after (Insert 9 2) (case_after either past_7) 9 ≡ Some Skipped
  pub not_behind_7 : Stays (Insert 9 4) (case_after either past_7) 8
  -- That 13 waits for 11 is refused if 13 was started before 12 was chosen, and accepted if 12 was chosen first.
  pub ran_chosen_after : Ran either_beside chosen_after
  pub started_too_early : Stays (AddEdge (edge 11 13)) (case_after either_beside chosen_after) 13
  pub ran_chosen_before : Ran either_beside chosen_before
  pub started_in_time : Moves (AddEdge (edge 11 13)) (case_after either_beside chosen_before)
