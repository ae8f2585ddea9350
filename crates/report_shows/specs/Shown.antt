-- What is shown of a report, by its bytes.
use Rattle.std.specs.Prelude.{◌≡◌, ℕ, Bool, true, false, not, ◌&&◌, List, length, reverse, Ok}
use Rattle.std.specs.List.{list_all, list_any}
use Rattle.report_check.specs.Passing.{Read, read}
use Rattle.report_marks.specs.Marks.{marks, names}
use Rattle.report_marks.specs.declared.deeds.Deed.{Deed}
use Rattle.report_marks.specs.declared.deeds.Deed.TheVariants as deed
use Rattle.report_marks.specs.declared.deeds.Mark.{Mark}
use Rattle.report_trees.specs.Telling.{waits_in}
use Rattle.report_trees.specs.Trees.{tree_of}
use Rattle.report_trees.specs.declared.outcomes.Outcome.{Outcome}
use Rattle.report_trees.specs.declared.outcomes.Outcome.TheVariants as outcome
use Rattle.report_trees.specs.declared.outcomes.Shown.{Shown}
use Rattle.tree_lines.specs.Shows.{spelled_show}
use Rattle.tree_lines.specs.declared.lining.Choice.{Choice}
use Rattle.tree_pictures.specs.Picture.{parts_of}

-- ---- whether all was done

-- it committed, and so did each of its ancestors that has ended
abbrev pub is_committed_for_good : Outcome → Bool
is_committed_for_good outcome.Committed = true
is_committed_for_good o = false

abbrev pub is_committed : Shown → Bool
is_committed s = is_committed_for_good s.outcome

-- a line was refused, or given up
abbrev pub is_failed : Deed → Bool
is_failed (deed.Refused c) = true
is_failed deed.Stuck = true
is_failed d = false

abbrev pub is_failure : Mark → Bool
is_failure m = is_failed m.deed

-- each transaction committed for good, so that none was undone or was live at the end, and no line
-- was refused or given up
abbrev pub is_all_done : List Shown → List Mark → Bool
is_all_done ss ms = list_all is_committed ss && not (list_any is_failure ms)

-- ---- what is shown

-- what became of the transactions of this report, in the order of the tree
abbrev pub shown_in : Read → List Shown
shown_in r = tree_of (names r.history) (marks r.history)

-- these bytes are a report, these are the lines of those of its transactions that are chosen, with
-- its summary, and this says whether all was done in it
pub record IsShow (c : Choice) (bs lines : List ℕ) (all_done : Bool) : Type 0 where
  pub told : Read
  pub reads : read bs ≡ Ok told
  pub spelled : lines ≡ spelled_show c (names told.history) (shown_in told) (marks told.history)
  pub done : all_done ≡ is_all_done (shown_in told) (marks told.history)

-- the picture of this report
abbrev pub picture_in : Read → List ℕ
picture_in r = parts_of (names r.history) (length r.opening) (marks r.history) (shown_in r)
    (reverse (waits_in 0 (marks r.history)))

-- these bytes are a report, and this is its picture
pub record IsDrawing (bs picture : List ℕ) : Type 0 where
  pub told : Read
  pub reads : read bs ≡ Ok told
  pub drawn : picture ≡ picture_in told
