-- How many transactions and entries are of some kind.
use Rattle.std.specs.Prelude.{ℕ, suc, ◌==◌, ◌&&◌, ◌||◌, nat_lt, Bool, true, false, not, if◌then◌else◌, List, [], ◌∷◌, Option, Some, None}
use Rattle.event_lists.specs.declared.view.Cause.{Cause}
use Rattle.line_language.specs.Refusals.{same_cause}
use Rattle.report_marks.specs.declared.deeds.Deed.{Deed}
use Rattle.report_marks.specs.declared.deeds.Deed.TheVariants as deed
use Rattle.report_marks.specs.declared.deeds.Doer.{Doer}
use Rattle.report_marks.specs.declared.deeds.Doer.TheVariants as doer
use Rattle.report_marks.specs.declared.deeds.Mark.{Mark}
use Rattle.report_trees.specs.declared.outcomes.Ending.TheVariants as ending
use Rattle.report_trees.specs.declared.outcomes.Outcome.{Outcome}
use Rattle.report_trees.specs.declared.outcomes.Outcome.TheVariants as outcome
use Rattle.report_trees.specs.declared.outcomes.Shown.{Shown}
use Rattle.tree_lines.specs.declared.counting.Group.{Group}
use Rattle.tree_lines.specs.declared.counting.Group.TheVariants as group
use Rattle.tree_lines.specs.declared.counting.Kind.{Kind}
use Rattle.tree_lines.specs.declared.counting.Kind.TheVariants as kind

abbrev pub is_committed : Outcome → Bool
is_committed outcome.Committed = true
is_committed o = false

-- what it did is undone
abbrev pub is_undone : Outcome → Bool
is_undone outcome.Committed = false
is_undone outcome.Live = false
is_undone o = true

-- it was undone by its own abort before the close
abbrev pub is_own : Outcome → Bool
is_own (outcome.Undone ending.Request) = true
is_own (outcome.Undone ending.Victim) = true
is_own o = false

-- ---- among those that stand behind a transaction in the order of the tree

-- one below the level is undone, before the first that is not below it
abbrev pub has_undone_below : ℕ → List Shown → Bool
has_undone_below level [] = false
has_undone_below level (s ∷ ss) =
    if nat_lt level s.level then (is_undone s.outcome || has_undone_below level ss) else false

-- the first one that is not below the level
abbrev pub next_beside : ℕ → List Shown → Option Shown
next_beside level [] = None
next_beside level (s ∷ ss) = if nat_lt level s.level then next_beside level ss else Some s

abbrev pub is_later : Option ℕ → Option ℕ → Bool
is_later (Some ended) (Some began) = nat_lt ended began
is_later e b = false

abbrev pub follows : Shown → Option Shown → Bool
follows s None = false
follows s (Some r) = r.level == s.level && is_later s.ended r.began

-- it was undone by its own abort, and the next one below the same parent began later
abbrev pub was_tried_again : Shown → List Shown → Bool
was_tried_again s ss = is_own s.outcome && follows s (next_beside s.level ss)

-- ---- counts

abbrev pub is_job : Shown → Bool
is_job s = s.level == 0

abbrev pub counts_shown : Group → Shown → List Shown → Bool
counts_shown group.JobsCommitted s ss = is_job s && is_committed s.outcome
counts_shown group.JobsUndone s ss = is_job s && is_undone s.outcome
counts_shown group.PartsCommitted s ss = not (is_job s) && is_committed s.outcome
counts_shown group.PartsUndone s ss = not (is_job s) && is_undone s.outcome
counts_shown group.PartsAgain s ss = not (is_job s) && was_tried_again s ss

-- how many of these are of the group
abbrev pub counted : Group → List Shown → ℕ
counted g [] = 0
counted g (s ∷ ss) = if counts_shown g s ss then suc (counted g ss) else counted g ss

abbrev pub is_victim : Doer → Bool
is_victim doer.Victim = true
is_victim b = false

abbrev pub is_wait : Deed → Bool
is_wait (deed.Waits i) = true
is_wait d = false

abbrev pub is_stuck : Deed → Bool
is_stuck deed.Stuck = true
is_stuck d = false

abbrev pub is_refused : Cause → Deed → Bool
is_refused c (deed.Refused d) = same_cause c d
is_refused c d = false

abbrev pub counts_mark : Kind → Mark → Bool
counts_mark kind.Victim m = is_victim m.by
counts_mark kind.Waits m = is_wait m.deed
counts_mark kind.Stuck m = is_stuck m.deed
counts_mark (kind.Refused c) m = is_refused c m.deed

-- how many of these entries are of the kind
abbrev pub marked : Kind → List Mark → ℕ
marked k [] = 0
marked k (m ∷ ms) = if counts_mark k m then suc (marked k ms) else marked k ms
