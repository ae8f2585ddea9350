-- What `tx show` prints: the lines of the transactions that are shown, and the summary.
use Rattle.std.specs.Prelude.{ℕ, ◌==◌, ◌&&◌, ◌||◌, Bool, true, false, not, if◌then◌else◌, List, [], ◌∷◌, ◌++◌, codes, decimal}
use Rattle.serial_spec.specs.History.{Name}
use Rattle.line_language.specs.Report.{line}
use Rattle.event_lists.specs.declared.view.Cause.{Cause}
use Rattle.event_lists.specs.declared.view.Cause.TheVariants as cause
use Rattle.line_language.specs.Refusals.{cause_word, causes}
use Rattle.report_marks.specs.declared.deeds.Mark.{Mark}
use Rattle.report_trees.specs.declared.outcomes.Shown.{Shown}
use Rattle.tree_lines.specs.Counts.{counted, has_undone_below, is_undone, marked}
use Rattle.tree_lines.specs.Lines.{shown_line}
use Rattle.tree_lines.specs.declared.counting.Group.TheVariants as group
use Rattle.tree_lines.specs.declared.counting.Kind.{Kind}
use Rattle.tree_lines.specs.declared.counting.Kind.TheVariants as kind
use Rattle.tree_lines.specs.declared.lining.Choice.{Choice}

-- ---- the transactions that are shown

-- these stand behind the transaction in the order of the tree
abbrev pub is_chosen : Choice → Shown → List Shown → Bool
is_chosen c s behind = (not c.jobs || s.level == 0)
    && (not c.undone || (is_undone s.outcome || has_undone_below s.level behind))

abbrev pub chosen_line : Choice → List Name → Shown → List Shown → List ℕ
chosen_line c ts s behind = if is_chosen c s behind then shown_line ts s else []

abbrev pub shown_lines : Choice → List Name → List Shown → List ℕ
shown_lines c ts [] = []
shown_lines c ts (s ∷ ss) = chosen_line c ts s ss ++ shown_lines c ts ss

-- ---- the summary

abbrev pub counted_words : List ℕ → ℕ → List ℕ
counted_words words n = words ++ decimal n

abbrev pub job_line : List Shown → List ℕ
job_line ss = counted_words (codes "jobs: committed ") (counted group.JobsCommitted ss)
    ++ counted_words (codes ", undone ") (counted group.JobsUndone ss)

abbrev pub part_line : List Shown → List ℕ
part_line ss = counted_words (codes "parts: committed ") (counted group.PartsCommitted ss)
    ++ counted_words (codes ", undone ") (counted group.PartsUndone ss)
    ++ counted_words (codes ", tried again ") (counted group.PartsAgain ss)

-- what stands before a cause: the first one stands right behind the colon
abbrev pub lead : Cause → List ℕ
lead cause.Unknown = codes " "
lead c = codes ", "

abbrev pub refused_words : Cause → List Mark → List ℕ
refused_words c ms = lead c ++ cause_word c ++ counted_words (codes " ") (marked (kind.Refused c) ms)

abbrev pub refused_by : List Cause → List Mark → List ℕ
refused_by [] ms = []
refused_by (c ∷ cs) ms = refused_words c ms ++ refused_by cs ms

abbrev pub refused_line : List Mark → List ℕ
refused_line ms = codes "refused:" ++ refused_by causes ms

abbrev pub kind_line : List ℕ → Kind → List Mark → List ℕ
kind_line words k ms = counted_words words (marked k ms)

abbrev pub summary_lines : List Shown → List Mark → List ℕ
summary_lines ss ms = line (job_line ss) ++ line (part_line ss)
    ++ line (kind_line (codes "victims: ") kind.Victim ms) ++ line (refused_line ms)
    ++ line (kind_line (codes "stuck: ") kind.Stuck ms)
    ++ line (kind_line (codes "waits: ") kind.Waits ms)

-- ---- all

abbrev pub spelled_show : Choice → List Name → List Shown → List Mark → List ℕ
spelled_show c ts ss ms = shown_lines c ts ss ++ summary_lines ss ms
