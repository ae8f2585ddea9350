-- The lines of `tx show`.
use Rattle.std.specs.Prelude.{◌≡◌, ℕ, zero, suc, ◌+◌, ◌-◌, ◌*◌, ◌==◌, ◌&&◌, ◌||◌, Bool, true, false, not, if◌then◌else◌, List, [], ◌∷◌, ◌++◌, codes, decimal, length, slice_get, Option, Some, None}
use Rattle.std.specs.List.{flat_map, list_any}
use Rattle.line_language.specs.Words.{cut_at}
use Rattle.txn_names.specs.Text.{spelled_name}
use Rattle.serial_spec.specs.History.{Name}
use Rattle.report_marks.specs.declared.deeds.Deed.{Deed}
use Rattle.report_marks.specs.declared.deeds.Deed.TheVariants as deed
use Rattle.report_marks.specs.declared.deeds.Doer.{Doer}
use Rattle.report_marks.specs.declared.deeds.Doer.TheVariants as doer
use Rattle.report_marks.specs.declared.deeds.Mark.{Mark}
use Rattle.report_trees.specs.Telling.{how_many}
use Rattle.report_trees.specs.declared.outcomes.Ending.{Ending}
use Rattle.report_trees.specs.declared.outcomes.Ending.TheVariants as ending
use Rattle.report_trees.specs.declared.outcomes.Outcome.{Outcome}
use Rattle.report_trees.specs.declared.outcomes.Outcome.TheVariants as outcome
use Rattle.report_trees.specs.declared.outcomes.Shown.{Shown}

-- ---- one transaction

abbrev pub spelled_outcome : Outcome → List ℕ
spelled_outcome outcome.Committed = codes "committed"
spelled_outcome (outcome.Undone ending.Request) = codes "undone on request"
spelled_outcome (outcome.Undone ending.Victim) = codes "undone as a victim"
spelled_outcome (outcome.Undone ending.Close) = codes "undone at the close"
spelled_outcome outcome.WithParent = codes "undone with its parent"
spelled_outcome outcome.AfterCommit = codes "undone after its commit"
spelled_outcome outcome.Live = codes "live"

abbrev pub last_part : List (List ℕ) → List ℕ
last_part [] = []
last_part (p ∷ []) = p
last_part (p ∷ q ∷ ps) = last_part (q ∷ ps)

-- the label: what stands behind the last slash of the name
abbrev pub label_of : Name → List ℕ
label_of t = last_part (cut_at 47 (spelled_name t))

abbrev pub label_in : Option Name → List ℕ
label_in None = []
label_in (Some t) = label_of t

abbrev pub label_at : List Name → ℕ → List ℕ
label_at ts i = label_in (slice_get ts i)

abbrev pub indent : ℕ → List ℕ
indent zero = []
indent (suc level) = indent level ++ codes "  "

-- what became of it, and the counts
abbrev pub shown_counts : Shown → List ℕ
shown_counts s = codes ": " ++ spelled_outcome s.outcome ++ (codes "; accesses " ++ decimal s.accesses)
    ++ (codes "; waits " ++ decimal s.waits) ++ (codes " over " ++ decimal s.waited)
    ++ (codes " entries" ++ 10 ∷ [])

-- two spaces for each ancestor, the label, what became of it, and the counts
abbrev pub shown_line : List Name → Shown → List ℕ
shown_line ts s = indent s.level ++ label_at ts s.number ++ shown_counts s
