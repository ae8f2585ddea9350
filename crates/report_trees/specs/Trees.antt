-- The transactions in the order of the tree, each with what is shown of it.
use Rattle.std.specs.Prelude.{◌≡◌, ℕ, zero, suc, ◌-◌, ◌==◌, Bool, true, false, if◌then◌else◌, List, [], ◌∷◌, ◌++◌, length, map, position, Option, Some, None}
use Rattle.std.specs.List.{flat_map}
use Rattle.txn_names.specs.Path.{parent, path_eq}
use Rattle.txn_names.specs.declared.name.TheConstants.{MOST_LABELS}
use Rattle.serial_spec.specs.History.{Name}
use Rattle.report_marks.specs.declared.deeds.Mark.{Mark}
use Rattle.report_trees.specs.Telling.{told_of}
use Rattle.report_trees.specs.declared.outcomes.Outcome.{Outcome}
use Rattle.report_trees.specs.declared.outcomes.Outcome.TheVariants as outcome
use Rattle.report_trees.specs.declared.outcomes.Shown.{Shown}
use Rattle.report_trees.specs.declared.telling.Abort.{Abort}
use Rattle.report_trees.specs.declared.telling.Told.{Told}

-- ---- what became of a transaction, where its parent was undone by some entry, or was not

-- a transaction that was aborted itself was undone before any of its ancestors
abbrev pub outcome_of : Option Abort → Option ℕ → Option ℕ → Outcome
outcome_of (Some a) c above = outcome.Undone a.by
outcome_of None (Some n) (Some m) = outcome.AfterCommit
outcome_of None (Some n) None = outcome.Committed
outcome_of None None (Some m) = outcome.WithParent
outcome_of None None None = outcome.Live

abbrev pub ended_at : Option Abort → Option ℕ → Option ℕ → Option ℕ
ended_at (Some a) c above = Some a.at
ended_at None (Some n) above = Some n
ended_at None None above = above

-- the entry by which it was undone, itself or with an ancestor
abbrev pub undone_at : Option Abort → Option ℕ → Option ℕ
undone_at (Some a) above = Some a.at
undone_at None above = above

abbrev pub shown_of : ℕ → ℕ → Told → Option ℕ → Shown
shown_of i level t above =
    record {
      number = i;
      level = level;
      began = t.began;
      ended = ended_at t.aborted t.committed above;
      outcome = outcome_of t.aborted t.committed above;
      accesses = t.accesses;
      waits = t.waits;
      waited = t.waited;
    }

-- ---- the tree: the root's place is 0, and that of the transaction with the number i is i + 1

abbrev pub place_in : Option ℕ → ℕ
place_in (Some i) = suc i
place_in None = 0

-- the place of the parent
abbrev pub place_above : List Name → Name → ℕ
place_above ts t = if length t == 1 then 0 else place_in (position (path_eq (parent t)) ts)

-- the numbers of those whose parent has the place p, in order of beginning, from the number k on
abbrev pub children_from : ℕ → ℕ → List ℕ → List ℕ
children_from k p [] = []
children_from k p (q ∷ qs) = if q == p then k ∷ children_from (suc k) p qs
    else children_from (suc k) p qs

abbrev pub children : List ℕ → ℕ → List ℕ
children places p = children_from 0 p places

-- Those below the place p, at the level of its children and so many more levels: each child is
-- followed by those below it. What is told of a transaction is read by its number
abbrev pub tree_below : (ℕ → Told) → List ℕ → ℕ → ℕ → ℕ → Option ℕ → List Shown
tree_below told places zero level p above = []
tree_below told places (suc more) level p above =
    flat_map (λ i. shown_of i level (told i) above
    ∷ tree_below told places more (suc level) (suc i) (undone_at (told i).aborted above))
    (children places p)

-- the tree of those with these names, of which these marks tell
abbrev pub tree_of : List Name → List Mark → List Shown
tree_of ts ms = tree_below (told_of 0 ms) (map (place_above ts) ts) MOST_LABELS 0 0 None
