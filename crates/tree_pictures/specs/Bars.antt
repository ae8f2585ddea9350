-- The bars of a picture: which transactions have one, in which row, of which class, from where to
-- where, and what a pointer shows of it.
use Rattle.std.specs.Prelude.{ℕ, zero, suc, ◌-◌, ◌==◌, min, max, if◌then◌else◌, Option, Some, None, List, [], ◌∷◌, ◌++◌, codes, decimal, drop, length, slice_get, take, unwrap_or}
use Rattle.std.specs.List.{flat_map}
use Rattle.serial_spec.specs.History.{Name}
use Rattle.report_trees.specs.declared.outcomes.Ending.TheVariants as ending
use Rattle.report_trees.specs.declared.outcomes.Outcome.{Outcome}
use Rattle.report_trees.specs.declared.outcomes.Outcome.TheVariants as outcome
use Rattle.report_trees.specs.declared.outcomes.Shown.{Shown}
use Rattle.txn_names.specs.Text.{spelled_name}
use Rattle.report_trees.specs.Telling.{how_many}
use Rattle.tree_lines.specs.Counts.{is_undone}
use Rattle.tree_lines.specs.Lines.{label_at, spelled_outcome}
use Rattle.tree_pictures.specs.Elements.{escaped, opened_rect, opened_text}
use Rattle.tree_pictures.specs.Scale.{line_of, plus, product, x_of, y_of}
use Rattle.tree_pictures.specs.declared.scale.Scale.{Scale}
use Rattle.tree_pictures.specs.declared.scale.TheConstants.{INDENT, ROW}

-- ---- which transactions stand in which row

-- so many rows, with n in each, in their order: rows without a transaction are empty
abbrev pub groups : {X : Type 0} → ℕ → ℕ → List X → List (List X)
groups zero n xs = []
groups (suc more) n xs = take n xs ∷ groups more n (drop n xs)

-- ---- from where to where

-- the begin, and the end or the end of the report
abbrev pub starts_at : Shown → ℕ
starts_at s = unwrap_or s.began 0

abbrev pub stops_at : ℕ → Shown → ℕ
stops_at count s = unwrap_or s.ended count

-- the first begin and the last end of these and the given one
abbrev pub earliest : ℕ → List Shown → ℕ
earliest n [] = n
earliest n (s ∷ ss) = earliest (min n (starts_at s)) ss

abbrev pub latest : ℕ → ℕ → List Shown → ℕ
latest count n [] = n
latest count n (s ∷ ss) = latest count (max n (stops_at count s)) ss

-- it begins and ends where these entries stand, and is wide enough to be seen
abbrev pub bar : Scale → List ℕ → ℕ → ℕ → ℕ → List ℕ
bar sc class row from to = opened_rect class (x_of sc from) (plus (y_of row) 20)
    (max (x_of sc to - x_of sc from) 15) (ROW - 50) ++ codes "<title>"

-- the same as lines of the report
abbrev pub entries_title : Scale → ℕ → ℕ → List ℕ
entries_title sc from to = (codes "; lines " ++ decimal (line_of sc from))
    ++ (codes " to " ++ decimal (line_of sc to))

-- ---- the row of one transaction

-- what became of it, as the class that gives the bar its colour and its pattern
abbrev pub class_of : Outcome → List ℕ
class_of outcome.Committed = codes "committed"
class_of (outcome.Undone ending.Request) = codes "request"
class_of (outcome.Undone ending.Victim) = codes "victim"
class_of (outcome.Undone ending.Close) = codes "close"
class_of outcome.WithParent = codes "parent"
class_of outcome.AfterCommit = codes "later"
class_of outcome.Live = codes "live"

abbrev pub name_in : Option Name → List ℕ
name_in None = []
name_in (Some t) = spelled_name t

-- the whole name of the transaction with the number i
abbrev pub name_at : List Name → ℕ → List ℕ
name_at ts i = name_in (slice_get ts i)

-- the label, indented by the level
abbrev pub own_label : List Name → ℕ → Shown → List ℕ
own_label ts row s =
    opened_text (codes "label") (plus (product s.level INDENT) 100) (plus (y_of row) 125)
    ++ flat_map escaped (label_at ts s.number)

abbrev pub own_counts : Shown → List ℕ
own_counts s = (codes "; accesses " ++ decimal s.accesses) ++ (codes "; waits " ++ decimal s.waits)
    ++ (codes " over " ++ decimal s.waited) ++ codes " entries</title></rect>\n"

-- its name, what became of it, its lines and its counts
abbrev pub own_title : List Name → Scale → Shown → List ℕ
own_title ts sc s = flat_map escaped (name_at ts s.number) ++ codes ": "
    ++ spelled_outcome s.outcome ++ entries_title sc (starts_at s) (stops_at sc.entries s)
    ++ own_counts s

abbrev pub own_bar : List Name → Scale → ℕ → Shown → List ℕ
own_bar ts sc row s = own_label ts row s ++ codes "</text>\n"
    ++ bar sc (class_of s.outcome) row (starts_at s) (stops_at sc.entries s) ++ own_title ts sc s

-- ---- the row of several transactions

abbrev pub undone_in : List Shown → ℕ
undone_in ss = how_many (λ s. is_undone s.outcome) ss

abbrev pub joint_class : ℕ → List ℕ
joint_class undone = if undone == 0 then codes "together" else codes "mixed"

-- the label of the first, and how many more there are
abbrev pub joint_label : List Name → ℕ → Shown → ℕ → List ℕ
joint_label ts row s more = own_label ts row s ++ (codes " and " ++ decimal more)
    ++ codes " more</text>\n"

-- how many they are, how many of them are undone, and their lines
abbrev pub joint_title : Scale → ℕ → ℕ → ℕ → ℕ → List ℕ
joint_title sc count undone from to =
    decimal count ++ (codes " transactions, drawn together; undone " ++ decimal undone)
    ++ entries_title sc from to ++ codes "</title></rect>\n"

-- of the transactions ss, of which s is the first
abbrev pub joint_bar : List Name → Scale → ℕ → Shown → List Shown → List ℕ
joint_bar ts sc row s ss =
    let from = earliest (starts_at s) ss in
    let to = latest sc.entries (stops_at sc.entries s) ss in
    joint_label ts row s (length ss - 1) ++ bar sc (joint_class (undone_in ss)) row from to
    ++ joint_title sc (length ss) (undone_in ss) from to

-- ---- all rows

abbrev pub row_bar : List Name → Scale → ℕ → List Shown → List ℕ
row_bar ts sc row [] = []
row_bar ts sc row (s ∷ ss) =
    if length ss == 0 then own_bar ts sc row s else joint_bar ts sc row s (s ∷ ss)

-- from this row on
abbrev pub bar_rows : List Name → Scale → ℕ → List (List Shown) → List ℕ
bar_rows ts sc row [] = []
bar_rows ts sc row (g ∷ gs) = row_bar ts sc row g ++ bar_rows ts sc (suc row) gs

abbrev pub all_bars : List Name → Scale → List Shown → List ℕ
all_bars ts sc ss = bar_rows ts sc 0 (groups sc.rows sc.together ss)
