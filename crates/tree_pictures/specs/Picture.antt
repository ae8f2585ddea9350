-- The picture of a report, as bytes of SVG.
use Rattle.std.specs.Prelude.{ℕ, ◌==◌, if◌then◌else◌, List, [], ◌++◌, codes, length}
use Rattle.line_language.specs.Words.{cut_at}
use Rattle.serial_spec.specs.History.{Name}
use Rattle.report_marks.specs.declared.deeds.Mark.{Mark}
use Rattle.report_marks.specs.declared.noting.Notes.{Notes}
use Rattle.report_trees.specs.declared.outcomes.Shown.{Shown}
use Rattle.report_trees.specs.declared.telling.Wait.{Wait}
use Rattle.report_trees.specs.declared.walking.Tree.{Tree}
use Rattle.tree_lines.specs.Shows.{summary_lines}
use Rattle.tree_pictures.specs.Bars.{all_bars}
use Rattle.tree_pictures.specs.Frame.{head, legend, notes, times}
use Rattle.tree_pictures.specs.Marks.{crosses, tick_path}
use Rattle.tree_pictures.specs.Scale.{bottom_of, plus, scale_of}
use Rattle.tree_pictures.specs.Waits.{waits_of}
use Rattle.tree_pictures.specs.declared.scale.Scale.{Scale}

-- waits, accesses and victims
abbrev pub over_bars : Scale → List Mark → List Shown → List Wait → List ℕ
over_bars sc ms ss ws = waits_of sc ms ss ws ++ tick_path sc ss ms ++ crosses sc ws 0 ss

-- where several transactions share a row, bars alone are drawn
abbrev pub marks_of : Scale → List Mark → List Shown → List Wait → List ℕ
marks_of sc ms ss ws = if sc.together == 1 then over_bars sc ms ss ws else []

abbrev pub below_bars : Scale → List Shown → List Mark → List ℕ
below_bars sc ss ms = legend sc
    ++ notes (plus (bottom_of sc) 750) (cut_at 10 (summary_lines ss ms)) ++ codes "</svg>\n"

abbrev pub all_parts : Scale → List Name → List Mark → List Shown → List Wait → List ℕ
all_parts sc ts ms ss ws = head sc (length ss) ++ times sc ++ all_bars ts sc ss
    ++ marks_of sc ms ss ws ++ below_bars sc ss ms

-- with so many opening rows in the report
abbrev pub parts_of : List Name → ℕ → List Mark → List Shown → List Wait → List ℕ
parts_of ts count ms ss ws =
    all_parts (scale_of (length ss) (length ms) (plus count 2)) ts ms ss ws

-- the picture of a report with these notes and this tree
abbrev pub picture : Notes → Tree → List ℕ
picture x t = parts_of x.names.keys x.rows x.marks.items t.shown.items t.telling.waits.items
