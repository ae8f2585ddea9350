use Rattle.std.proofs.Common.{◌∙◌, ◌+◌, ◌-◌, ◌++◌, ℕ, List, ap, arith, length}
use Rattle.std.proofs.lemmas.List.{length-drop}
use Rattle.report_trees.specs.declared.outcomes.Shown.{Shown}
use Rattle.tree_pictures.specs.Bars.{bar_rows, groups, row_bar}
use Rattle.tree_pictures.proofs.Rows.{next_row}
use Rattle.tree_pictures.proofs.bars.put_bars.Goals as goal

pub loop-row-preserved : goal.loop-row-preserved
loop-row-preserved c =
    let sc = c.args.scale.now in
    let ts = c.args.names.now.keys in
    let row = c.loop-row.row in
    let ss : List Shown = c.loop-row.rest.now in
    let x : List ℕ = c.loop-row.out.items in
    let front = c.parted.ensures.front in
    let back = c.parted.ensures.back in
    let put = c.in_ok-put_row.ensures ∙ ap (λ (g : List Shown). x ++ row_bar ts sc row g) front in
    record {
      short = omega (arith, ap length back, length-drop sc.together ss, c.loop-row.invariant.short);
      all = ap (λ (b : List Shown). c.put_row.new.out.items ++ bar_rows ts sc (row + 1) (groups (sc.rows - (row + 1)) sc.together b)) back ∙ next_row c.put_row.new.out.items x ts sc sc.rows row sc.together ss c.loop-row-test.true put c.loop-row.invariant.all;
    }
