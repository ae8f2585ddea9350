use Rattle.std.proofs.Common.{◌≡◌, ◌∙◌, ◌++◌, [], ℕ, List, ap}
use Rattle.report_marks.specs.declared.deeds.Mark.{Mark}
use Rattle.report_trees.specs.declared.outcomes.Shown.{Shown}
use Rattle.tree_lines.specs.Shows.{shown_lines, summary_lines}
use Rattle.tree_lines.proofs.summing.show_of.Goals as goal

pub returns : goal.returns
returns c =
    let ts = c.args.notes.now.names.keys in
    let ch = c.args.choice in
    let front = c.in_ok-put_lines.ensures ∙ ap (λ xs. xs ++ shown_lines ch ts c.deref.result.now) c.new-out.ensures.items ∙ ap (λ (ss : List Shown). shown_lines ch ts ss) c.deref.ensures.value in
    c.in_ok-put_summary.ensures ∙ ap (λ xs. xs ++ summary_lines c.deref-2.result.now c.deref-3.result.now) front
    ∙ (λ i. shown_lines ch ts c.args.tree.now.shown.items ++ summary_lines (c.deref-2.ensures.value i) (c.deref-3.ensures.value i))
