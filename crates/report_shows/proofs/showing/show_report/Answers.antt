use Rattle.std.proofs.Common.{◌≡◌, rules}
use Rattle.report_shows.specs.Shown.{is_all_done}
use Rattle.report_shows.proofs.Kept.{shown_so}
use Rattle.report_shows.proofs.showing.show_report.Goals as goal

pub returns : goal.returns
returns c = λ judged.
    let all : c.is_all_done-all_done.result ≡ is_all_done c.in_ok-tree.tree.shown.items c.in_ok-notes.notes.marks.items = search rules in
    shown_so c.args.report.now c.in_ok-notes.notes c.in_ok-tree.tree.shown.items c.in_ok-notes.ensures c.in_ok-tree.ensures.shown judged
    c.args.choice c.in_ok-lines.lines.items c.is_all_done-all_done.result c.in_ok-lines.ensures all
