use Rattle.report_shows.proofs.Kept.{drawn_so}
use Rattle.report_shows.proofs.drawing.draw_report.Goals as goal

pub returns : goal.returns
returns c = λ judged.
    drawn_so c.args.report.now c.in_ok-notes.notes c.in_ok-tree.tree.shown.items c.in_ok-notes.ensures c.in_ok-tree.ensures.shown judged
    c.in_ok-tree.tree.telling.waits.items c.in_ok-picture.picture.items c.in_ok-tree.ensures.waits c.in_ok-picture.ensures
