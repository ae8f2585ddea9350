use Rattle.interleavings.proofs.Reported.{reported}
use Rattle.interleavings.proofs.report.report_of.Goals as goal

pub of-report-requires : goal.of-report-requires
of-report-requires g c =
    rw (c.into_parts-parts.ensures.opening, c.into_parts-parts.ensures.history, c.into_parts-parts.ensures.table)
    (reported g.S.TopStore c.args.manager c.args.labels.items c.requires.sound c.requires.few (rw c.into_parts-parts.ensures.table at c.len-rows.ensures.rising) (rw (c.deref.ensures.value, c.into_parts-parts.ensures.opening) at c.know_rows.ensures)
    (record { sessions = c.args.sessions.now; text = c.len-count.ensures.text; labels = c.requires.labels; in_turn = c.requires.in_turn; finished = c.requires.finished })
    c.requires.ended)
