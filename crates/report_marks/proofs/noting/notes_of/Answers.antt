use Rattle.std.proofs.Common.{◌∙◌, ◌∷◌, refl, sym, ap}
use Rattle.std.specs.Option.{option_copied}
use Rattle.report_check.specs.Passing.{unread}
use Rattle.line_language.specs.Words.{parts_left}
use Rattle.report_marks.proofs.Stepping.{way_last, way_next}
use Rattle.report_marks.proofs.noting.notes_of.Goals as goal

pub lines-init : goal.lines-init
lines-init c whole reads = record {
  line = 1;
  so_far = unread;
  goes_on = reads;
  noted = record { labels = c.new-notes.ensures.labels; names = c.new-notes.ensures.names; marks = c.new-notes.ensures.marks; rows = c.new-notes.ensures.rows };
  stage = refl;
}

pub lines-preserved : goal.lines-preserved
lines-preserved c whole reads =
    way_next whole c.lines.rest.now c.cut_line.result.0.now c.in-Some.next.now c.lines.stage _ c.lines.notes _ (c.lines.invariant whole reads)
    (c.cut_line.ensures.parts ∙ ap (λ o. c.cut_line.result.0.now ∷ parts_left 10 (option_copied o)) c.in-Some.is) (λ r noted at. c.in_ok-stage-in-Some.ensures r noted at)

pub returns-in-None : goal.returns-in-None
returns-in-None c whole reads = way_last whole c.lines.rest.now c.cut_line.result.0.now c.lines.stage c.lines.notes (c.lines.invariant whole reads)
    (c.cut_line.ensures.parts ∙ ap (λ o. c.cut_line.result.0.now ∷ parts_left 10 (option_copied o)) c.in-None.is)
