use Rattle.std.proofs.Common.{◌∙◌, sym}
use Rattle.report_marks.proofs.Stepping.{middle_entry}
use Rattle.report_marks.proofs.noting.note_middle.Goals as goal

pub returns-in_ok-note_entry : goal.returns-in_ok-note_entry
returns-in_ok-note_entry c r noted s e =
    middle_entry r c.args.line.now c.in-Some.entry c.args.notes.now c.note_entry.new.notes noted (sym c.is_table.ensures ∙ c.if-is_table.false) (sym c.read_entry.ensures ∙ c.in-Some.is)
    c.in_ok-note_entry.ensures s e
