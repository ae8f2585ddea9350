use Rattle.std.proofs.Common.{◌∙◌, ◌∷◌, ap}
use Rattle.std.specs.Option.{option_copied}
use Rattle.line_language.specs.Words.{parts_left}
use Rattle.tree_pictures.proofs.Parts.{next_note}
use Rattle.tree_pictures.proofs.frame.put_notes.Goals as goal

pub notes-preserved : goal.notes-preserved
notes-preserved c =
    let line = c.cut_line.result.0.now in
    rw c.plus-at.ensures (next_note c.notes.out.items c.notes.at c.notes.rest.now line c.in-Some.next.now (c.cut_line.ensures.parts ∙ ap (λ o. line ∷ parts_left 10 (option_copied o)) c.in-Some.is) c.in_ok-put_note-in-Some.ensures c.notes.invariant)
