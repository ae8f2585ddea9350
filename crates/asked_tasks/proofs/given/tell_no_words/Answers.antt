use Rattle.std.proofs.Common.{sym, ◌∙◌}
use Rattle.std.specs.IoError.{error_kind}
use Rattle.asked_tasks.proofs.Unread.{no_text}
use Rattle.asked_tasks.proofs.given.tell_no_words.Goals as goal

pub returns-in_default : goal.returns-in_default
returns-in_default g c =
    let is = no_text (error_kind c.args.why.now) (λ same. c.in_default.not-OutOfMemory (c.kind.ensures ∙ same)) in
    record { said = rw is.0 c.misuse.ensures.told; status = c.misuse.ensures.status ∙ sym is.1 }
