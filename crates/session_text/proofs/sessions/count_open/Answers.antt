use Rattle.std.proofs.Common.{length, sym, ap, ◌∙◌, arith}
use Rattle.serial_spec.specs.Interleaving.{Session}
use Rattle.session_text.proofs.Growth.{open_last}
use Rattle.session_text.proofs.sessions.count_open.Goals as goal

pub returns-in-len1-up : goal.returns-in-len1-up
returns-in-len1-up c =
    c.len.ensures
    ∙ ap (λ (s : Session). length s.lines) c.last.view_is
    ∙ sym (ap length (open_last c.args.sessions.now c.last-item.result (omega arith) c.last-item.is))
