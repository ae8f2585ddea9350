use Rattle.std.proofs.Common.{arith}
use Rattle.session_text.proofs.Headers.{command_alone}
use Rattle.session_text.proofs.header.words_of_header.Goals as goal
use Rattle.session_text.proofs.header.words_of_header.Goals.{then-bytes-lt3-via-then-bytes-lt3, then-bytes-lt3-via-else-bytes-lt3+then-bytes-ne115}

pub returns-then-bytes-lt3 : goal.returns-then-bytes-lt3
returns-then-bytes-lt3 c =
    elim c.then-bytes-lt3.branch [
      | then-bytes-lt3-via-then-bytes-lt3 w ↦ command_alone c.args.bytes.now (λ h. omega (arith, h.0, w.if-bytes-lt3.true))
      | then-bytes-lt3-via-else-bytes-lt3+then-bytes-ne115 w ↦ command_alone c.args.bytes.now (λ h. w.if-bytes-ne115.true h.1)
    ]
