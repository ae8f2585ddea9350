use Rattle.std.proofs.Common.{◌≡◌, ◌+◌, ◌≤◌, length}
use Rattle.line_language.specs.Words.{cut_at}
use Rattle.session_text.specs.Texts.{read_from, sessions_of}
use Rattle.session_text.proofs.sessions.Sessions.parse.Given as goal

abbrev pub invariant-loop-rest : goal.invariant-loop-rest
invariant-loop-rest l = record {
  counted : l.number + length l.rest ≤ length l.bytes + 1;
  read : read_from l.number l.sessions (cut_at 10 l.rest) ≡ sessions_of l.bytes;
}

abbrev pub decreases-loop-rest : goal.decreases-loop-rest
decreases-loop-rest l = length l.rest
