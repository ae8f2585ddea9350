use Rattle.session_text.proofs.Exports.{session_keeps_text}
use Rattle.growing_sessions.proofs.session_keeps_text.Goals as goal

pub returns : goal.returns
returns c = session_keeps_text
