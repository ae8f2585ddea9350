use Rattle.growing_sessions.proofs.Lines.{growths_join}
use Rattle.growing_sessions.proofs.growths_join.Goals as goal

pub returns : goal.returns
returns c = growths_join
