use Rattle.line_language.proofs.Entries.{entries_read_back}
use Rattle.line_language.proofs.laws.entries_read_back.Goals as goal

pub returns : goal.returns
returns c = entries_read_back
