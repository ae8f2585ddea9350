use Rattle.line_language.proofs.Rows.{rows_read_back}
use Rattle.line_language.proofs.laws.rows_read_back.Goals as goal

pub returns : goal.returns
returns c = rows_read_back
