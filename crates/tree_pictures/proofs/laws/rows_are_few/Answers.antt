use Rattle.tree_pictures.proofs.Rows.{rows_are_few}
use Rattle.tree_pictures.proofs.laws.rows_are_few.Goals as goal

pub returns : goal.returns
returns c = rows_are_few
