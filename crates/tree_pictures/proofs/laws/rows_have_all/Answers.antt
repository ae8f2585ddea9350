use Rattle.tree_pictures.proofs.Rows.{rows_have_all}
use Rattle.tree_pictures.proofs.laws.rows_have_all.Goals as goal

pub returns : goal.returns
returns c = rows_have_all
