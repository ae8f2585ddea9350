use Rattle.sqlite_trees.proofs.TypedLemmas.{no_float}
use Rattle.row_store.proofs.typed.is_no_float.Goals as goal

pub returns-in_default : goal.returns-in_default
returns-in_default c = λ _. no_float c.args.value c.in_default.not-Real
