use Rattle.std.proofs.Common.{sym, ◌∙◌}
use Rattle.std.proofs.lemmas.Bool.{false≢true}
use Rattle.txn_cells.proofs.ByKey.{any_at}
use Rattle.txn_cells.proofs.numbers.place_for.Goals as goal

pub returns-in-Ok-clause-rising : goal.returns-in-Ok-clause-rising
returns-in-Ok-clause-rising c =
    absurd (false≢true (sym c.requires.fresh ∙ any_at c.args.numbers.now c.args.txn c.in-Ok.place c.in-Ok.ensures.there))
