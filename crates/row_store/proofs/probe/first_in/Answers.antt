use Rattle.row_store.proofs.Firsts.{first_ascends}
use Rattle.row_store.proofs.probe.first_in.Goals as goal

pub returns-then-order-eq0 : goal.returns-then-order-eq0
returns-then-order-eq0 c = λ some. (c.get.ensures, first_ascends c.args.order c.if-order-eq0.true)
