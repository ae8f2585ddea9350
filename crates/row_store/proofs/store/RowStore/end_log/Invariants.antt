use Rattle.std.proofs.Common.{length}
use Rattle.row_store.proofs.store.RowStore.end_log.Given as goal

abbrev pub decreases-loop-log : goal.decreases-loop-log
decreases-loop-log l = length l.log.items
