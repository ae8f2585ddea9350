use Rattle.txn_tree.proofs.Orphans.{below_active}
use Rattle.txn_tree.proofs.tree.Tree.abort_at.Goals as goal

pub ended_at-ended-requires : goal.ended_at-ended-requires
ended_at-ended-requires c = record { upright = below_active c.args.self.now c.args.txn c.requires.active }
