use Rattle.std.proofs.Common.{◌≡◌}
use Rattle.txn_tree.specs.Numbered.{is_active_at}
use Rattle.txn_tree.proofs.tree.Tree.is_active_at.Given as goal

-- all that were passed are active just where this one is
abbrev pub invariant-loop-above : goal.invariant-loop-above
invariant-loop-above l = is_active_at l.self l.fn.txn ≡ is_active_at l.self l.above

-- a parent has a smaller number
abbrev pub decreases-loop-above : goal.decreases-loop-above
decreases-loop-above l = l.above
