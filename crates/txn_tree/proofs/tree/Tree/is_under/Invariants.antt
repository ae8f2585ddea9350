use Rattle.std.proofs.Common.{◌≡◌}
use Rattle.txn_tree.specs.Numbered.{is_under}
use Rattle.txn_tree.proofs.tree.Tree.is_under.Given as goal

-- all that were passed are below the transaction just where this one is
abbrev pub invariant-loop-above : goal.invariant-loop-above
invariant-loop-above l = is_under l.self l.txn l.fn.inferior ≡ is_under l.self l.txn l.above

-- a parent has a smaller number
abbrev pub decreases-loop-above : goal.decreases-loop-above
decreases-loop-above l = l.above
