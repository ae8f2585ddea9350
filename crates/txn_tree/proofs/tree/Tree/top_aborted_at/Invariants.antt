use Rattle.std.proofs.Common.{◌≡◌}
use Rattle.serial_spec.specs.History.{or_else}
use Rattle.txn_tree.specs.Numbered.{top_aborted_at}
use Rattle.txn_tree.proofs.Climbing.{left_above, name_by, top_above}
use Rattle.txn_tree.proofs.tree.Tree.top_aborted_at.Given as goal

-- the topmost of all is that of what is left to look at, or the last one found
abbrev pub invariant-loop-above : goal.invariant-loop-above
invariant-loop-above l = top_aborted_at l.self l.fn.txn ≡ or_else (top_above l.self l.above) (name_by l.self l.top)

-- a parent has a smaller number
abbrev pub decreases-loop-above : goal.decreases-loop-above
decreases-loop-above l = left_above l.above
