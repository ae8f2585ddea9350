use Rattle.std.proofs.Common.{◌≡◌, ◌+◌, ◌-◌, length}
use Rattle.txn_tree.specs.States.{names}
use Rattle.txn_tree.proofs.Endings.{IsChild, remaining, so_far}
use Rattle.txn_tree.proofs.tree.Tree.+ended_at.Given as goal

-- a child has a greater number
abbrev pub decreases-ended_at : goal.decreases-ended_at
decreases-ended_at l = length (names l.self.now) - l.txn

-- the children before this one are counted
abbrev pub invariant-loop-child : goal.invariant-loop-child
invariant-loop-child l = record {
  child : IsChild l.self l.fn.txn l.child;
  counted : l.ended ≡ 1 + so_far l.self l.fn.txn l.child;
}

abbrev pub decreases-loop-child : goal.decreases-loop-child
decreases-loop-child l = remaining l.self l.child
