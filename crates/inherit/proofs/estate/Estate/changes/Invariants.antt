use Rattle.std.proofs.Common.{◌≡◌, ◌++◌, map}
use Rattle.version_stack.specs.Seen.{seen_in}
use Rattle.inherit.proofs.Collected.{change_of}
use Rattle.inherit.proofs.estate.Estate.changes.Given as goal

abbrev pub invariant-loop-key : goal.invariant-loop-key
invariant-loop-key l =
    l.changes.items ++ map (change_of (seen_in l.tree l.self.versions l.txn)) l.key-iterator ≡ map (change_of (seen_in l.tree l.self.versions l.txn)) l.initial.key-iterator
