use Rattle.std.proofs.Common.{◌≡◌, List, ℕ}
use Rattle.std.specs.Prelude.{IfSome}
use Rattle.lock_table.specs.Locked as one
use Rattle.lock_table.specs.Targeted.{IsGroupOf, marked_below}
use Rattle.lock_table.proofs.InTurn.{ahead, reach}
use Rattle.lock_table.proofs.groups.mark_from.Given as goal

abbrev pub invariant-loop-next : goal.invariant-loop-next
invariant-loop-next l = record {
  next : IfSome l.next (IsGroupOf l.key);
  modes : (u : ℕ) (g : List ℕ) → one.modes_in l.writers u g ≡ marked_below l.initial.writers l.txn l.key (reach l.key l.next) u g;
  places : (u : ℕ) (g : List ℕ) → one.has_place l.writers u g ≡ one.has_place l.initial.writers u g;
}

abbrev pub decreases-loop-next : goal.decreases-loop-next
decreases-loop-next l = ahead l.key l.next
