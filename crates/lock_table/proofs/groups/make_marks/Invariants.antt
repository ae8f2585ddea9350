use Rattle.std.proofs.Common.{◌≡◌, ◌<◌, length, true, List, ℕ}
use Rattle.std.specs.Prelude.{IfSome}
use Rattle.txn_names.specs.Groups.{has}
use Rattle.lock_table.specs.Locked as one
use Rattle.lock_table.specs.Targeted.{IsGroupOf, IsMarkedAt, IsShorter, IsUpTo, with_groups}
use Rattle.lock_table.proofs.InTurn.{ahead, reach}
use Rattle.lock_table.proofs.groups.make_marks.Given as goal

abbrev pub invariant-loop-next : goal.invariant-loop-next
invariant-loop-next l = record {
  next : IfSome l.next (IsGroupOf l.key);
  modes : (u : ℕ) (g : List ℕ) → one.modes_in l.writers u g ≡ one.modes_in l.initial.writers u g;
  made : (g : List ℕ) → has g l.key ≡ true → 0 < length g → length g < reach l.key l.next → one.has_place l.writers l.txn g ≡ true;
  added : IsUpTo (one.has_place l.initial.writers) (one.has_place l.writers) (with_groups (one.has_place l.initial.writers) l.txn l.key);
  group : IfSome l.unmarked (IsGroupOf l.key);
  low : IfSome l.unmarked (λ e. length e < reach l.key l.next);
  marked : (g : List ℕ) → has g l.key ≡ true → 0 < length g → length g < reach l.key l.next → IsShorter l.unmarked g → IsMarkedAt l.initial.writers l.txn g;
}

abbrev pub decreases-loop-next : goal.decreases-loop-next
decreases-loop-next l = ahead l.key l.next
