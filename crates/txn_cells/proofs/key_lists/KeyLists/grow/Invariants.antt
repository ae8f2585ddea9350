use Rattle.std.proofs.Common.{◌≡◌, ◌+◌, ◌-◌, ℕ}
use Rattle.std.specs.Prelude.{vec_len}
use Rattle.txn_cells.specs.Kept.{busy_in, listed_at}
use Rattle.txn_cells.proofs.key_lists.KeyLists.grow.Given as goal

abbrev pub invariant-loop-self : goal.invariant-loop-self
invariant-loop-self l = record {
  keys : (u : ℕ) → listed_at l.self-inside.lists.items u ≡ listed_at l.initial.self-inside.lists.items u;
  busy : l.self-inside.busy ≡ busy_in l.self-inside.lists.items;
}

abbrev pub decreases-loop-self : goal.decreases-loop-self
decreases-loop-self l = (l.place + 1) - vec_len l.self-inside.lists
