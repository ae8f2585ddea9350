use Rattle.std.proofs.Common.{◌≡◌, ◌<◌, ◌-◌, ℕ, Some}
use Rattle.std.specs.Int.{bit_at}
use Rattle.std.specs.Prelude.{slice_get}
use Rattle.manager_core.specs.declared.looks.Look.{Look}
use Rattle.manager_core.specs.Looked.{IsApart}
use Rattle.manager_core.proofs.looks.Looks.forget_under.Given as goal

-- what stands had stood, and of what was gone through neither end has to do with the transaction
abbrev pub invariant-loop-session : goal.invariant-loop-session
invariant-loop-session l = record {
  last : l.self.last ≡ l.initial.self.last;
  stood : (s : ℕ) → bit_at l.self.stands s ≡ 1 → bit_at l.initial.self.stands s ≡ 1;
  apart : (s : ℕ) (look : Look) → s < l.from → bit_at l.self.stands s ≡ 1 → slice_get l.self.last s ≡ Some look → IsApart l.tree l.txn look.txn look.keeper;
}

abbrev pub decreases-loop-session : goal.decreases-loop-session
decreases-loop-session l = 64 - l.from
