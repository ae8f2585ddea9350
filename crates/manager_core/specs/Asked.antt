-- What came of the store that was asked to take changes.
use Rattle.std.specs.Prelude.{◌≡◌, ◌≤◌, ◌+◌, ◌⊎◌, Bool, IsTrue, List, Result, is_ok}
use Rattle.txn_names.specs.declared.change.Change.{Change}
use Rattle.serial_spec.specs.Changes.{overlay}
use Rattle.serial_spec.specs.Serial.{Map}
use Rattle.durable_top.specs.declared.store.StoreFault.{StoreFault}
use Rattle.durable_top.specs.declared.store.TopStore.{Ghosts}
use Rattle.durable_top.specs.Store.{counted}
use Rattle.durable_top.specs.Numbered.{Commits, Numbered}
use Rattle.manager_core.specs.Sound.{IsTrusted}

-- neither doubt nor failure is ever taken back
pub record IsLater {S : Type 0} (g : Ghosts S) (old new : S) : Type 0 where
  pub doubt : g.doubt old ≤ g.doubt new
  pub failures : g.failures old ≤ g.failures new

-- a crash leaves nothing that it could not leave before
pub record LeavesNoMore {S : Type 0} (g : Ghosts S) (old new : S) : Type 0 where
  pub tables : g.doubt new ≡ 0 → (left : Map) → g.may_leave new left → g.may_leave old left
  pub numbers : g.doubt new ≡ 0 → (left : Numbered) → g.may_leave_numbered new left
      → g.may_leave_numbered old left

-- a crash leaves all of these changes or none: all once they were taken, and none where the device
-- had failed before
pub record LeavesAllOrNone {S : Type 0} (g : Ghosts S) (old new : S) (changes : List Change)
    (taken : Bool) : Type 0 where
  pub tables : g.doubt new ≡ 0 → (left : Map) → g.may_leave new left
      → g.may_leave old left ⊎ (left ≡ overlay changes (g.table old))
  pub numbers : g.doubt new ≡ 0 → (left : Numbered) → g.may_leave_numbered new left
      → g.may_leave_numbered old left ⊎ Commits changes (g.numbered old) left
  pub taken_tables : g.doubt new ≡ 0 → IsTrue taken → (left : Map) → g.may_leave new left
      → left ≡ overlay changes (g.table old)
  pub taken_numbers : g.doubt new ≡ 0 → IsTrue taken → (left : Numbered)
      → g.may_leave_numbered new left → left ≡ g.numbered new
  pub failed : g.failures old ≡ 1 → LeavesNoMore g old new

-- it was asked once to make these changes, this is whether it took them, and this is what a crash
-- leaves of them
pub record IsAsked {S : Type 0} (g : Ghosts S) (old new : S) (changes : List Change)
    (taken : Bool) : Type 0 where
  pub answer : Result (Unit {0}) StoreFault
  pub asked : g.commits old new changes answer
  pub told : is_ok answer ≡ taken
  pub crash : LeavesAllOrNone g old new changes taken

-- it took them
pub record Takes {S : Type 0} (g : Ghosts S) (old new : S) (changes : List Change) : Type 0 where
  pub table : IsTrusted g new → g.table new ≡ overlay changes (g.table old)
  pub numbered : IsTrusted g new → Commits changes (g.numbered old) (g.numbered new)
  pub faults : g.faults new ≡ g.faults old

-- it refused them
pub record Refuses {S : Type 0} (g : Ghosts S) (old new : S) : Type 0 where
  pub table : IsTrusted g new → g.table new ≡ g.table old
  pub numbered : IsTrusted g new → g.numbered new ≡ g.numbered old
  pub faults : g.faults new ≡ counted (g.faults old + 1)
