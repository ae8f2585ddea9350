-- What the calls of a store promise.
use Rattle.std.specs.Prelude.{◌↔◌, ◌≤◌, ◌≡◌, ◌⊎◌, ◌+◌, ◌-◌, ◌^◌, ℕ, min, Bool, if◌then◌else◌, List, map, Result, Ok, Err}
use Rattle.std.specs.Global.{Vec}
use Rattle.serial_spec.specs.Rows.{Rows}
use Rattle.durable_top.specs.declared.store.Row.{Row}
use Rattle.durable_top.specs.declared.store.StoreFault.{StoreFault}
use Rattle.durable_top.specs.declared.store.StoreFault.TheVariants.{Failed}

-- the rows as keys and values
abbrev pub plain : List Row → Rows
plain rows = map (λ r. (r.key, r.value)) rows

-- what a load answered
abbrev pub told : Result (Vec Row) StoreFault → Result (List Row) StoreFault
told (Ok rows) = Ok rows.items
told (Err fault) = Err fault

-- at its greatest value a count stands still
abbrev pub counted : ℕ → ℕ
counted n = min n (2 ^ 64 - 1)

abbrev pub faults_after : Bool → ℕ → ℕ
faults_after is_fault n = if is_fault then counted (n + 1) else n

-- it is another fault than that of the device
abbrev pub IsNotFailed : StoreFault → Type 0
IsNotFailed fault = fault ≡ Failed → ⊥

-- ---- what a crash leaves of a store, where it may leave these tables

module _ {S T : Type 0} (may_leave : S → T → Type 0) where
  -- nothing that it could not leave before
  abbrev pub LeavesNoMore : S → S → Type 0
  LeavesNoMore old new = (left : T) → may_leave new left → may_leave old left

  -- nothing that it could not leave before, but for what the call makes
  abbrev pub LeavesNoneBut : S → S → (T → Type 0) → Type 0
  LeavesNoneBut old new Made = (left : T) → may_leave new left → may_leave old left ⊎ Made left

  -- this table alone
  abbrev pub LeavesAlone : S → T → Type 0
  LeavesAlone new table = (left : T) → may_leave new left → left ≡ table

-- the device fails once, in a call that says so, and every call says so from then on
pub record TellsFailure (old new : ℕ) (Failed : Type 0) : Type 0 where
  pub told : Failed ↔ (new ≡ 1)
  pub once : new ≤ 1
  pub stays : old ≤ new
