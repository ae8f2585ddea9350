-- A store in memory as contracts see it, and what its calls do.
use Rattle.std.specs.Prelude.{◌≡◌, ℕ, ◌-◌, Bool, true, false, ◌||◌, nat_eq, if◌then◌else◌, List, [], Option, Some, None, Result, Err, IfSome, IfOk, IfErr, IsOk, OnOk, OnErr, is_err}
use Rattle.txn_names.specs.declared.change.Change.{Change}
use Rattle.serial_spec.specs.Changes.{overlay}
use Rattle.serial_spec.specs.Rows.{value_in}
use Rattle.durable_top.specs.declared.store.Row.{Row}
use Rattle.durable_top.specs.declared.store.StoreFault.{StoreFault}
use Rattle.durable_top.specs.declared.store.StoreFault.TheVariants as fault
use Rattle.durable_top.specs.Store.{plain, faults_after}
use Rattle.durable_top.specs.Numbered.{Commits, IsFull, entries_in}

pub record Memory : Type 0 where
  pub rows : List Row
  -- how many commits were answered a fault
  pub faults : ℕ
  -- which commit from now on is refused and at which the device fails: 1 is the next, 0 is none
  pub refuses_in : ℕ
  pub fails_in : ℕ
  pub has_failed : Bool

-- a store of rows of which nothing was asked yet
abbrev pub fresh : List Row → ℕ → ℕ → Memory
fresh rows refused failed =
    record { rows = rows; faults = 0; refuses_in = refused; fails_in = failed; has_failed = false }

-- whether the device has failed once the next commit is answered
abbrev pub fails_now : Memory → Bool
fails_now m = m.has_failed || nat_eq m.fails_in 1

-- the fault that is planned for the next commit
abbrev pub planned : Memory → Option StoreFault
planned m = if fails_now m then Some fault.Failed else if nat_eq m.refuses_in 1
    then Some fault.Refused else None

-- a failed device gives no rows; else they are the rows that it has, unless memory runs out, which
-- it does not where there are none
pub record MemoryLoads (old new : Memory) (result : Result (List Row) StoreFault) : Type 0 where
  pub failed : old.has_failed ≡ true → result ≡ Err fault.Failed
  pub memory : old.has_failed ≡ false → IfErr result (λ f. f ≡ fault.Memory)
  pub rows : IfOk result (λ rows. rows ≡ old.rows)
  pub none : old.has_failed ≡ false → old.rows ≡ [] → IsOk result
  pub kept : new ≡ old

-- A planned fault comes first, then Refused where no number is left, and no other but for memory.
-- Where nothing is to be changed none comes but a planned one. The changes are made, or the rows
-- are as before.
pub record MemoryCommits (old new : Memory) (changes : List Change)
    (result : Result (Unit {0}) StoreFault) : Type 0 where
  pub due : IfSome (planned old) (λ f. result ≡ Err f)
  pub full : planned old ≡ None → IsFull changes (entries_in old.rows) → result ≡ Err fault.Refused
  pub memory : planned old ≡ None → (IsFull changes (entries_in old.rows) → ⊥)
      → IfErr result (λ f. f ≡ fault.Memory)
  pub none : planned old ≡ None → changes ≡ [] → IsOk result
  pub ok : OnOk result (value_in (plain new.rows) ≡ overlay changes (value_in (plain old.rows)))
  pub numbers : OnOk result (Commits changes (entries_in old.rows) (entries_in new.rows))
  pub err : OnErr result (new.rows ≡ old.rows)
  pub faults : new.faults ≡ faults_after (is_err result) old.faults
  pub refuses_in : new.refuses_in ≡ old.refuses_in - 1
  pub fails_in : new.fails_in ≡ old.fails_in - 1
  pub has_failed : new.has_failed ≡ fails_now old
