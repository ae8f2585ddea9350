-- What is said of a call on a connection: what it changed, what a crash leaves, and why it failed.
use Rattle.std.specs.Prelude.{◌≡◌, ◌≤◌, ℕ, ℤ, false, List, Option, Result, IfOk, IfErr, OnErr, OnOk, IsErrOf, IsTrue}
use Rattle.sqlite_trees.specs.View.{doubt}
use Rattle.sqlite.specs.declared.error.Error.{Error}
use Rattle.sqlite.specs.Effect.{Database}
use Rattle.sqlite.specs.Held.{Held, state}
use Rattle.sqlite.specs.Order.{Row as Values}
use Rattle.sqlite.specs.Schema.{Schema}
use Rattle.sqlite.specs.State.{HasCleanDisk, Survives, KeepsCommit, IsUnchanged}
use Rattle.sqlite.specs.Store.{Ghosts}
use Rattle.sqlite.specs.Tree.{Trees}
use Rattle.durable_top.specs.declared.store.StoreFault.{StoreFault}
use Rattle.durable_top.specs.declared.store.StoreFault.TheVariants.{Refused, Failed}
use Rattle.sql_store.specs.Faults.{fault_of, IsCaused, IsMeant, IsRefusal, HasFailed}
use Rattle.sql_store.specs.Inside.{GoesOn}
use Rattle.sql_store.specs.Kept.{IsSettled, Spares}
use Rattle.sql_store.specs.Results.{both_schema}
use Rattle.sql_store.specs.Table.{AreApart, IsKnown, IsReady, Makes}

-- this holds unless the call answered Failed
abbrev pub UnlessFailed : {T : Type 0} → Result T StoreFault → Type 0 → Type 0
UnlessFailed result P = (IsErrOf result Failed → ⊥) → P

-- an error that stands for a refusal has this reason
abbrev pub ErrorHasReason : {S : Type 0} → (Held S → Type 0) → Held S → Held S → Error → Type 0
ErrorHasReason Why old new e = IsRefusal (fault_of e) → Why old

module _ {S : Type 0} (g : Ghosts S) where
  -- the database, as the connection sees it
  abbrev pub database : Held S → Database
  database h = (state g h).now

  -- the rows that it sees in the old table, and in the new one
  abbrev pub old_tree : Held S → List Values
  old_tree h = (state g h).now.trees 0

  abbrev pub new_tree : Held S → List Values
  new_tree h = (state g h).now.trees 2

  -- a transaction is under way
  abbrev pub IsInside : Held S → Type 0
  IsInside h = IsTrue (state g h).in_transaction

  -- none is
  abbrev pub IsOutside : Held S → Type 0
  IsOutside h = (state g h).in_transaction ≡ false

  -- while the connection is open, all that it sees is committed
  abbrev pub SeesCommitted : Held S → Type 0
  SeesCommitted h = IsTrue (state g h).is_open → (state g h).now ≡ (state g h).committed

  -- ---- when something is said

  -- this holds as long as the disk has returned what was written
  abbrev pub IfClean : Held S → Type 0 → Type 0
  IfClean new P = HasCleanDisk (state g new) → P

  -- the same of a call that was made in a transaction
  abbrev pub IfInside : Held S → Held S → Type 0 → Type 0
  IfInside old new P = HasCleanDisk (state g new) → IsTrue (state g old).in_transaction → P

  -- the same of a database of these tables alone
  abbrev pub IfSchema : Schema → Held S → Held S → Type 0 → Type 0
  IfSchema schema old new P = HasCleanDisk (state g new) → (state g old).now.schema ≡ schema → P

  -- the same of a database of the two tables alone
  abbrev pub IfBoth : Held S → Held S → Type 0 → Type 0
  IfBoth old new P = IfSchema both_schema old new P

  -- the same of a connection that has the two tables alone while it is open
  abbrev pub IfKnown : Held S → Held S → Type 0 → Type 0
  IfKnown old new P = HasCleanDisk (state g new) → IsKnown (state g old) → P

  -- ---- what a call in a transaction did, and what it made of the database

  -- the transaction is under way behind it too, and the connection was open
  abbrev pub StaysInside : Held S → Held S → Type 0
  StaysInside old new = IsInside new × IsTrue (state g old).is_open

  -- the call did this and was answered so
  abbrev pub RunsInside : {T E : Type 0} → (Held S → Held S → Result T E → Type 0)
      → Held S → Held S → Result T E → Type 0
  RunsInside Did old new result = IfInside old new (Did old new result)

  -- it did this, whatever it was answered
  abbrev pub TriesInside : (Held S → Held S → Type 0) → Held S → Held S → Type 0
  TriesInside Did old new = IfInside old new (Did old new)

  -- one that succeeds did this
  abbrev pub SucceedsBy : {T E : Type 0} → (Held S → Held S → Type 0)
      → Held S → Held S → Result T E → Type 0
  SucceedsBy Did old new result = IfInside old new (OnOk result (Did old new))

  -- the same of what it answered
  abbrev pub SucceedsWith : {T E : Type 0} → Held S → Held S → Result T E
      → (T → Held S → Held S → Type 0) → Type 0
  SucceedsWith old new result Did = IfInside old new (IfOk result (λ v. Did v old new))

  -- one that fails gave its error so
  abbrev pub FailsBy : {T : Type 0} → (Held S → Held S → Error → Type 0)
      → Held S → Held S → Result T Error → Type 0
  FailsBy Gave old new result = IfInside old new (IfErr result (Gave old new))

  -- one that succeeds gives the key this value and number, or takes it away
  abbrev pub MakesEntry : {T E : Type 0} → List ℕ → Option (ℤ × ℤ)
      → Held S → Held S → Result T E → Type 0
  MakesEntry key entry old new result =
      IfInside old new (OnOk result (Makes key entry (state g old) (state g new)))

  -- one that succeeds leaves the database so
  abbrev pub ChangesDatabase : {T E : Type 0} → (Database → Database → Type 0)
      → Held S → Held S → Result T E → Type 0
  ChangesDatabase R old new result =
      IfInside old new (OnOk result (R (database old) (database new)))

  -- the same of what it answered
  abbrev pub ChangesWith : {T E : Type 0} → Held S → Held S → Result T E
      → (T → Database → Database → Type 0) → Type 0
  ChangesWith old new result R =
      IfInside old new (IfOk result (λ v. R v (database old) (database new)))

  -- the same of a database of these tables alone
  abbrev pub ChangesOf : {T E : Type 0} → Schema → (Database → Database → Type 0)
      → Held S → Held S → Result T E → Type 0
  ChangesOf schema R old new result =
      IfInside old new
      (OnOk result ((database old).schema ≡ schema → R (database old) (database new)))

  -- the same of a database that is ready
  abbrev pub ChangesReady : {T E : Type 0} → (Database → Database → Type 0)
      → Held S → Held S → Result T E → Type 0
  ChangesReady R old new result =
      IfInside old new (IsReady (database old) → OnOk result (R (database old) (database new)))

  -- and in whose old table no rowid comes twice
  abbrev pub ChangesApart : {T E : Type 0} → (Database → Database → Type 0)
      → Held S → Held S → Result T E → Type 0
  ChangesApart R old new result =
      IfInside old new
      (IsReady (database old) → AreApart (old_tree old)
      → OnOk result (R (database old) (database new)))

  -- ---- what a call tells, as long as the disk returns what was written

  -- one that succeeds read this
  abbrev pub Reads : {T E : Type 0} → Held S → Held S → Result T E
      → (Held S → Held S → T → Type 0) → Type 0
  Reads old new result Did = IfClean new (IfOk result (Did old new))

  -- one that succeeds tells this of a database of these tables alone
  abbrev pub TellsOf : {T E : Type 0} → Schema → Held S → Held S → Result T E
      → (Database → T → Type 0) → Type 0
  TellsOf schema old new result P = IfSchema schema old new (IfOk result (P (database old)))

  -- of the two tables
  abbrev pub TellsOfBoth : {T E : Type 0} → Held S → Held S → Result T E
      → (Database → T → Type 0) → Type 0
  TellsOfBoth old new result P = TellsOf both_schema old new result P

  -- ---- what a call changed

  -- the connection is as it was
  abbrev pub ChangesNothing : Held S → Held S → Type 0
  ChangesNothing old new = IsUnchanged (state g old) (state g new)

  -- what was committed is as it was
  abbrev pub CommitsNothing : Held S → Held S → Type 0
  CommitsNothing old new = KeepsCommit (state g old) (state g new)

  -- while the connection is open, the database is as it was, and so is what was committed
  abbrev pub SparesDatabase : Held S → Held S → Type 0
  SparesDatabase old new = Spares (state g old) (state g new)

  -- the same of a call outside a transaction, as long as the disk returns what was written
  abbrev pub SparesSettled : Held S → Held S → Type 0
  SparesSettled old new =
      HasCleanDisk (state g new) → IsSettled (state g old) → Spares (state g old) (state g new)

  -- the same of a call that fails
  abbrev pub SparesAtFault : {T E : Type 0} → Held S → Held S → Result T E → Type 0
  SparesAtFault old new result =
      HasCleanDisk (state g new) → IsSettled (state g old)
      → OnErr result (Spares (state g old) (state g new))

  -- the transaction goes on, as long as the disk returns what was written
  abbrev pub Continues : Held S → Held S → Type 0
  Continues old new = GoesOn (state g old) (state g new)

  -- a call that succeeds leaves the connection as it was, as long as the disk returns what was
  -- written
  abbrev pub OnlyReads : {T E : Type 0} → Held S → Held S → Result T E → Type 0
  OnlyReads old new result =
      HasCleanDisk (state g new) → OnOk result (IsUnchanged (state g old) (state g new))

  -- the connection is open unless the fault is Failed
  abbrev pub StaysOpen : StoreFault → Held S → Type 0
  StaysOpen fault new = (fault ≡ Failed → ⊥) → IsTrue (state g new).is_open

  -- a call on an open connection leaves it open, unless it answers Failed
  abbrev pub KeepsOpen : {T : Type 0} → Held S → Held S → Result T StoreFault → Type 0
  KeepsOpen old new result =
      HasCleanDisk (state g new) → IsTrue (state g old).is_open
      → IfErr result (λ fault. StaysOpen fault new)

  -- how many steps a statement may take is as it was
  abbrev pub KeepsLimit : Held S → Held S → Type 0
  KeepsLimit old new = (state g new).step_limit ≡ (state g old).step_limit

  -- ---- what a crash leaves

  -- a disk that has once returned something else is never trusted again
  abbrev pub KeepsDoubt : Held S → Held S → Type 0
  KeepsDoubt old new = doubt (state g old).is_clean ≤ doubt (state g new).is_clean

  -- a crash leaves nothing that it could not leave before, and no fault of the device is forgotten
  abbrev pub SurvivesAsBefore : Held S → Held S → Type 0
  SurvivesAsBefore old new = Survives (state g old) (state g new) (λ _. ⊥)

  -- a crash leaves no database that it could not leave before
  abbrev pub LeavesNoOtherTrees : Held S → Held S → Type 0
  LeavesNoOtherTrees old new =
      (db : Trees) → (state g new).may_leave db → (state g old).may_leave db

  -- ---- why a call failed, as long as the disk returns what was written

  -- an error that stands for a failure of the device has one as its cause
  abbrev pub ErrorHasCause : {T : Type 0} → Held S → Held S → Result T Error → Type 0
  ErrorHasCause old new result =
      HasCleanDisk (state g new) → IfErr result (IsCaused (state g old) (state g new))

  -- the same of an error that a call in a transaction gives
  abbrev pub ErrorInsideHasCause : {T : Type 0} → Held S → Held S → Result T Error → Type 0
  ErrorInsideHasCause old new result =
      IfInside old new (IfErr result (IsCaused (state g old) (state g new)))

  -- the same of a fault that a call in a transaction answers
  abbrev pub FaultHasCause : {T : Type 0} → Held S → Held S → Result T StoreFault → Type 0
  FaultHasCause old new result =
      IfInside old new (IfErr result (IsMeant (state g old) (state g new)))

  -- Failed is answered only where the device has failed, or memory ran out in the asking
  abbrev pub FailedHasCause : {T : Type 0} → Held S → Held S → Result T StoreFault → Type 0
  FailedHasCause old new result =
      HasCleanDisk (state g new) → IsErrOf result Failed → HasFailed g old new

  -- Refused is answered in a transaction only for this reason
  abbrev pub RefusesFor : {T : Type 0} → (Held S → Type 0)
      → Held S → Held S → Result T StoreFault → Type 0
  RefusesFor Why old new result = IfInside old new (IsErrOf result Refused → Why old)

  -- an error that stands for a refusal has this reason
  abbrev pub IfErrorRefuses : {T : Type 0} → Held S → Result T Error → (Error → Type 0) → Type 0
  IfErrorRefuses new result Why =
      HasCleanDisk (state g new) → IfErr result (λ e. IsRefusal (fault_of e) → Why e)

  -- Refused is answered only for this reason
  abbrev pub IfRefused : {T : Type 0} → Held S → Result T StoreFault → Type 0 → Type 0
  IfRefused new result Why = HasCleanDisk (state g new) → IsErrOf result Refused → Why
