-- A store over a connection, as contracts see it.
use Rattle.std.specs.Prelude.{◌≡◌, ◌⊎◌, ℕ, ℤ, pos, ◌+◌, ◌+ℤ◌, Bool, true, false, if◌then◌else◌, List, Result, Err, IsTrue, IsErrOf, IfOk, IfErr, OnOk, OnErr, is_err, refl}
use Rattle.std.specs.Coded.{Coded, code_by, coded×, coded_ℕ, coded_ℤ, coded_bool, coded_list}
use Rattle.sqlite.specs.Store.{Ghosts}
use Rattle.sqlite.specs.Tree.{Trees}
use Rattle.sqlite.specs.Held.{Held, held_code, state}
use Rattle.sqlite.specs.State.{HasCleanDisk}
use Rattle.sqlite_trees.specs.View.{doubt}
use Rattle.txn_names.specs.declared.change.Change.{Change}
use Rattle.serial_spec.specs.Rows.{Rows, value_in}
use Rattle.serial_spec.specs.Serial.{Map}
use Rattle.durable_top.specs.declared.store.Row.{Row}
use Rattle.durable_top.specs.declared.store.StoreFault.{StoreFault}
use Rattle.durable_top.specs.declared.store.StoreFault.TheVariants.{Failed}
use Rattle.durable_top.specs.Numbered.{Numbered, values_of, numbers_of}
use Rattle.durable_top.specs.Numbers.{IsTopIn, renumbered}
use Rattle.durable_top.specs.Store.{faults_after}
use Rattle.sql_store.specs.Asked.{Loaded, Committed}
use Rattle.sql_store.specs.Calls.{IfClean, IfRefused, CommitsNothing, KeepsLimit, KeepsOpen, LeavesNoOtherTrees, SparesAtFault, SparesDatabase}
use Rattle.sql_store.specs.Faults.{HasFailed}
use Rattle.sql_store.specs.Refusals.{CannotLoad, CannotCommit}
use Rattle.sql_store.specs.Table.{map_of, table_of, IsMoved}

pub record Stored (S : Type 0) : Type 0 where
  pub connection : Held S
  -- the numbers that are kept in memory, and the greatest of them, 0 where there is none
  pub numbers : Rows
  pub top : ℤ
  pub faults : ℕ
  pub has_failed : Bool
  -- the tables of results stand alone in the database
  pub is_known : Bool

abbrev pub numbers_code : Coded Rows
numbers_code = coded_list (coded× (coded_list coded_ℕ) coded_ℤ)

abbrev pub stored_code : {S : Type 0} → Coded S → Coded (Stored S)
stored_code {S} store =
    code_by (Held S × (Rows × (ℤ × (ℕ × (Bool × Bool)))))
    (coded× (held_code store) (coded× numbers_code
    (coded× coded_ℤ (coded× coded_ℕ (coded× coded_bool coded_bool)))))
    (λ s. (s.connection, (s.numbers, (s.top, (s.faults, (s.has_failed, s.is_known))))))
    (λ p. record {
      connection = p.0;
      numbers = p.1.0;
      top = p.1.1.0;
      faults = p.1.1.1.0;
      has_failed = p.1.1.1.1.0;
      is_known = p.1.1.1.1.1;
    })
    (λ _. refl)

module _ {S : Type 0} (g : Ghosts S) where
  -- what the last commit left: what each key has, and its value alone
  abbrev pub numbered : Held S → Numbered
  numbered h = table_of (state g h).committed

  abbrev pub table : Held S → Map
  table h = values_of (numbered h)

  abbrev pub may_leave_numbered : Held S → Numbered → Type 0
  may_leave_numbered h left =
      (trees : Trees) × (state g h).may_leave trees × (left ≡ map_of (trees 2))

  abbrev pub may_leave : Held S → Map → Type 0
  may_leave h left =
      (trees : Trees) × (state g h).may_leave trees × (left ≡ values_of (map_of (trees 2)))

  -- this holds of a known database while it is open, as long as the disk returns what was written
  abbrev pub WhileOpen : Bool → Held S → Type 0 → Type 0
  WhileOpen known h P = IsTrue known → HasCleanDisk (state g h) → IsTrue (state g h).is_open → P

  -- it has the tables then, and the old one has no rows
  abbrev pub IsKept : Bool → Held S → Type 0
  IsKept known h = WhileOpen known h (IsMoved (state g h).committed)

  -- and these are its numbers
  abbrev pub IsCounted : Bool → Map → Held S → Type 0
  IsCounted known numbers h = WhileOpen known h (numbers ≡ numbers_of (numbered h))

  -- this holds of a call on a database that was kept so, as long as the disk returns what was
  -- written
  abbrev pub IfKept : Held S → Held S → Type 0 → Type 0
  IfKept old new P = HasCleanDisk (state g new) → IsKept true old → P

  -- the same where these were its numbers
  abbrev pub IfCounted : Map → Held S → Held S → Type 0 → Type 0
  IfCounted numbers old new P = IfKept old new (IsCounted true numbers old → P)

  -- ---- the table behind a call, and what a crash leaves of it

  -- the table is as it was
  abbrev pub KeepsTable : Held S → Held S → Type 0
  KeepsTable old new = numbered new ≡ numbered old

  -- the table is as it was unless the fault is Failed
  abbrev pub KeepsTableAt : Held S → Held S → StoreFault → Type 0
  KeepsTableAt old new fault = (fault ≡ Failed → ⊥) → KeepsTable old new

  -- a crash leaves no table that it could not leave before
  abbrev pub LeavesNoOther : Held S → Held S → Type 0
  LeavesNoOther old new =
      (left : Numbered) → may_leave_numbered new left → may_leave_numbered old left

  -- a crash leaves a table that it could leave before, or one that the call makes
  abbrev pub LeavesOnly : (Numbered → Type 0) → Held S → Held S → Type 0
  LeavesOnly Makes old new =
      (left : Numbered) → may_leave_numbered new left → may_leave_numbered old left ⊎ Makes left

  -- a crash leaves the table as it is
  abbrev pub LeavesItself : Held S → Type 0
  LeavesItself h = (left : Numbered) → may_leave_numbered h left → left ≡ numbered h

  -- ---- what comes of a connection that is to be a store

  -- this holds of the connection of the store that came of it, and of whether its database is known
  abbrev pub IfAdopted : {E : Type 0} → Result (Stored S) E → (Held S → Bool → Type 0) → Type 0
  IfAdopted result P =
      IfOk result (λ s. HasCleanDisk (state g s.connection) → P s.connection s.is_known)

  -- this holds of the fault, and of the connection that came back beside it
  abbrev pub IfLeft : {T : Type 0} → Result T (StoreFault × Held S)
      → (StoreFault → Held S → Type 0) → Type 0
  IfLeft result P = IfErr result (λ left. HasCleanDisk (state g left.1) → P left.0 left.1)

  -- 0 while the database is known and the disk has returned what was written
  abbrev pub doubt_of : Stored S → ℕ
  doubt_of s = doubt (state g s.connection).is_clean + (if s.is_known then 0 else 1)

  -- this holds of a call on a store that had not failed, as long as the disk returns what was
  -- written
  abbrev pub IfSound : Stored S → Stored S → Type 0 → Type 0
  IfSound old new P = HasCleanDisk (state g new.connection) → old.has_failed ≡ false → P

  -- a store that has failed is not asked
  pub record SqlLoads (old new : Stored S) (result : Result (List Row) StoreFault) : Type 0 where
    pub failed : old.has_failed ≡ true → (result ≡ Err Failed) × (new ≡ old)
    pub faults : new.faults ≡ old.faults
    pub known : new.is_known ≡ old.is_known
    pub numbers : new.numbers ≡ old.numbers
    pub top : new.top ≡ old.top
    pub cause : IfSound old new (IsErrOf result Failed → HasFailed g old.connection new.connection)
    -- what was read, of a database that is not known too
    pub asked : IfClean g new.connection (IfOk result (Loaded g old.connection new.connection))
    -- whatever was answered, nothing was written
    pub kept : IfClean g new.connection (SparesDatabase g old.connection new.connection)
    -- and a crash leaves nothing that it could not leave before
    pub crash : IfClean g new.connection (LeavesNoOtherTrees g old.connection new.connection)
    -- whichever the fault is but Failed, more statements can be run, of as many steps as before
    pub stays_open : KeepsOpen g old.connection new.connection result
    pub limit : KeepsLimit g old.connection new.connection
    pub refused : IfRefused g new.connection result (CannotLoad g old.connection new.connection)

  pub record SqlCommits (old new : Stored S) (changes : List Change)
      (result : Result (Unit {0}) StoreFault) : Type 0 where
    pub failed : old.has_failed ≡ true → (result ≡ Err Failed) × (new.connection ≡ old.connection)
    pub faults : new.faults ≡ faults_after (is_err result) old.faults
    pub known : new.is_known ≡ old.is_known
    pub cause : IfSound old new (IsErrOf result Failed → HasFailed g old.connection new.connection)
    -- the changes were made under the number above the greatest in memory, and the numbers there
    -- are what they make of them; at a fault they are as before
    pub numbers : OnOk result
        (value_in new.numbers ≡ renumbered (old.top +ℤ pos 1) changes (value_in old.numbers))
    pub stays : OnErr result ((new.numbers ≡ old.numbers) × (new.top ≡ old.top))
    pub greatest : IsTopIn (value_in new.numbers) new.top
    -- what was committed, to a database that is not known too
    pub asked : IfClean g new.connection
        (OnOk result (Committed g (old.top +ℤ pos 1) changes old.connection new.connection))
    pub refused : IfRefused g new.connection result
        (CannotCommit g old.top changes old.connection new.connection)
    -- whichever the fault is, nothing was committed
    pub kept : IfClean g new.connection
        (OnErr result (CommitsNothing g old.connection new.connection))
    -- and no transaction was left open
    pub spared : SparesAtFault g old.connection new.connection result
    -- whichever it is but Failed, more statements can be run, of as many steps as before
    pub stays_open : KeepsOpen g old.connection new.connection result
    pub limit : KeepsLimit g old.connection new.connection
