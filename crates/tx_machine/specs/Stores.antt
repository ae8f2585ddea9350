-- The store of a command: over the database that is named, or else in memory.
use Rattle.std.specs.Prelude.{◌≡◌, ℕ, List, Option, Some, None, Ok, Err}
use Rattle.txn_bytes.specs.Written.{Writer}
use Rattle.durable_top.specs.declared.store.StoreFault.{StoreFault}
use Rattle.durable_top.specs.declared.store.TopStore.{Ghosts}
use Rattle.program_words.specs.Faults.{IsSaid, spelled_fault}
use Rattle.program_words.specs.declared.fault.Fault.TheVariants.{CannotOpen, NoMemory}
use Rattle.tx_machine.specs.Sides.{database_left}
use Rattle.tx_machine.specs.declared.host.Surroundings as surroundings
use Rattle.tx_machine.specs.declared.store.EitherStore.{EitherStore}
use Rattle.tx_machine.specs.declared.store.EitherStore.TheVariants as sides

-- a store without rows
abbrev pub HasNoRows : {S : Type 0} → Ghosts S → S → Type 0
HasNoRows g store = (k : List ℕ) → g.table store k ≡ None

module _ {H T P N : Type 0} (h : surroundings.Ghosts H T P N) (host_old host_new : H) where
  -- the store of the database that is named was opened; or else one without rows was made, and
  -- nothing was asked of the surroundings for it
  abbrev pub IsOpened : Ghosts N → Option (List ℕ) → EitherStore N P → Type 0
  IsOpened m None (sides.Memory store) = HasNoRows m store × (host_new ≡ host_old)
  IsOpened m None (sides.Database store) = ⊥
  IsOpened m (Some path) (sides.Memory store) = ⊥
  IsOpened m (Some path) (sides.Database store) = h.opens host_old host_new path (Ok store)

  -- the database that is named was closed with what was left of its store; or else that was let
  -- go, and nothing was asked
  abbrev pub IsClosed : Option (List ℕ) → Option (EitherStore N P) → Type 0
  IsClosed None left = host_new ≡ host_old
  IsClosed (Some path) left = h.closes host_old host_new path (database_left left)

  -- the database at this path was not opened, and the error writer got the line of that
  pub record IsRefused {E : Type 0} (e : Writer E) (err_old err_new : E)
      (path : List ℕ) : Type 0 where
    pub fault : StoreFault
    pub refused : h.opens host_old host_new path (Err fault)
    pub said : IsSaid e err_old err_new (spelled_fault CannotOpen)

  -- The database that is named was not opened; or else there was no memory for a store, nothing
  -- was asked, and the error writer got the line of that
  abbrev pub IsStoreless : {E : Type 0} → Writer E → E → E → Option (List ℕ) → Type 0
  IsStoreless e err_old err_new None =
      (host_new ≡ host_old) × IsSaid e err_old err_new (spelled_fault NoMemory)
  IsStoreless e err_old err_new (Some path) = IsRefused e err_old err_new path

-- a store was opened and used, and closed with what was left of it
pub record HasUsed {H T P N : Type 0} (h : surroundings.Ghosts H T P N) (m : Ghosts N)
    (host_old host_new : H) (database : Option (List ℕ))
    (IsUsed : EitherStore N P → Option (EitherStore N P) → Type 0) : Type 0 where
  pub between : H
  pub store : EitherStore N P
  pub opened : IsOpened h host_old between m database store
  pub left : Option (EitherStore N P)
  pub closed : IsClosed h between host_new database left
  pub used : IsUsed store left
