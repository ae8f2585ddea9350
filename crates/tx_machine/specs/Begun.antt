-- What a run of a text begins with: the text of a file, and a store.
use Rattle.std.specs.Prelude.{◌⊎◌, ℕ, List, ◌++◌, Option, codes}
use Rattle.txn_bytes.specs.Written.{Writer}
use Rattle.line_language.specs.Report.{line}
use Rattle.durable_top.specs.declared.store.TopStore.{Ghosts}
use Rattle.txn_bytes.specs.Sources.{Reader}
use Rattle.program_words.specs.Faults.{IsSaid, spelled_fault}
use Rattle.program_words.specs.declared.fault.Fault.TheVariants as faults
use Rattle.tx_machine.specs.Stores.{IsOpened, IsStoreless}
use Rattle.tx_machine.specs.Texts.{HasFile, HasUnfoundCause, IsWholeText}
use Rattle.tx_machine.specs.declared.host.Surroundings as surroundings
use Rattle.tx_machine.specs.declared.store.EitherStore.{EitherStore}
use Rattle.tx_machine.specs.declared.reading.TextFault.TheVariants.{NoMemory, Unread}

-- the text of this file was read, and then a store was opened
pub record IsBegun {H T P N : Type 0} (h : surroundings.Ghosts H T P N) (r : Reader T)
    (m : Ghosts N) (host_old host_new : H) (file : List ℕ) (database : Option (List ℕ))
    (text : List ℕ) (store : EitherStore N P) : Type 0 where
  pub found : H
  pub read : HasFile h host_old found file (λ old new. IsWholeText r old new text)
  pub opened : IsOpened h found host_new m database store

module _ {H T P N E : Type 0} (h : surroundings.Ghosts H T P N) (r : Reader T) (e : Writer E)
    (host_old host_new : H) (err_old err_new : E) (file : List ℕ) where
  -- there is no text from this file
  pub record IsUnreadFile : Type 0 where
    pub cause : HasUnfoundCause h r host_old host_new file Unread
    pub said : IsSaid e err_old err_new (line (codes "tx: cannot read " ++ file))

  -- memory ran out while this file was read
  pub record IsStarved : Type 0 where
    pub cause : HasUnfoundCause h r host_old host_new file NoMemory
    pub said : IsSaid e err_old err_new (spelled_fault faults.NoMemory)

  -- the text of this file was read, and there is no store
  pub record IsUnopened (database : Option (List ℕ)) : Type 0 where
    pub text : List ℕ
    pub found : H
    pub read : HasFile h host_old found file (λ old new. IsWholeText r old new text)
    pub storeless : IsStoreless h found host_new e err_old err_new database

  -- a file that is not there to be read, a store that is not there, or no memory
  abbrev pub HasNotBegun : Option (List ℕ) → Type 0
  HasNotBegun database = IsUnreadFile ⊎ (IsStarved ⊎ IsUnopened database)
