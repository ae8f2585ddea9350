-- What comes of printing the rows of a store.
use Rattle.std.specs.Prelude.{◌≡◌, ◌⊎◌, ℕ, List, Ok, Err}
use Rattle.txn_bytes.specs.Written.{Writer}
use Rattle.serial_spec.specs.Rows.{IsRising}
use Rattle.durable_top.specs.Store.{plain}
use Rattle.durable_top.specs.declared.store.Row.{Row}
use Rattle.durable_top.specs.declared.store.StoreFault.{StoreFault}
use Rattle.durable_top.specs.declared.store.TopStore.{Ghosts}
use Rattle.report_text.specs.Rows.{numbered_rows}
use Rattle.program_words.specs.Faults.{IsSaid, spelled_fault}
use Rattle.program_words.specs.Tellings.{IsGiven, IsUngiven}
use Rattle.program_words.specs.declared.fault.Fault.TheVariants.{CannotOpen}

-- asked once, the store gave these rows, in byte order of their keys
pub record HasLoaded {S : Type 0} (g : Ghosts S) (store_old store_new : S)
    (IsUsed : List Row → Type 0) : Type 0 where
  pub rows : List Row
  pub loaded : g.loads store_old store_new (Ok rows)
  pub rising : IsRising (plain rows)
  pub used : IsUsed rows

module _ {S W E : Type 0} (g : Ghosts S) (w : Writer W) (e : Writer E) where
  -- it gave none, nothing was asked of the output, and the error writer got the line of that
  pub record IsUnloaded (store_old store_new : S) (old new : W)
      (err_old err_new : E) : Type 0 where
    pub fault : StoreFault
    pub refused : g.loads store_old store_new (Err fault)
    pub same : new ≡ old
    pub said : IsSaid e err_old err_new (spelled_fault CannotOpen)

  -- the output got the lines of the rows that the store gave
  abbrev pub IsListed : S → S → W → W → E → E → Type 0
  IsListed store_old store_new old new err_old err_new =
      HasLoaded g store_old store_new
      (λ rows. IsGiven w e old new err_old err_new (numbered_rows rows))

  -- it did not get all of them, or did not pass them on; or the store gave none
  abbrev pub IsUnlisted : S → S → W → W → E → E → Type 0
  IsUnlisted store_old store_new old new err_old err_new =
      HasLoaded g store_old store_new
      (λ rows. IsUngiven w e old new err_old err_new (numbered_rows rows))
      ⊎ IsUnloaded store_old store_new old new err_old err_new
