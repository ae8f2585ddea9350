-- What the type of a book keeps.
use Rattle.std.specs.Prelude.{◌≡◌, ℕ, List}
use Rattle.serial_spec.specs.Interleaving.{Session}
use Rattle.txn_history.specs.Turns.{IsUnderWay}
use Rattle.interleavings.specs.Turning.{Turning}

pub record IsBook {S : Type 0} (t : Turning S) (ss : List Session) (counted : ℕ) : Type 0 where
  -- the history is legal and quiet, and takes the sessions' lines in turn
  pub way : IsUnderWay t.core.rows t.sessions t.core.history
  -- the sessions and the store's count of faults that it was opened with
  pub sessions : t.sessions ≡ ss
  pub faults : t.core.opened.faults ≡ counted
