-- What a call leaves as it was.
use Rattle.std.specs.Prelude.{◌≡◌, false, IsTrue}
use Rattle.sqlite.specs.State.{State}

-- no transaction is under way
abbrev pub IsSettled : State → Type 0
IsSettled s = (s.in_transaction ≡ false) × (IsTrue s.is_open → s.now ≡ s.committed)

-- while it is open, the database is as it was, and so is what was committed
pub record Spares (old new : State) : Type 0 where
  pub was_open : IsTrue new.is_open → IsTrue old.is_open
  pub now_is : IsTrue new.is_open → new.now ≡ old.now
  pub committed_is : IsTrue new.is_open → new.committed ≡ old.committed
  pub mode : new.in_transaction ≡ old.in_transaction
