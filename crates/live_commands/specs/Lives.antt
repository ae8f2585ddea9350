-- What the exit status of a live run says of its input, of its output, of its store and of the
-- error writer.
use Rattle.std.specs.Prelude.{◌≡◌, ◌⊎◌, ℕ, List, Option, IsSomeAnd}
use Rattle.std.specs.Borrow.{Bor}
use Rattle.std.specs.Option.{option_copied}
use Rattle.txn_bytes.specs.Sources.{Reader}
use Rattle.live_runs.specs.Living.{IsLived, IsUnlived}
use Rattle.tx_machine.specs.Stores.{HasUsed, IsStoreless}
use Rattle.tx_machine.specs.Worlds.{State, World}
use Rattle.tx_machine.specs.declared.store.EitherStore.{EitherStore}

module _ {H T P N I W E : Type 0} (o : World H T P N W E) (r : Reader I)
    (before after : State H W E) (in_old in_new : I) where
  -- it ended with a whole report, and a store is left
  abbrev pub IsLivedOver : EitherStore N P → Option (EitherStore N P) → Type 0
  IsLivedOver store left = IsSomeAnd left
      (λ back. IsLived r o.store o.out o.err store in_old in_new before.out after.out
      before.err after.err back)

  -- it ended by a fault. The store is left, unless the fault is that it was not opened
  abbrev pub IsBrokenLive : EitherStore N P → Option (EitherStore N P) → Type 0
  IsBrokenLive store left = IsUnlived r o.store o.out o.err store in_old in_new
      before.out after.out before.err after.err left

  -- there is no store, and nothing was read or written
  pub record IsUnbegunLive (database : Option (List ℕ)) : Type 0 where
    pub unread : in_new ≡ in_old
    pub unwritten : after.out ≡ before.out
    pub storeless : IsStoreless o.host before.host after.host o.err before.err after.err database

  -- a whole live run, over the database that is named, or else over a store without rows
  abbrev pub Lives : Option (Bor (List ℕ)) → Type 0
  Lives database =
      HasUsed o.host o.memory before.host after.host (option_copied database) IsLivedOver

  -- it broke, or it was not begun
  abbrev pub LivesNot : Option (Bor (List ℕ)) → Type 0
  LivesNot database =
      HasUsed o.host o.memory before.host after.host (option_copied database) IsBrokenLive
      ⊎ IsUnbegunLive (option_copied database)
