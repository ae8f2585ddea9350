-- A run of a file's text, from its steps.
use Rattle.std.proofs.Common.{◌≡◌, ℕ, List, Option, sym, subst}
use Rattle.tx_machine.specs.Begun.{IsBegun}
use Rattle.tx_machine.specs.Runs.{HasRun}
use Rattle.tx_machine.specs.Stores.{IsClosed}
use Rattle.tx_machine.specs.Texts.{HasFile, IsWholeText}
use Rattle.tx_machine.specs.Worlds.{State, World}
use Rattle.tx_machine.specs.declared.store.EitherStore.{EitherStore}

-- it was begun with a text and a store, ended so, and the store was closed
pub ran : {H T P N W E : Type 0} (o : World H T P N W E) (before after : State H W E) (between : H)
    (file : List ℕ) (database : Option (List ℕ)) (HasEnded : List ℕ → EitherStore N P → Option (EitherStore N P) → Type 0)
    (text given : List ℕ) (store : EitherStore N P) (left : Option (EitherStore N P))
    → text ≡ given
    → IsBegun o.host o.file o.memory before.host between file database given store
    → IsClosed o.host between after.host database left → HasEnded text store left
    → HasRun o before after file database HasEnded
ran o before after between file database HasEnded text given store left same begun closed ended = record {
  text = text;
  found = begun.found;
  read = subst
      (λ (t : List ℕ). HasFile o.host before.host begun.found file
      (λ old new. IsWholeText o.file old new t)) (sym same) begun.read;
  run = record {
    between = between;
    store = store;
    opened = begun.opened;
    left = left;
    closed = closed;
    used = ended;
  };
}
