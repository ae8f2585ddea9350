-- What a run of a file's text has asked of the machine.
use Rattle.std.specs.Prelude.{◌≡◌, ℕ, List, Option}
use Rattle.tx_machine.specs.Stores.{HasUsed}
use Rattle.tx_machine.specs.Texts.{HasFile, IsWholeText}
use Rattle.tx_machine.specs.Worlds.{State, World}
use Rattle.tx_machine.specs.declared.store.EitherStore.{EitherStore}

-- nothing was asked of it, and this is why
pub record IsUntouched {W : Type 0} (old new : W) (HasCause : Type 0) : Type 0 where
  pub same : new ≡ old
  pub cause : HasCause

module _ {H T P N W E : Type 0} (o : World H T P N W E) (before after : State H W E) where
  -- the text of this file was run over a store, and has ended
  pub record HasRun (file : List ℕ) (database : Option (List ℕ))
      (HasEnded : List ℕ → EitherStore N P → Option (EitherStore N P) → Type 0) : Type 0 where
    pub text : List ℕ
    pub found : H
    pub read : HasFile o.host before.host found file
        (λ old new. IsWholeText o.file old new text)
    pub run : HasUsed o.host o.memory found after.host database (HasEnded text)
