-- What one attempt of a line does to the manager.
use Rattle.std.specs.Prelude.{◌≡◌, ◌⊎◌, List, ◌∷◌, None}
use Rattle.serial_spec.specs.declared.entry.By.{By}
use Rattle.serial_spec.specs.declared.event.Event.{Event}
use Rattle.serial_spec.specs.History.{Name}
use Rattle.serial_spec.specs.Allowed.{Allowed, answer}
use Rattle.serial_spec.specs.Interleaving.{AfterVictims}
use Rattle.durable_top.specs.declared.store.TopStore.{Ghosts}
use Rattle.manager_core.specs.declared.outcome.Outcome.{Outcome}
use Rattle.manager_core.specs.declared.outcome.Outcome.TheVariants.{Waits}
use Rattle.manager_core.specs.Outcomes.{answer_of}
use Rattle.manager_core.specs.State.{State, entry}
use Rattle.manager_core.specs.Asked.{IsLater}
use Rattle.interleavings.specs.Trails.{Trail}

-- the opening is the same, and the store was asked what the entries since then ask
pub record GoesOn {S : Type 0} (g : Ghosts S) (old new : State S) : Type 0 where
  pub rows : new.rows ≡ old.rows
  pub opened : new.opened ≡ old.opened
  pub trail : Trail g old.rows old.history old.store new.history new.store
  pub later : IsLater g old.store new.store

-- the history has the line's entry, which was allowed, and behind it the victims that break the
-- cycles of waits
pub record Enters {S : Type 0} (old new : State S) (by : By) (event : Event)
    (outcome : Outcome) : Type 0 where
  pub allowed : Allowed old.rows old.history by event (answer_of outcome)
  pub victims : List Name
  pub broken : AfterVictims (entry by event (answer_of outcome) ∷ old.history) victims new.history

-- the definition has no answer for the line yet
pub record StaysOut {S : Type 0} (old new : State S) (by : By) (event : Event)
    (outcome : Outcome) : Type 0 where
  pub none : answer old.rows old.history by event ≡ None
  pub outcome_is : outcome ≡ Waits
  pub same : new.history ≡ old.history

pub record Attempts {S : Type 0} (g : Ghosts S) (old new : State S) (by : By) (event : Event)
    (outcome : Outcome) : Type 0 where
  pub told : Enters old new by event outcome ⊎ StaysOut old new by event outcome
  pub on : GoesOn g old new
