-- What each call does to the manager.
use Rattle.std.specs.Prelude.{is_some, ◌≡◌, ◌⊎◌, ℕ, ◌&&◌, IsTrue, IsFalse, List, [], ◌∷◌, ◌++◌, Some, None}
use Rattle.txn_names.specs.declared.change.Change.{Change}
use Rattle.serial_spec.specs.declared.entry.By.{By}
use Rattle.serial_spec.specs.declared.event.Event.{Event}
use Rattle.serial_spec.specs.declared.target.Asked.{Asked}
use Rattle.serial_spec.specs.declared.event.Event.TheVariants.{Commit}
use Rattle.serial_spec.specs.History.{Name, History, event_of, is_live, is_orphan, begun}
use Rattle.serial_spec.specs.Waits.{wait_of}
use Rattle.serial_spec.specs.Rows.{value_in}
use Rattle.serial_spec.specs.Changes.{IsChanges}
use Rattle.serial_spec.specs.Allowed.{Allowed, answer, asks_store}
use Rattle.serial_spec.specs.declared.entry.Entry.{Entry}
use Rattle.manager_core.specs.declared.outcome.Outcome.TheVariants.{Waits}
use Rattle.serial_spec.specs.Legal.{first_live}
use Rattle.serial_spec.specs.Interleaving.{AfterVictims}
use Rattle.durable_top.specs.declared.store.TopStore.{Ghosts}
use Rattle.manager_core.specs.declared.outcome.Outcome.{Outcome}
use Rattle.manager_core.specs.Outcomes.{answer_of, is_done, is_of_store}
use Rattle.manager_core.specs.State.{State, entry}
use Rattle.manager_core.specs.Lines.{IsWaitOf}
use Rattle.manager_core.specs.Closing.{closings}
use Rattle.manager_core.specs.Asked.{IsLater, IsAsked}

-- the call's entry was allowed, and nothing changed but that the history has it
pub record Added {S : Type 0} (old new : State S) (by : By) (event : Event)
    (outcome : Outcome) : Type 0 where
  pub allowed : Allowed old.rows old.history by event (answer_of outcome)
  pub added : new ≡ record old { history = entry by event (answer_of outcome) ∷ old.history }

-- The call's entry was allowed, and after it those were aborted that break the cycles of waits,
-- each the last begun on any where it stands, until no cycle was left. Nothing changed but the
-- history
pub record Answered {S : Type 0} (old new : State S) (by : By) (event : Event)
    (outcome : Outcome) : Type 0 where
  pub allowed : Allowed old.rows old.history by event (answer_of outcome)
  pub victims : List Name
  pub broken : AfterVictims (entry by event (answer_of outcome) ∷ old.history) victims new.history
  pub beside : new ≡ record old { history = new.history }

-- whoever had to wait by this line does so, or has been aborted with a victim
pub record WaitsOrIsUndone (h : History) (by : By) (t : Name) (a : Asked) : Type 0 where
  pub waits : IsTrue (is_some (wait_of h t)) → IsWaitOf h by (event_of t a)
  pub undone : IsFalse (is_some (wait_of h t)) → IsTrue (is_orphan h t)

-- the definition has no answer for the line yet
pub record WaitsOn {S : Type 0} (old new : State S) (wait : Entry)
    (outcome : Outcome) : Type 0 where
  pub none : answer old.rows old.history wait.by wait.event ≡ None
  pub outcome_is : outcome ≡ Waits
  pub same : new ≡ old

-- the access by which the transaction waits was answered, or it waits on and nothing has changed
pub record Retried {S : Type 0} (old new : State S) (t : Name) (outcome : Outcome) : Type 0 where
  pub wait : Entry
  pub waits : wait_of old.history t ≡ Some wait
  pub told : Answered old new wait.by wait.event outcome ⊎ WaitsOn old new wait outcome

-- the store was asked once, to make the changes that are due, and what it answered decided the
-- commit
pub record IsDecided {S : Type 0} (g : Ghosts S) (old new : State S) (t : Name)
    (outcome : Outcome) : Type 0 where
  pub changes : List Change
  pub due : IsChanges (value_in old.rows) old.history t changes
  pub asked : IsAsked g old.store new.store changes (is_done outcome)

-- the commit's entry was allowed
pub record Committed {S : Type 0} (g : Ghosts S) (old new : State S) (by : By) (t : Name)
    (outcome : Outcome) : Type 0 where
  pub allowed : Allowed old.rows old.history by (Commit t) (answer_of outcome)
  -- beside the history only the table and the store may have changed
  pub added : new ≡
      record old {
        history = entry by (Commit t)
            (answer_of outcome) ∷ old.history;
        table = new.table;
        store = new.store;
      }
  -- the table only where the commit was done
  pub undone : IsFalse (is_done outcome) → new.table ≡ old.table
  -- both only where the store was asked: where there are changes, and no cause refuses the commit
  pub unasked : IsFalse (asks_store old.history (Commit t) && is_of_store outcome)
      → (new.table ≡ old.table) × (new.store ≡ old.store)
  pub asked : IsTrue (asks_store old.history (Commit t) && is_of_store outcome)
      → IsDecided g old new t outcome
  pub later : IsLater g old.store new.store

-- only closing entries were added, and no top-level transaction is live any more
pub record Closed {S : Type 0} (old new : State S) : Type 0 where
  pub names : List Name
  pub added : new ≡ record old { history = closings names ++ old.history }
  pub none_left : first_live new.history (begun new.history) ≡ None
  pub ended : (l : List ℕ) → IsFalse (is_live new.history (l ∷ []))
